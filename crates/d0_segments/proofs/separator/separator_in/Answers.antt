use Rattle.d0_segments.proofs.Separating.{first_from_search}
use Rattle.d0_segments.proofs.separator.separator_in.Goals as goal

pub returns-clause-place : goal.returns-clause-place
returns-clause-place c = first_from_search c.args.bytes.now c.memchr3.result c.memchr3.ensures

use Rattle.d0_segments.proofs.Passed.{passes_field}
use Rattle.d0_segments.proofs.passing.pass_field.Goals as goal

pub returns-clause-passes : goal.returns-clause-passes
returns-clause-passes c = let s = c.in_ok-_field in passes_field c.args.from s.behind s._field s.ensures.taken s.ensures.ends

use Rattle.std.proofs.Common.{◌∙◌}
use Rattle.d0_segments.specs.Pieces.{shared_of}
use Rattle.claim_profile.specs.AnswerTally.{answer_seen}
use Rattle.claim_profile.proofs.RulingLemmas.{ruling_is}
use Rattle.claim_profile.proofs.answer_reading.ruling.Goals as goal

pub returns : goal.returns
returns c = c.ruling_of.ensures ∙ ruling_is c.args.by c.args.header.now (shared_of c.args.group.bytes.now) (answer_seen c.of.result) c.of.ensures

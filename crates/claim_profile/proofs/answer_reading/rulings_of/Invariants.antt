use Rattle.std.proofs.Common.{◌≡◌, length}
use Rattle.d0_segments.specs.Pieces.{groups_of}
use Rattle.claim_profile.specs.Ruling.{rulings_in}
use Rattle.claim_profile.proofs.RulingList.{with_front}
use Rattle.claim_profile.proofs.answer_reading.rulings_of.Given as goal

abbrev pub invariant-loop-group : goal.invariant-loop-group
invariant-loop-group l = record {
  read : with_front l.rulings.items (rulings_in l.by l.header (groups_of l.rest.bytes.now)) ≡ rulings_in l.by l.header (groups_of l.fn.from.bytes.now);
  left : l.left ≡ length (groups_of l.rest.bytes.now);
}

abbrev pub decreases-loop-group : goal.decreases-loop-group
decreases-loop-group l = length l.rest.bytes.now

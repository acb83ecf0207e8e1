use Rattle.std.proofs.Common.{◌≡◌, List, length}
use Rattle.d0_segments.specs.Pieces.{groups_of}
use Rattle.claim_profile.specs.declared.ruling.Ruling.{Ruling}
use Rattle.claim_profile.specs.declared.answer_reading.Speaker.TheVariants.{Book}
use Rattle.claim_profile.specs.Ruling.{rulings_in}
use Rattle.claim_profile.proofs.RulingList.{with_front}
use Rattle.claim_profile.proofs.answer_reading.check_rulings.Given as goal

-- some rulings were read before
abbrev pub invariant-loop-group : goal.invariant-loop-group
invariant-loop-group l = record {
  read : (front : List Ruling) × (with_front front (rulings_in Book l.header (groups_of l.rest.bytes.now)) ≡ rulings_in Book l.header (groups_of l.fn.from.bytes.now));
  left : l.left ≡ length (groups_of l.rest.bytes.now);
}

abbrev pub decreases-loop-group : goal.decreases-loop-group
decreases-loop-group l = length l.rest.bytes.now

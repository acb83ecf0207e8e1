use Rattle.claim_profile.specs.Building.{reversal_said}
use Rattle.claim_profile.proofs.BuildingTexts.{reversal_written}
use Rattle.claim_profile.proofs.building_writing.write_reversal.Goals as goal

pub returns : goal.returns
returns c =
    rw (c.in_ok-put_dispensing.ensures, c.in_ok-extend_from_slice.ensures.items, c.in_ok-text.ensures.items, c.to_bytes.ensures.value)
    (reversal_written (reversal_said c.args.parts.now))

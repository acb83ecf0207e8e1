use Rattle.claim_profile.specs.Building.{billing_said}
use Rattle.claim_profile.proofs.BuildingTexts.{billing_written}
use Rattle.claim_profile.proofs.building_writing.write_billing.Goals as goal

pub returns : goal.returns
returns c =
    rw (c.in_ok-put_pricing.ensures, c.in_ok-put_quantity.ensures, c.in_ok-put_dispensing.ensures, c.in_ok-put_insurance.ensures, c.in_ok-extend_from_slice.ensures.items, c.in_ok-text.ensures.items, c.to_bytes.ensures.value)
    (billing_written (billing_said c.args.parts.now))

-- Messages that are read again as what they were made of.
use Rattle.std.specs.Prelude.{◌≡◌, Some, Ok}
use Rattle.d0_segments.specs.Framing.{request_kind, transmission_of}
use Rattle.claim_profile.specs.Building.{Billing, billing_group, billing_parts, billing_text, claim_billed, Reversing, reversal_asked, reversal_group, reversal_parts, reversal_text}
use Rattle.claim_profile.specs.Order.{order_of}
use Rattle.claim_profile.specs.Readable.{readable_header}
use Rattle.claim_profile.specs.declared.order.Order.TheVariants as order

-- the text of a billing is readable, has these segments, and its order is the claim that the billing says
pub record IsReadBilling (b : Billing) : Type 0 where
  pub readable : readable_header (billing_text b) ≡ Some b.header
  pub framed : transmission_of request_kind (billing_text b) ≡ Some (billing_parts b)
  pub order : order_of b.header (billing_parts b).shared (billing_group b) ≡ Ok (order.Claim (claim_billed b))

-- the same of a reversal
pub record IsReadReversal (r : Reversing) : Type 0 where
  pub readable : readable_header (reversal_text r) ≡ Some r.header
  pub framed : transmission_of request_kind (reversal_text r) ≡ Some (reversal_parts r)
  pub order : order_of r.header (reversal_parts r).shared (reversal_group r) ≡ Ok (order.Reversal (reversal_asked r))

-- The payments that a pharmacy counts, each as a row.
use Rattle.std.specs.Prelude.{ℕ, List, [], ◌∷◌, codes}
use Rattle.std.specs.List.{flat_map}
use Rattle.claim_profile.specs.Authorization.{authorization_text}
use Rattle.claim_model.specs.Counted.{Counted}
use Rattle.table_text.specs.Members.{Row}
use Rattle.log_audit.specs.Kinds.{number_member, text_member}

-- the row of a payment that a pharmacy counts
unfoldable pub counted_row : ℕ → Counted → Row
counted_row pharmacy c =
    number_member (codes "pharmacy") pharmacy ∷
    number_member (codes "payer") c.auth.payer ∷
    text_member (codes "authorization") (authorization_text c.auth) ∷
    number_member (codes "cost_cents") c.amounts.cost ∷
    number_member (codes "fee_cents") c.amounts.fee ∷
    number_member (codes "copay_cents") c.amounts.copay ∷
    number_member (codes "paid_cents") c.amounts.total ∷
    number_member (codes "prescription") c.fill.prescription ∷
    number_member (codes "fill") c.fill.fill ∷ []

-- the rows of some payments that a pharmacy counts
abbrev pub counted_rows : ℕ → List Counted → List Row
counted_rows pharmacy cs = flat_map (λ (c : Counted). counted_row pharmacy c ∷ []) cs

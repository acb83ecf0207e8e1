-- Changes of terms, each as a row: the fee and the copay of a payer before, and those that it has then.
use Rattle.std.specs.Prelude.{ℕ, ◌-◌, List, [], ◌∷◌, slice_get, codes, Option, Some, None, option_map}
use Rattle.claim_model.specs.Node.{Revision, OfPlan, OfRule, OfCap}
use Rattle.claim_model.specs.Words.{SetPrice, SetTerms}
use Rattle.table_text.specs.Members.{Row}
use Rattle.world_setup.specs.declared.settings.PayerSettings.{PayerSettings}
use Rattle.world_setup.specs.declared.settings.WorldSettings.{WorldSettings}
use Rattle.log_audit.specs.Changes.{Placed}
use Rattle.log_audit.specs.Following.{rows_of}
use Rattle.log_audit.specs.Kinds.{number_member, optional_member}
use Rattle.log_audit.specs.declared.revisions.terms.Terms.{Terms}

-- the terms under the settings of a payer, where there is such a payer
abbrev pub payer_terms : PayerSettings → Terms
payer_terms p = record { fee = p.plan.fee; copay = p.plan.copay }

abbrev pub opening_terms : WorldSettings → ℕ → Option Terms
opening_terms s payer = option_map payer_terms (slice_get s.payers.items (payer - 1))

-- the terms of a change, if it is one of terms
abbrev pub terms_of : Revision → Option Terms
terms_of (OfPlan (SetPrice product price)) = None
terms_of (OfPlan (SetTerms fee copay)) = Some (record { fee = fee; copay = copay })
terms_of (OfRule rule) = None
terms_of (OfCap most) = None

-- the row of a change of a payer's terms from these to those; its place has this name
unfoldable pub terms_row : List ℕ → ℕ → ℕ → Option Terms → Terms → Row
terms_row name payer place before after =
    number_member (codes "payer") payer ∷
    number_member name place ∷
    optional_member (codes "fee_before_cents") (option_map (λ (t : Terms). t.fee) before) ∷
    optional_member (codes "copay_before_cents") (option_map (λ (t : Terms). t.copay) before) ∷
    number_member (codes "fee_after_cents") after.fee ∷
    number_member (codes "copay_after_cents") after.copay ∷ []

-- the row of a change after these, if it is one of terms
abbrev pub terms_rows : WorldSettings → List ℕ → List Placed → Placed → List Row
terms_rows s name = rows_of terms_of (opening_terms s) (terms_row name)

-- the names of the columns
abbrev pub terms_names : List ℕ → List (List ℕ)
terms_names name =
    codes "payer" ∷ name ∷ codes "fee_before_cents" ∷ codes "copay_before_cents" ∷ codes "fee_after_cents" ∷ codes "copay_after_cents" ∷ []

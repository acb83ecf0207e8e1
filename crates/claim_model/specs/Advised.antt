-- What a payer that asks rules: what its advice says.
use Rattle.std.specs.Prelude.{◌≡◌, ℕ, ◌+◌, ⊤, List, [], ◌∷◌, ◌++◌, Some, Result}
use Rattle.claim_model.specs.Words.{Advice, TxnId, Order, Code, Ruling}
use Rattle.claim_model.specs.Context.{Context}
use Rattle.claim_model.specs.Numbered.{numbered}
use Rattle.claim_model.specs.Ruled.{Ruled, ruled}
use Rattle.claim_model.specs.Rows.{Book, ruled_rows}
use Rattle.claim_model.specs.Judgement.{Judged, Unpriced, ToPrice, ToReverse, judged, Verdict, verdict_in, next_auth, priced, consent_of, Consent, taken_back}
use Rattle.claim_model.specs.Book.{carried_by, Answered}

-- what is settled without a price is ruled so; a claim that is to be priced by the verdict that the advice has on it at its place; a reversal of a
-- payment by the consent that is given, which is the advice's where the payer asks about reversals
abbrev pub AsAdvised : Book → Advice → List Ruled → ℕ → Judged → Ruling → Type 0
AsAdvised b advice before place (Unpriced settled) r = r ≡ settled
AsAdvised b advice before place (ToPrice c) r = (v : Verdict) × (verdict_in c.fill.prescription (numbered advice.rulings place) ≡ Some v) × (r ≡ priced (next_auth b before) c (Some v))
AsAdvised b advice before place (ToReverse auth v) r = (k : Consent) × (consent_of b advice place v ≡ Some k) × (r ≡ taken_back auth v (Some k))

-- one such ruling for each order from a place on
abbrev pub AllAsAdvised : Book → Advice → List Ruled → TxnId → ℕ → List (Result Order (List Code)) → List Ruling → Type 0
AllAsAdvised b advice before id place [] [] = ⊤
AllAsAdvised b advice before id place [] (r ∷ rulings) = ⊥
AllAsAdvised b advice before id place (order ∷ orders) [] = ⊥
AllAsAdvised b advice before id place (order ∷ orders) (r ∷ rulings) =
    AsAdvised b advice before place (judged before order) r × AllAsAdvised b advice (before ++ ruled id place order r ∷ []) id (place + 1) orders rulings

-- the book has one row more, whose rulings are as the advice says, and which carries what the advice says beside these, where answers do; without a
-- text of an advice, what is repeated
pub record EntersAdvised (ctx : Context) (b : Book) (advice : Advice) (id : TxnId) (request : List ℕ) (a : Answered) : Type 0 where
  pub rulings : List Ruling
  pub advised : AllAsAdvised b advice (ruled_rows ctx b.rows) id 1 (ctx.orders request) rulings
  pub rows : a.book.rows ≡ b.rows ++ record { id = id; request = request; rulings = rulings; carried = carried_by ctx b advice request rulings } ∷ []

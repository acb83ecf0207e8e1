-- What holds of a book beside its payments: it is made by adding its rows, and what stands in it can be told in an answer.
use Rattle.std.specs.Prelude.{◌≡◌, ℕ, ◌≤◌, List, [], map, length, Some, ⊤}
use Rattle.std.specs.List.{AllByRecursion}
use Rattle.claim_model.specs.Words.{Plan}
use Rattle.claim_model.specs.Laws.{IsAuth, IsAmounts, AdvisesWell}
use Rattle.claim_model.specs.Rows.{Row, BookSettings}
use Rattle.payer_book.specs.declared.book.payment.Standing.{Standing}
use Rattle.payer_book.specs.Ledger.{Ledger, standing_in}
use Rattle.payer_book.specs.Drafts.{Pricing, ByPlan, AsKept}
use Rattle.payer_book.specs.Added.{kept_row, added_all}

-- a payment that an answer can tell of
pub record IsTold (s : Standing) : Type 0 where
  pub auth : IsAuth s.auth
  pub amounts : IsAmounts s.amounts

-- verdicts that can be written
abbrev pub ArePrices : Pricing → Type 0
ArePrices (ByPlan plan) = ⊤
ArePrices (AsKept settings said) = AdvisesWell said

-- the book of some rows is what adding them, in order, to an empty book makes, whatever its plan is
abbrev pub MadeByAdding : ℕ → BookSettings → List Row → Type 0
MadeByAdding payer settings rows =
    (plan : Plan) → added_all (Some (record { payer = payer; settings = settings; plan = plan; rows = [] })) (map kept_row rows) ≡ Some (record { payer = payer; settings = settings; plan = plan; rows = rows })

-- the payer and the serials are those of authorizations, and the rows are such that they can be added one by one
pub record IsMade (number : ℕ) (settings : BookSettings) (rows : List Row) (l : Ledger) : Type 0 where
  pub some_payer : 1 ≤ number
  pub payer_fits : number ≤ 9999
  pub some_serial : 1 ≤ settings.serial
  pub in_limit : length rows ≤ settings.cap
  pub made : MadeByAdding number settings rows
  pub told : AllByRecursion IsTold (standing_in l.payments)

-- States that agree, part by part: each row with what its pharmacy submitted, each answer with what was decided.
use Rattle.std.specs.Prelude.{◌≡◌, ◌⊎◌, ℕ, ◌+◌, List, Option, Some, MatchOption, option_and_then, slice_get}
use Rattle.claim_model.specs.Words.{TxnId}
use Rattle.claim_model.specs.Context.{Context}
use Rattle.claim_model.specs.Numbered.{numbered}
use Rattle.claim_model.specs.Rows.{Row, Book}
use Rattle.claim_model.specs.Journal.{JournalAtRest, Kept}
use Rattle.claim_model.specs.Held.{journal_in, book_in, asked, decided}
use Rattle.claim_model.specs.Logs.{NodeLog}
use Rattle.vouched_runs.specs.Parties.{Parties, world_of}
use Rattle.vouched_runs.specs.Agreeing.{Agree, payer_of}
use Rattle.days_audit.specs.Orders.{IsOrdered}
use Rattle.days_audit.specs.declared.days.Days.{Days}
use Rattle.days_audit.specs.declared.days.Days.TheVariants.{Legal, Not}

-- a search finds something only where something does not hold, and nothing only where it does
abbrev pub Finds : {A : Type 0} → Option A → Type 0 → Type 0
Finds found P = MatchOption found P (λ it. P → ⊥)

-- this holds of each element, at its place from 0
abbrev pub Each : {A : Type 0} → (ℕ → A → Type 0) → List A → Type 0
Each P xs = (k : ℕ) (x : _) → slice_get xs k ≡ Some x → P k x

-- a row of the payer of this number
pub record RowFits (ctx : Context) (p : Parties) (n : ℕ) (row : Row) : Type 0 where
  pub asks : asked (world_of p) row.id ≡ Some row.request
  pub routed : payer_of ctx row ≡ Some n

abbrev pub BookFits : Context → Parties → ℕ → Book → Type 0
BookFits ctx p n b = Each (λ k row. RowFits ctx p n row) b.rows

abbrev pub AllRowsFit : Context → Parties → Type 0
AllRowsFit ctx p = Each (λ k s. BookFits ctx p (k + 1) (book_in s)) p.payers

-- the answer of a journal under an id, if it has one, was decided
abbrev pub AnswerFits : Context → Parties → TxnId → JournalAtRest → Type 0
AnswerFits ctx p id j = (a : List ℕ) → option_and_then (λ (e : Kept). e.answer) (numbered j.entries id.number) ≡ Some a → decided ctx (world_of p) id ≡ Some a

abbrev pub JournalFits : Context → Parties → ℕ → JournalAtRest → Type 0
JournalFits ctx p n j = (number : ℕ) → AnswerFits ctx p (record { pharmacy = n; number = number }) j

abbrev pub AllAnswersFit : Context → Parties → Type 0
AllAnswersFit ctx p = Each (λ k s. JournalFits ctx p (k + 1) (journal_in s)) p.pharmacies

-- logs are those of days from these parties: they agree, and an order was found; or they do not agree, or there is no order
abbrev pub IsAgreed : Context → Parties → List NodeLog → Days → Type 0
IsAgreed ctx p logs (Legal calls) = Agree ctx p × IsOrdered ctx p logs (Legal calls)
IsAgreed ctx p logs (Not lines) = (Agree ctx p → ⊥) ⊎ IsOrdered ctx p logs (Not lines)

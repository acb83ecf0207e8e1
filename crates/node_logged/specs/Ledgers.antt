-- Ledgers: what the journal of a pharmacy has, beside what its tills have.
use Rattle.std.specs.Prelude.{◌≡◌, ℕ, suc, ◌+◌, Bool, true, false, cond, ◌==◌, ◌&&◌, List, [], ◌∷◌, length, slice_get, flat_map, Option, Some, None, option_and_then, nat_eq}
use Rattle.std.specs.List.{list_any, list_all}
use Rattle.std.specs.Cmp.Lexicographic.{pointwise}
use Rattle.claim_model.specs.Journal.{Kept}
use Rattle.claim_model.specs.Numbered.{numbered}
use Rattle.node_logged.specs.Tills.{Receipt, Till}

-- a pharmacy, and the entries of its journal, numbered from 1
pub record Ledger : Type 0 where
  pub pharmacy : ℕ
  pub entries : List Kept

-- the receipts that a till has of a pharmacy
abbrev pub receipts_of : ℕ → Till → List Receipt
receipts_of pharmacy till = cond (till.pharmacy == pharmacy) till.receipts []

-- the answers that were heard at a till of a pharmacy
abbrev pub heard_of : ℕ → Till → List (ℕ × List ℕ)
heard_of pharmacy till = cond (till.pharmacy == pharmacy) till.heard []

-- the receipts of all tills of a pharmacy
abbrev pub receipts_at : ℕ → List Till → List Receipt
receipts_at pharmacy tills = flat_map (receipts_of pharmacy) tills

-- the answers that were heard at all tills of a pharmacy
abbrev pub heard_at : ℕ → List Till → List (ℕ × List ℕ)
heard_at pharmacy tills = flat_map (heard_of pharmacy) tills

-- whether the tills have as many receipts as the journal has entries
abbrev pub counts_agree : List Till → Ledger → Bool
counts_agree tills ledger = length (receipts_at ledger.pharmacy tills) == length ledger.entries

-- whether a receipt has this number and this request
abbrev pub is_receipt : ℕ → List ℕ → Receipt → Bool
is_receipt number request r = r.number == number && pointwise nat_eq request r.request

-- whether there is a receipt with this number and this request
abbrev pub has_one : ℕ → List ℕ → List Receipt → Bool
has_one number request receipts = list_any (is_receipt number request) receipts

-- whether each entry from this number on has a receipt with its number and its request
abbrev pub each_has_one : ℕ → List Kept → List Receipt → Bool
each_has_one number [] receipts = true
each_has_one number (entry ∷ more) receipts = has_one number entry.request receipts && each_has_one (number + 1) more receipts

-- whether each entry of the journal has a receipt
abbrev pub has_receipts : List Till → Ledger → Bool
has_receipts tills ledger = each_has_one 1 ledger.entries (receipts_at ledger.pharmacy tills)

-- the answer of a journal's entry
abbrev pub answer_at : List Kept → ℕ → Option (List ℕ)
answer_at entries number = option_and_then (λ k. k.answer) (numbered entries number)

abbrev pub is_equal : Option (List ℕ) → List ℕ → Bool
is_equal None answer = false
is_equal (Some held) answer = pointwise nat_eq held answer

-- whether an answer that was heard is that of the entry of its number
abbrev pub is_answer : List Kept → (ℕ × List ℕ) → Bool
is_answer entries heard = is_equal (answer_at entries heard.0) heard.1

-- whether each answer that was heard of a pharmacy is the journal's
abbrev pub has_answers : List Till → Ledger → Bool
has_answers tills ledger = list_all (is_answer ledger.entries) (heard_at ledger.pharmacy tills)

-- the first pharmacy whose tills do not have as many receipts as its journal has entries
abbrev pub lacking : List Till → List Ledger → Option ℕ
lacking tills [] = None
lacking tills (ledger ∷ more) = cond (counts_agree tills ledger) (lacking tills more) (Some ledger.pharmacy)

-- the receipts that entries would have that are numbered from this number on
abbrev pub receipts_from : ℕ → List Kept → List Receipt
receipts_from number [] = []
receipts_from number (entry ∷ more) = record { number = number; request = entry.request } ∷ receipts_from (number + 1) more

-- the receipts that the entries of a journal would have
abbrev pub receipts_for : List Kept → List Receipt
receipts_for entries = receipts_from 1 entries

-- the place of an entry that has the number and the request of a receipt
pub record IsEntryOf (entries : List Kept) (r : Receipt) (place : ℕ) : Type 0 where
  pub number : r.number ≡ suc place
  pub entry : Kept
  pub at : slice_get entries place ≡ Some entry
  pub same : entry.request ≡ r.request

-- no entry has the number and the request of a receipt
abbrev pub IsOfNone : List Kept → Receipt → Type 0
IsOfNone entries r = (place : ℕ) → IsEntryOf entries r place → ⊥

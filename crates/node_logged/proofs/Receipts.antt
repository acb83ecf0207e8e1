-- Receipts of which each entry has its own, and which are as many as the entries, are those of the entries, each exactly once.
use Rattle.std.proofs.Common.{◌≡◌, ℕ, zero, suc, ◌+◌, List, [], ◌∷◌, length, Some, Contains, slice_get, IsPermutation, refl, sym, ap, subst, arith}
use Rattle.std.specs.List.{remove}
use Rattle.std.proofs.lemmas.List.Sorted.{IsPermutation-refl, IsPermutation-trans, IsPermutation-cons, IsPermutation-remove, Contains-permutation, length_permutation}
use Rattle.claim_model.specs.Journal.{Kept}
use Rattle.claim_model.specs.Numbered.{numbered}
use Rattle.node_logged.specs.Tills.{Receipt, Till}
use Rattle.node_logged.specs.Ledgers.{Ledger, receipts_at, receipts_from, receipts_for}
use Rattle.node_logged.specs.Judged.{AreReceipts}

-- the receipt of an entry
abbrev receipt : ℕ → Kept → Receipt
receipt number entry = record { number = number; request = entry.request }

-- each of the entries that are numbered from this number on has a receipt
abbrev EachHasOne : ℕ → List Kept → List Receipt → Type 0
EachHasOne first entries receipts = (place number : ℕ) (entry : Kept) → number ≡ first + place → slice_get entries place ≡ Some entry → Contains receipts (receipt number entry)

-- a receipt of another number is among the others
among_others : (one other : Receipt) (others : List Receipt) → (one.number ≡ other.number → ⊥) → Contains (one ∷ others) other → Contains others other
among_others one other others differs (zero, lt, is) = absurd (differs (ap (λ (r : Receipt). r.number) is))
among_others one other others differs (suc k, lt, is) = (k, omega (arith, lt), is)

-- where the receipt of the first entry is taken out, each later entry has its receipt still
later_have : (first : ℕ) (entry : Kept) (more : List Kept) (receipts others : List Receipt) → IsPermutation receipts (receipt first entry ∷ others)
    → EachHasOne first (entry ∷ more) receipts → EachHasOne (first + 1) more others
later_have first entry more receipts others same each place number later is at =
    let kept = Contains-permutation receipts (receipt first entry ∷ others) (receipt number later) same (each (suc place) number later (omega (arith, is)) at) in
    among_others (receipt first entry) (receipt number later) others (λ (e : first ≡ number). absurd (omega (arith, is, e))) kept

-- entries that are numbered from this number on
from_number : (first : ℕ) (entries : List Kept) (receipts : List Receipt) → length receipts ≡ length entries → EachHasOne first entries receipts → IsPermutation receipts (receipts_from first entries)
from_number first [] [] count each = IsPermutation-refl []
from_number first [] (r ∷ receipts) count each = absurd (omega (arith, count))
from_number first (entry ∷ more) receipts count each =
    let found = each 0 first entry (omega arith) refl in
    let others = remove receipts found.0 in
    let taken : IsPermutation receipts (receipt first entry ∷ others) = IsPermutation-remove receipts found.0 (receipt first entry) found.1 (sym found.2) in
    let long = length_permutation receipts (receipt first entry ∷ others) taken in
    let rest = from_number (first + 1) more others (omega (arith, long, count)) (later_have first entry more receipts others taken each) in
    IsPermutation-trans receipts (receipt first entry ∷ others) (receipts_from first (entry ∷ more)) taken (IsPermutation-cons (receipt first entry) others (receipts_from (first + 1) more) rest)

-- those of a journal
pub each_once : (tills : List Till) (ledger : Ledger) → AreReceipts tills ledger → IsPermutation (receipts_at ledger.pharmacy tills) (receipts_for ledger.entries)
each_once tills ledger are =
    from_number 1 ledger.entries (receipts_at ledger.pharmacy tills) are.count (λ place number entry is at.
    let next : suc place ≡ number = omega (arith, is) in
    are.each number entry (subst (λ n. numbered ledger.entries n ≡ Some entry) next at))

-- Transaction codes, read and written.
use Rattle.std.proofs.Common.{◌≡◌, ℕ, Bool, true, false, List, Option, Some, None, codes, refl, ap, ◌∙◌}
use Rattle.std.specs.Prelude.{is_some, if◌then◌else◌}
use Rattle.std.specs.Str.{bytes_eq}
use Rattle.std.proofs.lemmas.Slice.Eq.{bytes_eq-Decides}
use Rattle.claim_profile.specs.declared.transaction.TransactionCode.{TransactionCode}
use Rattle.claim_profile.specs.declared.transaction.TransactionCode.TheVariants.{Billing, Reversal}
use Rattle.claim_profile.specs.Transaction.{code_bytes, transaction_code}

-- what is written is read back
pub reads_back : (kind : TransactionCode) → transaction_code (code_bytes kind) ≡ Some kind
unfolding transaction_code
reads_back Billing = refl
reads_back Reversal = refl

-- and so are bytes that are said to be a code's
pub coded : (bytes : List ℕ) (kind : TransactionCode) → bytes ≡ code_bytes kind → transaction_code bytes ≡ Some kind
coded bytes kind e = ap transaction_code e ∙ reads_back kind

by_tests : (bytes : List ℕ) (a b : Bool) → bytes_eq bytes (code_bytes Billing) ≡ a → bytes_eq bytes (code_bytes Reversal) ≡ b → (kind : TransactionCode)
    → (if a then Some Billing else (if b then Some Reversal else None)) ≡ Some kind → bytes ≡ code_bytes kind
by_tests bytes true b first second Billing e = (bytes_eq-Decides bytes (codes "B1")).0 first
by_tests bytes true b first second Reversal e = absurd cc
by_tests bytes false true first second Billing e = absurd cc
by_tests bytes false true first second Reversal e = (bytes_eq-Decides bytes (codes "B2")).0 second
by_tests bytes false false first second kind e = absurd cc

-- what is read as a code was written so
pub only : (bytes : List ℕ) (kind : TransactionCode) → transaction_code bytes ≡ Some kind → bytes ≡ code_bytes kind
unfolding transaction_code
only bytes kind e = by_tests bytes (bytes_eq bytes (code_bytes Billing)) (bytes_eq bytes (code_bytes Reversal)) refl refl kind e

-- where there is a code, it is one
pub some_code : (o : Option TransactionCode) → is_some o ≡ true → (kind : TransactionCode) × (o ≡ Some kind)
some_code None e = absurd cc
some_code (Some kind) e = (kind, refl)

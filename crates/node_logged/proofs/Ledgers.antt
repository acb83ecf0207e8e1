-- Entries and their receipts.
use Rattle.std.proofs.Common.{◌≡◌, ℕ, zero, suc, ◌-◌, true, nat_eq, List, Some, sym, subst, arith}
use Rattle.std.specs.Cmp.Lexicographic.{pointwise, bytes_decides}
use Rattle.claim_model.specs.Journal.{Kept}
use Rattle.claim_model.specs.Numbered.{numbered}
use Rattle.node_logged.specs.Tills.{Receipt}
use Rattle.node_logged.specs.Ledgers.{IsEntryOf}

-- the entry of a receipt
pub entry_of : (entries : List Kept) (r : Receipt) (number : ℕ) (entry : Kept) → numbered entries number ≡ Some entry → number ≡ r.number → pointwise nat_eq entry.request r.request ≡ true → IsEntryOf entries r (number - 1)
entry_of entries r zero entry e n s = absurd cc
entry_of entries r (suc k) entry e n s =
    let less : k ≡ suc k - 1 = omega arith in
    subst (IsEntryOf entries r) less (record { number = sym n; entry = entry; at = e; same = (bytes_decides entry.request r.request).0 s })

use Rattle.std.proofs.Common.{◌≡◌, ◌++◌, drop}
use Rattle.rejected_rows.specs.Keys.{keys_in}
use Rattle.rejected_rows.proofs.EachOnce.{not_among}
use Rattle.rejected_rows.proofs.keys.keys_of.Given as goal

-- the keys so far, and then those of the requests that are left which are none of them
abbrev pub invariant-loop-key : goal.invariant-loop-key
invariant-loop-key l = l.keys.items ++ not_among l.keys.items (keys_in (drop l.key-index l.rejected)) ≡ keys_in l.rejected

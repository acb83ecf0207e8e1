use Rattle.std.proofs.Common.{◌≡◌, drop}
use Rattle.std.specs.Prelude.{unwrap_or}
use Rattle.rejected_rows.specs.Keys.{last_of}
use Rattle.rejected_rows.proofs.keys.last_of.Given as goal

-- the last so far, where none of those that are left has the key
abbrev pub invariant-loop-number : goal.invariant-loop-number
invariant-loop-number l = unwrap_or (last_of l.key (drop l.number-index l.rejected)) l.last ≡ unwrap_or (last_of l.key l.rejected) 0

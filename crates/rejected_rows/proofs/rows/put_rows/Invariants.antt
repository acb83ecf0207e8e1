use Rattle.std.proofs.Common.{◌≡◌, ◌++◌, drop}
use Rattle.rejected_rows.specs.Rows.{rows_text}
use Rattle.rejected_rows.proofs.rows.put_rows.Given as goal

-- the rows so far, and then those of the keys that are left
abbrev pub invariant-loop-key : goal.invariant-loop-key
invariant-loop-key l = l.out.items ++ rows_text l.rejected (drop l.key-index l.keys) ≡ l.initial.out.items ++ rows_text l.rejected l.keys

use Rattle.std.proofs.Common.{◌≡◌, ◌++◌, drop}
use Rattle.rejected_rows.specs.Strings.{escaped}
use Rattle.rejected_rows.proofs.escaping.put_escaped.Given as goal

-- the text so far, and then that of the bytes that are left
abbrev pub invariant-loop-byte : goal.invariant-loop-byte
invariant-loop-byte l = l.out.items ++ escaped (drop l.byte-index l.text) ≡ l.initial.out.items ++ escaped l.text

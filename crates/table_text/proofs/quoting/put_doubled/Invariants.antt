use Rattle.std.proofs.Common.{◌≡◌, ◌++◌, drop}
use Rattle.std.specs.List.{flat_map}
use Rattle.table_text.specs.Quoting.{csv_byte}
use Rattle.table_text.proofs.quoting.put_doubled.Given as goal

-- the text so far, and then that of the bytes that are left
abbrev pub invariant-loop-byte : goal.invariant-loop-byte
invariant-loop-byte l = l.out.items ++ flat_map csv_byte (drop l.byte-index l.bytes) ≡ l.initial.out.items ++ flat_map csv_byte (l.bytes)

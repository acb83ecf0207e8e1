use Rattle.std.proofs.Common.{◌≡◌, ◌++◌, drop, length}
use Rattle.std.specs.List.{flat_map}
use Rattle.log_audit.specs.Lones.{open_text}
use Rattle.log_audit.proofs.alone.lines.put_open_of.Given as goal

-- the lines so far, and then those of the entries that are left
abbrev pub invariant-loop-entry : goal.invariant-loop-entry
invariant-loop-entry l =
    l.out.items ++ flat_map (open_text (length l.entries) l.number l.log.calls.items) (drop l.entry-index l.entries)
    ≡ l.initial.out.items ++ flat_map (open_text (length l.entries) l.number l.log.calls.items) l.entries

use Rattle.std.proofs.Common.{◌≡◌, ◌++◌, drop, length}
use Rattle.std.specs.List.{flat_map}
use Rattle.table_text.specs.Rows.{rows_text}
use Rattle.world_setup.specs.Seen.{node_seen}
use Rattle.log_audit.specs.Kinds.{number_of}
use Rattle.log_audit.specs.Lones.{open_rows}
use Rattle.log_audit.proofs.alone.tables.put_open_entries.Given as goal

-- the rows so far, and then those of the entries that are left
abbrev pub invariant-loop-entry : goal.invariant-loop-entry
invariant-loop-entry g l =
    l.out ++ rows_text l.style (flat_map (open_rows (length l.entries) (number_of (node_seen l.log.node)) l.log.calls.items) (drop l.entry-index l.entries))
    ≡ l.initial.out ++ rows_text l.style (flat_map (open_rows (length l.entries) (number_of (node_seen l.log.node)) l.log.calls.items) l.entries)

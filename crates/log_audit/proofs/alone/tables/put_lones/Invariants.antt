use Rattle.std.proofs.Common.{◌≡◌, ◌++◌, drop}
use Rattle.std.specs.List.{flat_map}
use Rattle.bin_routes.specs.Table.{RouteMaps}
use Rattle.claim_model.specs.Bytes.{bytes_with}
use Rattle.table_text.specs.Rows.{rows_text}
use Rattle.pharmacy_journal.specs.Counting.{has_auth}
use Rattle.log_audit.specs.AloneSeen.{lones_seen}
use Rattle.log_audit.specs.Lones.{rows_of}
use Rattle.log_audit.proofs.alone.tables.put_lones.Given as goal

-- the rows so far, and then those of the logs that are left
abbrev pub invariant-loop-lone : goal.invariant-loop-lone
invariant-loop-lone g l =
    (routes : RouteMaps) → l.out ++ rows_text l.style (flat_map (rows_of (bytes_with routes) (has_auth l.counted.keys) l.table) (lones_seen (drop l.lone-index l.lones)))
    ≡ l.initial.out ++ rows_text l.style (flat_map (rows_of (bytes_with routes) (has_auth l.counted.keys) l.table) (lones_seen l.lones))

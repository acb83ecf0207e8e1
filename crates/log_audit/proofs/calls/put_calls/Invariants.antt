use Rattle.std.proofs.Common.{◌≡◌, ◌+◌, ◌≤◌, ◌++◌, drop}
use Rattle.bin_routes.specs.Table.{RouteMaps}
use Rattle.claim_model.specs.Bytes.{bytes_with}
use Rattle.world_setup.specs.Seen.{node_seen}
use Rattle.table_text.specs.Rows.{rows_text}
use Rattle.table_text.specs.declared.layout.Style.TheVariants.{Csv}
use Rattle.log_audit.specs.Calls.{call_rows}
use Rattle.log_audit.proofs.calls.put_calls.Given as goal

-- the rows so far, and then those of the records that are left; there are not more submissions than records
abbrev pub invariant-loop-place : goal.invariant-loop-place
invariant-loop-place l = record {
  told : (routes : RouteMaps) → l.out.items ++ rows_text Csv (call_rows (bytes_with routes) (node_seen l.node) (l.place + 1) l.submissions (drop l.place l.calls))
      ≡ l.initial.out.items ++ rows_text Csv (call_rows (bytes_with routes) (node_seen l.node) 1 0 l.calls);
  few : l.submissions ≤ l.place;
}

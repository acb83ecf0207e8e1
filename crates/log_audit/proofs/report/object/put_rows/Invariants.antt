use Rattle.std.proofs.Common.{◌≡◌, ◌++◌, [], ◌∷◌, drop}
use Rattle.std.specs.Prelude.{slice_index}
use Rattle.node_log.specs.LogSeen.{logs_seen}
use Rattle.log_audit.specs.Payments.{told_from}
use Rattle.table_text.specs.Rows.{rows_text}
use Rattle.log_audit.specs.Telling.{log_row, log_rows}
use Rattle.table_text.specs.declared.layout.Style.TheVariants.{Json}
use Rattle.log_audit.proofs.report.object.put_rows.Given as goal

-- the rows so far, and then those of the logs that are left
abbrev pub invariant-loop-place : goal.invariant-loop-place
invariant-loop-place l =
    l.rows.items ++ rows_text Json (told_from (λ place log. log_row log (slice_index l.torn place) ∷ []) l.place (logs_seen (drop l.place l.logs)))
    ≡ l.initial.rows.items ++ rows_text Json (log_rows (logs_seen l.logs) l.torn)

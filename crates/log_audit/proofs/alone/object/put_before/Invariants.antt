use Rattle.std.proofs.Common.{◌≡◌, ◌++◌, drop}
use Rattle.std.specs.List.{flat_map}
use Rattle.table_text.specs.Rows.{rows_text}
use Rattle.table_text.specs.declared.layout.Style.TheVariants.{Json}
use Rattle.log_audit.specs.AloneSeen.{lones_seen}
use Rattle.log_audit.specs.Lones.{before_rows}
use Rattle.log_audit.proofs.alone.object.put_before.Given as goal

-- the rows so far, and then those of the logs that are left
abbrev pub invariant-loop-lone : goal.invariant-loop-lone
invariant-loop-lone l =
    l.rows.items ++ rows_text Json (flat_map before_rows (lones_seen (drop l.lone-index l.lones)))
    ≡ l.initial.rows.items ++ rows_text Json (flat_map before_rows (lones_seen l.lones))

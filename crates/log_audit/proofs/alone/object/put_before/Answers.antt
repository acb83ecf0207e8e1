use Rattle.std.proofs.Common.{refl}
use Rattle.std.specs.List.{flat_map}
use Rattle.table_text.specs.declared.layout.Style.TheVariants.{Json}
use Rattle.log_audit.specs.AloneSeen.{lones_seen}
use Rattle.log_audit.specs.Lones.{before_rows}
use Rattle.log_audit.proofs.Joining.{rows_go_on, rows_are_done}
use Rattle.log_audit.proofs.alone.object.put_before.Goals as goal

pub loop-lone-preserved : goal.loop-lone-preserved
loop-lone-preserved c =
    rows_go_on Json (λ lones. flat_map before_rows (lones_seen lones)) _ _ c.loop-lone.rows.items c.put_before_row.new.rows.items _ c.args.lones.now c.loop-lone.lone-index c.lone-item.result c.loop-lone-test.true c.lone-item.is refl c.in_ok-put_before_row.ensures c.loop-lone.invariant

pub returns : goal.returns
returns c = rows_are_done Json (λ lones. flat_map before_rows (lones_seen lones)) c.loop-lone.rows.items _ c.args.lones.now c.loop-lone.lone-index c.loop-lone-test.false refl c.loop-lone.invariant

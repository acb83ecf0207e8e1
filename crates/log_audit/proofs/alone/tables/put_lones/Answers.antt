use Rattle.std.proofs.Common.{refl}
use Rattle.std.specs.List.{flat_map}
use Rattle.claim_model.specs.Bytes.{bytes_with}
use Rattle.pharmacy_journal.specs.Counting.{has_auth}
use Rattle.log_audit.specs.AloneSeen.{lones_seen}
use Rattle.log_audit.specs.Lones.{rows_of}
use Rattle.log_audit.proofs.Joining.{rows_go_on, rows_are_done}
use Rattle.log_audit.proofs.alone.tables.put_lones.Goals as goal

pub loop-lone-preserved : goal.loop-lone-preserved
loop-lone-preserved g c = λ routes.
    rows_go_on c.args.style (λ lones. flat_map (rows_of (bytes_with routes) (has_auth c.args.counted.now.keys) c.args.table) (lones_seen lones)) _ _ c.loop-lone.out c.put_lone.new.out _ c.args.lones.now c.loop-lone.lone-index c.lone-item.result
    c.loop-lone-test.true c.lone-item.is refl (c.in_ok-put_lone.ensures routes) (c.loop-lone.invariant routes)

pub returns : goal.returns
returns g c = λ routes.
    rows_are_done c.args.style (λ lones. flat_map (rows_of (bytes_with routes) (has_auth c.args.counted.now.keys) c.args.table) (lones_seen lones)) c.loop-lone.out _ c.args.lones.now c.loop-lone.lone-index c.loop-lone-test.false refl (c.loop-lone.invariant routes)

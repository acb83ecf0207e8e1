use Rattle.std.proofs.Common.{refl}
use Rattle.std.specs.List.{flat_map}
use Rattle.claim_model.specs.Bytes.{bytes_with}
use Rattle.log_audit.specs.AloneSeen.{lones_seen}
use Rattle.log_audit.specs.LoneTelling.{lone_text}
use Rattle.log_audit.proofs.AppendLoops.{goes_on}
use Rattle.log_audit.proofs.alone.lines.put_lones.Goals as goal

pub loop-lone-preserved : goal.loop-lone-preserved
loop-lone-preserved c = λ routes.
    goes_on (λ lones. flat_map (lone_text (bytes_with routes) c.args.pharmacies) (lones_seen lones)) _ _ c.loop-lone.out.items c.put_lone.new.out.items _ c.args.lones.now c.loop-lone.lone-index c.lone-item.result c.loop-lone-test.true c.lone-item.is refl
    (c.in_ok-put_lone.ensures routes) (c.loop-lone.invariant routes)

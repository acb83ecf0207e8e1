use Rattle.std.proofs.Common.{List, refl, drop, ◌+◌}
use Rattle.std.specs.List.{flat_map}
use Rattle.claim_model.specs.Bytes.{bytes_with}
use Rattle.claim_model.specs.Words.{Ruling}
use Rattle.log_audit.specs.Ledger.{ruling_paid}
use Rattle.log_audit.proofs.AppendLoops.{goes_on, is_done}
use Rattle.log_audit.proofs.report.paid.take_row.Goals as goal

pub loop-ruling-preserved : goal.loop-ruling-preserved
loop-ruling-preserved c = λ routes.
    let told = ruling_paid (bytes_with routes) c.args.book.now.rows c.args.row.now.id.pharmacy in
    goes_on (λ (rulings : List Ruling). flat_map told rulings) (told c.ruling-item.result) (flat_map told (drop (c.loop-ruling.ruling-index + 1) c.rulings-ruling-items.result.now))
    c.loop-ruling.paid.items c.take_ruling.new.paid.items _ c.rulings-ruling-items.result.now c.loop-ruling.ruling-index c.ruling-item.result c.loop-ruling-test.true c.ruling-item.is refl
    (rw (c.from-pharmacy.ensures, c.pharmacy.ensures.value, c.id.ensures) at (c.in_ok-take_ruling.ensures routes)) (c.loop-ruling.invariant routes)

pub returns : goal.returns
returns c = λ routes.
    is_done (λ (rulings : List Ruling). flat_map (ruling_paid (bytes_with routes) c.args.book.now.rows c.args.row.now.id.pharmacy) rulings) c.loop-ruling.paid.items _
    c.rulings-ruling-items.result.now c.loop-ruling.ruling-index c.loop-ruling-test.false refl (c.loop-ruling.invariant routes)

use Rattle.std.proofs.Common.{◌+◌, ◌∙◌, refl}
use Rattle.log_audit.specs.Payments.{told_from}
use Rattle.log_audit.specs.Rulings.{ruling_rows}
use Rattle.log_audit.proofs.Joining.{rows_go_on, rows_are_done, one_row}
use Rattle.log_audit.proofs.tables.rows.put_row_rulings.Goals as goal

pub loop-passed-preserved : goal.loop-passed-preserved
loop-passed-preserved c =
    let put = rw (c.ruled_at.ensures, c.get-payer.ensures.value, c.payer.ensures, c.id-id.ensures, c.kind_of-kind.ensures, c.date_of-date.ensures) at c.in_ok-put_ruling.ensures in
    rows_go_on c.args.style (told_from (ruling_rows c.args.book.now.payer c.args.row.now) (c.loop-passed.passed + 1)) _ _ c.loop-passed.out.items c.put_ruling.new.out.items _ c.rulings-rulings.result.now c.loop-passed.passed
    c.index-rulings-passed.result c.loop-passed-test.true c.index-rulings-passed.is refl (one_row c.args.style c.loop-passed.out.items c.put_ruling.new.out.items _ put) c.loop-passed.invariant

pub returns : goal.returns
returns c =
    rows_are_done c.args.style (told_from (ruling_rows c.args.book.now.payer c.args.row.now) (c.loop-passed.passed + 1)) c.loop-passed.out.items _ c.rulings-rulings.result.now c.loop-passed.passed c.loop-passed-test.false refl c.loop-passed.invariant
    ∙ rw c.rulings-rulings.ensures

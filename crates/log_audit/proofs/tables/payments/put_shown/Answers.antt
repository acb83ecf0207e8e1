use Rattle.std.proofs.Common.{◌++◌, refl, ap, ◌∙◌}
use Rattle.std.proofs.lemmas.Result.{on_ok_weaker}
use Rattle.table_text.specs.Members.{Row}
use Rattle.table_text.specs.Rows.{row_text}
use Rattle.log_audit.specs.Payments.{shown_row}
use Rattle.log_audit.proofs.Joining.{cons_alike}
use Rattle.log_audit.proofs.tables.payments.put_shown.Goals as goal

pub returns : goal.returns
unfolding shown_row
returns c =
    on_ok_weaker c.put_row.result
    (λ last. last ∙ ap (λ (row : Row). c.args.out.now.items ++ row_text c.args.style row)
    (cons_alike c.number.ensures (cons_alike c.number-2.ensures (cons_alike c.number-3.ensures (cons_alike c.number-4.ensures
    (cons_alike c.text.ensures (cons_alike c.word.ensures (cons_alike c.number_or_nothing.ensures (cons_alike c.flag.ensures
    (cons_alike c.text-2.ensures (cons_alike c.text-3.ensures (cons_alike c.text-4.ensures (cons_alike c.text-5.ensures
    (cons_alike c.number-5.ensures (cons_alike c.number-6.ensures (cons_alike c.text-6.ensures
    (cons_alike c.number-7.ensures (cons_alike c.number-8.ensures (cons_alike c.number-9.ensures (cons_alike c.number-10.ensures
    (cons_alike c.text-7.ensures (cons_alike c.text-8.ensures (cons_alike c.number_or_nothing-2.ensures (cons_alike c.number_or_nothing-3.ensures (cons_alike c.number_or_nothing-4.ensures refl)))))))))))))))))))))))))
    c.put_row.ensures

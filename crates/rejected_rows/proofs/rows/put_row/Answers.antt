use Rattle.std.specs.Prelude.{codes}
use Rattle.rejected_rows.specs.Rows.{field_text, number_text, row_text}
use Rattle.rejected_rows.proofs.Joining.{six_join}
use Rattle.rejected_rows.proofs.rows.put_row.Goals as goal

pub returns : goal.returns
unfolding row_text
returns c =
    let k = c.key.inside in
    rw (← c.key.view_is) (six_join c.args.out.now.items c.extend_from_slice.new.self.items c.put_field.new.out.items c.put_field-2.new.out.items c.put_field-3.new.out.items c.put_field-4.new.out.items c.put_number.new.out.items
    (codes "\n[[route]]\n") (field_text (codes "bin = \"") k.bin) (field_text (codes "pcn = \"") k.pcn) (field_text (codes "qualifier = \"") k.qualifier) (field_text (codes "provider = \"") k.provider) (number_text c.args.number)
    c.in_ok-extend_from_slice.ensures.items c.in_ok-put_field.ensures c.in_ok-put_field-2.ensures c.in_ok-put_field-3.ensures c.in_ok-put_field-4.ensures c.in_ok-put_number.ensures)

use Rattle.log_audit.specs.Packets.{loaded_row}
use Rattle.log_audit.proofs.tables.packets.put_loaded.Goals as goal

pub returns : goal.returns
unfolding loaded_row
returns c =
    rw (c.number.ensures, c.number-2.ensures, c.node_field.ensures, c.node_field-2.ensures, c.word.ensures, c.number_or_nothing.ensures, c.number_or_nothing-2.ensures, c.text.ensures, c.as_slice.ensures) at c.put_row.ensures

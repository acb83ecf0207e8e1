use Rattle.log_audit.specs.Calls.{noted_row}
use Rattle.log_audit.proofs.calls.put_noted.Goals as goal

pub returns : goal.returns
unfolding noted_row
returns c =
    rw (c.node_field.ensures, c.number.ensures, c.number_or_nothing.ensures, c.time_said.ensures, c.time.ensures, c.text.ensures, c.reference.ensures, c.word.ensures, c.call_word.ensures, c.sender_field.ensures, c.call-call.ensures, c.record.ensures, c.word-2.ensures, c.number_or_nothing-2.ensures, c.number_or_nothing-3.ensures) at c.put_row.ensures

use Rattle.log_audit.proofs.Joining.{rows_text-one}
use Rattle.log_audit.proofs.tables.packets.put_sent.Goals as goal

pub returns-in-Some : goal.returns-in-Some
returns-in-Some c = λ routes. rw (c.in-Some.is, rows_text-one) (c.put_packet.ensures routes)

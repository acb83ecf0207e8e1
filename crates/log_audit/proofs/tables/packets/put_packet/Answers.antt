use Rattle.log_audit.proofs.tables.packets.put_packet.Goals as goal

pub returns : goal.returns
returns c = λ routes. rw (c.carried_in-carried.ensures routes, c.as_slice.ensures) at c.put_loaded.ensures

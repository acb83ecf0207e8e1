use Rattle.log_audit.proofs.judging.waiting.put_packet.Goals as goal

pub returns-in-Ok : goal.returns-in-Ok
returns-in-Ok c = λ routes.
    rw (c.opened.ensures routes, c.in-Ok.is) (rw (c.kind_words.ensures, c.kind.ensures, c.from.ensures, c.pharmacy.ensures.value, c.number.ensures.value, c.id-id.ensures) at c.put_pieces.ensures)

pub returns-in-Err : goal.returns-in-Err
returns-in-Err c = λ routes. rw (c.opened.ensures routes, c.in-Err.is) c.put_pieces-in-Err.ensures

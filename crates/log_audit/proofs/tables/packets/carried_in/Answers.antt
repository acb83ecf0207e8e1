use Rattle.std.proofs.Common.{refl}
use Rattle.log_audit.proofs.tables.packets.carried_in.Goals as goal

pub returns-in-Ok : goal.returns-in-Ok
returns-in-Ok c = λ routes. rw (c.opened.ensures routes, c.in-Ok.is, c.kind_word.ensures, c.kind.ensures, c.from.ensures, c.pharmacy.ensures.value, c.number.ensures.value, c.id-id.ensures) refl

pub returns-in-Err : goal.returns-in-Err
returns-in-Err c = λ routes. rw (c.opened.ensures routes, c.in-Err.is) refl

use Rattle.std.proofs.Common.{refl}
use Rattle.log_audit.proofs.calls.load_of.Goals as goal

pub returns-in-Take : goal.returns-in-Take
returns-in-Take c = λ routes. rw (c.in-Take.is, c.carried_in.ensures routes, c.as_slice.ensures) refl

pub returns-in-Adjudicate : goal.returns-in-Adjudicate
returns-in-Adjudicate c = λ routes. rw (c.in-Adjudicate.is, c.carried_in-in-Adjudicate.ensures routes, c.as_slice-in-Adjudicate.ensures) refl

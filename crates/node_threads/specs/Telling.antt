-- What a caller is told of a request, and what its till has then.
use Rattle.std.specs.Prelude.{◌≡◌, ℕ, List, Option, Some, None, IfSome}
use Rattle.node_logged.specs.Tills.{Till, answer_heard, with_answer}
use Rattle.node_threads.specs.declared.status.Status.{Status}
use Rattle.node_threads.specs.declared.status.Status.TheVariants.{Open, Settled}

-- the answer that is told, if there is one
abbrev pub told : Status → Option (List ℕ)
told Open = None
told (Settled answer) = Some answer

-- an answer that a till has heard is told again
abbrev pub ToldAgain : ℕ → Till → Option (List ℕ) → Type 0
ToldAgain number till known = IfSome (answer_heard number till) (λ answer. known ≡ Some answer)

-- the till after a caller was told: an answer is heard, where none was heard before
abbrev pub after_telling : ℕ → Till → Status → Till
after_telling number till Open = till
after_telling number till (Settled answer) = with_answer number answer till

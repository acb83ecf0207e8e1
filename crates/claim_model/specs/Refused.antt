-- A step of a node or of the world that is refused.
use Rattle.std.specs.Prelude.{◌≡◌, Option, Some, None}
use Rattle.claim_model.specs.Refusal.{Refusal}
use Rattle.claim_model.specs.Node.{Outcome, Refused}

-- the model's step is refused for this cause; want of memory says nothing of it
abbrev pub RefusedAs : {A : Type 0} → Option Refusal → Outcome A → Type 0
RefusedAs None outcome = Unit {0}
RefusedAs (Some why) outcome = outcome ≡ Refused why

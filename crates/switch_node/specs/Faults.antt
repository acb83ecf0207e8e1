-- Whether an answer is the first to a request.
use Rattle.std.specs.Prelude.{ℕ, Bool, true, false, List, Option, Some, None, Result, Ok, Err, bytes_eq, if◌then◌else◌}
use Rattle.claim_model.specs.declared.refusal.Fault.{Fault}
use Rattle.claim_model.specs.declared.refusal.Refusal.TheVariants.{Differs}
use Rattle.claim_model.specs.declared.refusal.Fault.TheVariants.{Refused}

-- an equal second one is not the first, and another one is refused
abbrev pub first_or_equal : Option (List ℕ) → List ℕ → Result Bool Fault
first_or_equal None answer = Ok true
first_or_equal (Some held) answer = if bytes_eq held answer then Ok false else Err (Refused Differs)

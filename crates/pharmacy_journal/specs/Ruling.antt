-- Another rule of retries, whose switches are told as bytes: two for each number, the higher first.
use Rattle.std.specs.Prelude.{◌≡◌, ◌⊎◌, ℕ, ◌+◌, ◌*◌, ◌/◌, ◌%◌, Bool, true, false, cond, List, [], ◌∷◌, Option, Some, None}
use Rattle.claim_model.specs.Journal.{RetryRule, Journal, JournalAtRest, is_rule, ruled_anew}
use Rattle.claim_model.specs.Node.{Power, Up, Outcome, Done, Refused}
use Rattle.claim_model.specs.declared.refusal.Refusal.{Refusal}
use Rattle.claim_model.specs.declared.refusal.Refusal.TheVariants.{BadRule}

-- the numbers that bytes are; a byte that is left over is no switch's number
abbrev pub numbers_in : List ℕ → List ℕ
numbers_in [] = []
numbers_in (high ∷ []) = 0 ∷ []
numbers_in (high ∷ low ∷ more) = (high * 256 + low) ∷ numbers_in more

-- the bytes of numbers
abbrev pub bytes_of : List ℕ → List ℕ
bytes_of [] = []
bytes_of (number ∷ more) = number / 256 ∷ number % 256 ∷ bytes_of more

-- the same, where the first byte was read
abbrev pub pending : Option ℕ → List ℕ → List ℕ
pending None bytes = bytes
pending (Some high) bytes = high ∷ bytes

-- the rule of these switches and numbers
abbrev pub rule_in : List ℕ → ℕ → ℕ → RetryRule
rule_in nodes again tries = record { nodes = numbers_in nodes; again = again; tries = tries }

-- what the call for another rule comes to, at a pharmacy that is up
abbrev pub after_rule : ℕ → RetryRule → Journal → Outcome (Power Journal JournalAtRest)
after_rule switches rule j = cond (is_rule switches rule) (Done (Up (ruled_anew rule j)) []) (Refused BadRule)

-- nothing is refused but where this is false, or for want of memory
abbrev pub RefusesRule : Bool → Option Refusal → Type 0
RefusesRule taken why = (why ≡ None) ⊎ ((why ≡ Some BadRule) × (taken ≡ false))

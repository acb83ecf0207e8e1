-- What reading a printed text answers.
use Rattle.std.specs.Prelude.{◌≡◌, ℕ, List, Result, Err}
use Rattle.input_text.specs.declared.unprinting.PrintedFault.{PrintedFault}
use Rattle.input_text.specs.declared.unprinting.PrintedFault.TheVariants.{OutOfMemory, BadByte}

-- the text spells nothing, for this cause; nothing is known where memory ran out
abbrev pub FailsFor : PrintedFault → Result (List ℕ) ℕ → Type 0
FailsFor OutOfMemory spelled = Unit {0}
FailsFor (BadByte place) spelled = spelled ≡ Err place

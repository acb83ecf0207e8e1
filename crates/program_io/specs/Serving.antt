-- What a program does from its input to its output, where its reader and its writer tell their bytes.
use Rattle.std.specs.Prelude.{ℕ, ◌≡◌, ◌≢◌, ◌≤◌, List, length, Option, Result, IfErr, IfSome, IsErrOf, OnOk}
use Rattle.program_io.specs.Stops.{BeginningWritten, StopsFor, Written}
use Rattle.program_io.specs.declared.input.TheConstants.{MOST_INPUT}
use Rattle.program_io.specs.declared.fault.InputFault.{InputFault}
use Rattle.program_io.specs.declared.fault.InputFault.TheVariants.{Settings}
use Rattle.program_io.specs.declared.fault.ProgramFault.{ProgramFault}
use Rattle.program_io.specs.declared.fault.ProgramFault.TheVariants.{Input, Write}

-- `output_of` is the output that an input has, or what is bad in it
pub record Serves {W : Type 0} (output_of : List ℕ → Result (List ℕ) InputFault)
    (result : Result (Unit {0}) ProgramFault) (input : Option (List ℕ)) (contents : W → Option (List ℕ)) (old new : W) : Type 0 where
  -- exactly the output of the input was written
  pub output : OnOk result (IfSome input (λ bytes. Written (contents old) (contents new) (output_of bytes)))
  -- what is served was read to its end, and is not too long
  pub fits : OnOk result (IfSome input (λ bytes. length bytes ≤ MOST_INPUT))
  -- nothing is written before all is checked and answered
  pub quiet : IfErr result (λ fault. fault ≢ Write → new ≡ old)
  -- where a write failed, a beginning of the output was written
  pub beginning : IsErrOf result Write → IfSome input (λ bytes. BeginningWritten (contents old) (contents new) (output_of bytes))

-- an input is refused only for what is bad in it, and a write fails only where nothing is
abbrev pub StopsSoundly : {A B : Type 0} → (List ℕ → Result B InputFault) → Result A ProgramFault → Option (List ℕ) → Type 0
StopsSoundly output_of result input = IfErr result (λ fault. IfSome input (λ bytes. StopsFor fault bytes (output_of bytes)))

-- there are no settings that could be refused
abbrev pub RefusesNoSettings : Result (Unit {0}) ProgramFault → Type 0
RefusesNoSettings result = IfErr result (λ fault. fault ≢ Input Settings)

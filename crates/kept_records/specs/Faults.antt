-- Causes in order, one line for each; and records, one after the other.
use Rattle.std.specs.Prelude.{◌≡◌, ◌≢◌, ℕ, zero, suc, ◌-◌, ◌==◌, Bool, true, false, List, length, Option, Some, None, Result, Ok, Err, IfErr}
use Rattle.kept_records.specs.declared.fault.RecordFault.{RecordFault}
use Rattle.kept_records.specs.declared.fault.RecordFault.TheVariants.{OutOfMemory, BadRecord}

infixl 10 ◌>>=◌
abbrev pub ◌>>=◌ : {A B : Type 0} → Result A RecordFault → (A → Result B RecordFault) → Result B RecordFault
(Ok x) >>= f = f x
(Err e) >>= f = Err e

-- what is there, or this fault
abbrev pub some_or : {A : Type 0} → RecordFault → Option A → Result A RecordFault
some_or fault None = Err fault
some_or fault (Some x) = Ok x

-- the value where the test holds, or this fault
abbrev pub when_or : {A : Type 0} → RecordFault → Bool → A → Result A RecordFault
when_or fault true x = Ok x
when_or fault false x = Err fault

-- bytes are refused for the cause for which the rule refuses them; want of memory says nothing of it
abbrev pub RefusesAs : {A B : Type 0} → Result A RecordFault → Result B RecordFault → Type 0
RefusesAs outcome result = IfErr result (λ e. e ≢ OutOfMemory → outcome ≡ Err e)

-- the record at this place is refused only where this is so
abbrev pub RefusesAt : {A : Type 0} → ℕ → Type 0 → Result A RecordFault → Type 0
RefusesAt place P result = IfErr result (λ e. e ≢ OutOfMemory → (e ≡ BadRecord place) × P)

-- with this many records more, which stand at the front of the last bytes of this many, each read with what those before it made; and what follows them
unfoldable pub each_in : {S : Type 0} → (ℕ → S → List ℕ → Result (S × List ℕ) RecordFault) → ℕ → ℕ → S → List ℕ → Result (S × List ℕ) RecordFault
each_in one total zero s bytes = Ok (s, bytes)
each_in one total (suc left) s bytes = do
  next ← one (total - length bytes) s bytes
  each_in one total left next.0 next.1

-- what the last record made, where no byte is left; else what is left, of this many bytes in all, is bad
unfoldable pub ended : {S : Type 0} → ℕ → S × List ℕ → Result S RecordFault
ended total read = when_or (BadRecord (total - length read.1)) (length read.1 == 0) read.0

-- Causes in order, one line for each.
use Rattle.std.specs.Prelude.{Option, Some, None, Result, Ok, Err}
use Rattle.kept_logs.specs.declared.fault.LogFault.{LogFault}

infixl 10 ◌>>=◌
abbrev pub ◌>>=◌ : {A B : Type 0} → Result A LogFault → (A → Result B LogFault) → Result B LogFault
(Ok x) >>= f = f x
(Err e) >>= f = Err e

-- what is there, or this fault
abbrev pub some_or : {A : Type 0} → LogFault → Option A → Result A LogFault
some_or fault None = Err fault
some_or fault (Some x) = Ok x

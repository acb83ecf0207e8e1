-- Why there is no verdict.
use Rattle.std.specs.Prelude.{◌≡◌, ℕ, ◌==◌, Bool, true, false, if◌then◌else◌, List, Option, Some, None, Result, Ok, Err, option_and_then, slice_get, string_bytes}
use Rattle.log_audit.specs.declared.fault.AuditFault.{AuditFault}
use Rattle.log_audit.specs.declared.fault.AuditFault.TheVariants as fault
use Rattle.log_audit.specs.declared.fault.ReferenceFault.{ReferenceFault}
use Rattle.log_turning.specs.declared.whole.WholeFault.{WholeFault}
use Rattle.log_turning.specs.declared.whole.WholeFault.TheVariants as whole
use Rattle.log_turning.specs.declared.fault.JoinFault.{JoinFault}
use Rattle.log_turning.specs.declared.fault.JoinFault.TheVariants as join
use Rattle.audit_run.specs.declared.no_verdict.NoVerdict.{NoVerdict}
use Rattle.audit_run.specs.declared.no_verdict.NoVerdict.TheVariants.{Files, Fault, Log, Before}

-- it is that settings spell none
abbrev pub are_settings : AuditFault → Bool
are_settings fault.OutOfMemory = false
are_settings fault.Settings = true
are_settings (fault.World why) = false
are_settings (fault.Log place why) = false
are_settings (fault.Reference place call why) = false
are_settings fault.NoLine = false

abbrev pub is_of_settings : NoVerdict → Bool
is_of_settings (Fault why) = are_settings why
is_of_settings (Files why) = false
is_of_settings (Log name why) = false
is_of_settings (Before name why) = false

-- settings that spell none are refused whatever log was read under them; what else is wrong with files is told with a name of them
abbrev pub of_join : WholeFault → JoinFault → NoVerdict
of_join why join.Settings = Fault fault.Settings
of_join why join.OutOfMemory = Files why
of_join why (join.Log place other) = Files why
of_join why (join.OtherNode place) = Files why
of_join why (join.NotNext place) = Files why

abbrev pub of_files : WholeFault → NoVerdict
of_files whole.OutOfMemory = Files whole.OutOfMemory
of_files (whole.File name error) = Files (whole.File name error)
of_files (whole.Logs name why) = of_join (whole.Logs name why) why
of_files (whole.Rest name why) = Files (whole.Rest name why)

-- the place of the log that a fault is of, where it is of one
abbrev pub place_of : AuditFault → Option ℕ
place_of fault.OutOfMemory = None
place_of fault.Settings = None
place_of (fault.World why) = None
place_of (fault.Log place why) = Some place
place_of (fault.Reference place call why) = Some place
place_of fault.NoLine = None

-- what is wrong with a submission before the first call of a log
abbrev pub before_of : AuditFault → Option ReferenceFault
before_of (fault.Reference place call why) = if call == 0 then Some why else None
before_of fault.OutOfMemory = None
before_of fault.Settings = None
before_of (fault.World why) = None
before_of (fault.Log place why) = None
before_of fault.NoLine = None

-- a fault of the log of a name is told with that name, what stands before the first call in words of its own; or there is no memory for that
abbrev pub Names : List ℕ → AuditFault → NoVerdict → Type 0
Names bytes why (Log name told) = (string_bytes name ≡ bytes) × (told ≡ why) × (before_of why ≡ None)
Names bytes why (Before name told) = (string_bytes name ≡ bytes) × (before_of why ≡ Some told)
Names bytes why (Fault told) = told ≡ fault.OutOfMemory
Names bytes why (Files told) = ⊥

-- a fault that is of no log is told by itself
abbrev pub IsOf : Option (List ℕ) → AuditFault → NoVerdict → Type 0
IsOf None why told = told ≡ Fault why
IsOf (Some bytes) why told = Names bytes why told

-- why there is no verdict on logs of these names
abbrev pub IsWhy : List (List ℕ) → AuditFault → NoVerdict → Type 0
IsWhy names why told = IsOf (option_and_then (slice_get names) (place_of why)) why told

-- why there is no answer, which is a fault then
abbrev pub IsWhyOf : {A : Type 0} → List (List ℕ) → Result A AuditFault → NoVerdict → Type 0
IsWhyOf names (Ok it) told = ⊥
IsWhyOf names (Err why) told = IsWhy names why told

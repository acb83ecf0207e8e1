-- What callers call their submissions, as nodes keep it that keep the rules: nothing but a submission has a reference, which has 1 to 64 bytes, and no two
-- have the same one.
use Rattle.std.specs.Prelude.{◌≡◌, ⊤, ℕ, ◌+◌, ◌==◌, cond, nat_lt, Bool, true, false, bytes_eq, List, [], ◌∷◌, ◌++◌, length, map, Option, Some, None, Result, Ok, Err}
use Rattle.std.specs.List.{list_any}
use Rattle.claim_model.specs.Node.{Call, Submit, Tick, Take, Stop, Start, Revise, Adjudicate}
use Rattle.kept_logs.specs.Stamps.{Stamped}
use Rattle.kept_logs.specs.Logs.{KeptReading, kept_in}
use Rattle.kept_logs.specs.References.{Reference}
use Rattle.kept_logs.specs.Rests.{references_before}
use Rattle.kept_logs.specs.declared.fault.LogFault.{LogFault}
use Rattle.log_audit.specs.Given.{Given}
use Rattle.log_audit.specs.declared.fault.AuditFault.{AuditFault}
use Rattle.log_audit.specs.declared.fault.AuditFault.TheVariants as audit
use Rattle.log_audit.specs.declared.fault.ReferenceFault.{ReferenceFault}
use Rattle.log_audit.specs.declared.fault.ReferenceFault.TheVariants.{NoSubmission, TooLong, Reused}
use Rattle.log_audit.specs.declared.reading.referring.Misnamed.{Misnamed}
use Rattle.log_audit.specs.declared.reading.referring.MisnamedLog.{MisnamedLog}

abbrev pub is_submission : Call → Bool
is_submission (Submit text) = true
is_submission Tick = false
is_submission (Take from bytes) = false
is_submission Stop = false
is_submission Start = false
is_submission (Revise change) = false
is_submission (Adjudicate from bytes advice) = false

-- how the call of this number, from 1, is called: no byte where it has no reference. Those before a log have the number 0
pub record Use : Type 0 where
  pub call : ℕ
  pub submits : Bool
  pub name : List ℕ

-- the calls of a log, numbered from here on
abbrev pub uses_from : ℕ → List Stamped → List Use
uses_from number [] = []
uses_from number (r ∷ more) = record { call = number; submits = is_submission r.logged.call; name = r.stamp.reference } ∷ uses_from (number + 1) more

-- the submissions before a log
abbrev pub use_before : Reference → Use
use_before r = record { call = 0; submits = true; name = r.name }

abbrev pub uses_before : List Reference → List Use
uses_before references = map use_before references

-- the references so far
abbrev pub noted : List ℕ → List (List ℕ) → List (List ℕ)
noted name before = cond (length name == 0) before (name ∷ before)

-- what is wrong with a reference
abbrev pub fault_of : Bool → Bool → List ℕ → Option ReferenceFault
fault_of known submits name =
    cond (length name == 0) None
    (cond submits (cond (nat_lt 64 (length name)) (Some TooLong) (cond known (Some Reused) None)) (Some NoSubmission))

-- the first that is wrong, or else among more
abbrev pub or_more : Option ReferenceFault → ℕ → Option Misnamed → Option Misnamed
or_more (Some fault) call more = Some (record { call = call; fault = fault })
or_more None call more = more

-- the first call whose reference is wrong, where these were used before
abbrev pub first_misnamed : List (List ℕ) → List Use → Option Misnamed
first_misnamed before [] = None
first_misnamed before (u ∷ more) = or_more (fault_of (list_any (bytes_eq u.name) before) u.submits u.name) u.call (first_misnamed (noted u.name before) more)

-- of a log that was read, which begins so
abbrev pub misnamed_in : Option (List ℕ) → Result KeptReading LogFault → Option Misnamed
misnamed_in rest (Ok read) = first_misnamed [] (uses_before (references_before rest) ++ uses_from 1 read.log.calls)
misnamed_in rest (Err fault) = None

-- ---- of some logs

abbrev pub or_later : ℕ → Option Misnamed → Option MisnamedLog → Option MisnamedLog
or_later place (Some m) later = Some (record { place = place; call = m.call; fault = m.fault })
or_later place None later = later

-- the first log that has such a call, by its place
abbrev pub first_log : {A : Type 0} → (A → Option Misnamed) → ℕ → List A → Option MisnamedLog
first_log found place [] = None
first_log found place (one ∷ more) = or_later place (found one) (first_log found (place + 1) more)

-- of a log as it reads under its digest
abbrev pub misnamed_given : (Given → List ℕ) → Given → Option Misnamed
misnamed_given digest g = misnamed_in g.rest (kept_in (digest g) g.log)

abbrev pub misnamed_log : (Given → List ℕ) → List Given → Option MisnamedLog
misnamed_log digest given = first_log (misnamed_given digest) 0 given

-- ---- on the way

-- it is told that this log is the first
abbrev pub IsMisnamed : Option MisnamedLog → AuditFault → Type 0
IsMisnamed found audit.OutOfMemory = ⊤
IsMisnamed found audit.Settings = ⊥
IsMisnamed found (audit.World why) = ⊥
IsMisnamed found (audit.Log place fault) = ⊥
IsMisnamed found (audit.Reference place call fault) = found ≡ Some (record { place = place; call = call; fault = fault })
IsMisnamed found audit.NoLine = ⊥

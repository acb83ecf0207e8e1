-- What is put of logs that were read.
use Rattle.std.specs.Prelude.{◌≡◌, ℕ, ◌&&◌, Bool, true, false, cond, not, List, [], Option, Some, None, codes, if◌then◌else◌}
use Rattle.node_log.specs.LogSeen.{logs_seen}
use Rattle.log_audit.specs.Judged.{IsTold}
use Rattle.log_audit.specs.LoneTelling.{all_make, alone_text, lones_of}
use Rattle.log_audit.specs.Telling.{IsWritten}
use Rattle.log_audit.specs.declared.reading.Audited.{Audited}
use Rattle.log_audit.specs.declared.report.Form.{Form}
use Rattle.log_audit.specs.declared.report.Form.TheVariants.{Lines, Json, Csv, Changes, Schedule}
use Rattle.days_audit.specs.Begun.{IsJudged}
use Rattle.days_audit.specs.Telling.{days_text}
use Rattle.days_audit.specs.declared.days.Days.{Days as OfDays}
use Rattle.days_audit.specs.declared.days.Days.TheVariants.{Legal, Not}
use Rattle.audit_words.specs.declared.asked.Judging.{Judging}
use Rattle.audit_words.specs.declared.asked.Scope.{Scope}
use Rattle.audit_words.specs.declared.asked.Scope.TheVariants.{Run, Each, Days}

-- a table is told of good logs alone
abbrev pub is_table : Form → Bool
is_table (Csv table) = true
is_table (Changes of) = true
is_table Lines = false
is_table Json = false
is_table Schedule = false

-- what logs of days come to
abbrev pub AreDaysOf : Audited → OfDays → Type 0
AreDaysOf a days = IsJudged a.settings a.rests.items (logs_seen a.logs.items) days

abbrev pub are_legal : OfDays → Bool
are_legal (Legal calls) = true
are_legal (Not lines) = false

-- days are good where they are legal
pub record AreGood (a : Audited) (good : Bool) : Type 0 where
  pub days : OfDays
  pub of_it : AreDaysOf a days
  pub same : good ≡ are_legal days

-- good is, of a run, that some events are a legal interleaving of the logs; of logs one by one, that each node makes its log; of days, that they are legal
abbrev pub IsGood : Scope → Audited → Bool → Type 0
IsGood Run a good = IsTold a.settings (logs_seen a.logs.items) good
IsGood Each a good = good ≡ all_make (lones_of a)
IsGood Days a good = AreGood a good

abbrev pub IsVerdict : Judging → Audited → Bool → Type 0
IsVerdict j a good = IsGood j.scope a good

-- what is said last of logs one by one
abbrev pub not_judged : List ℕ
not_judged = codes "nothing is judged of other nodes\n"

-- of days each log is told of as by itself, and last what they come to; a table is told of legal days alone
pub record ArePut (form : Form) (a : Audited) (good : Bool) (text : List ℕ) : Type 0 where
  pub days : OfDays
  pub of_it : AreDaysOf a days
  pub same : good ≡ are_legal days
  pub text_is : text ≡ cond (is_table form && not good) [] (alone_text a (days_text days) form)

-- what is put is told of such a run, of each log by itself, or of such days, in the form that is asked for; or it says why there is none
abbrev pub IsText : Scope → Form → Audited → Bool → List ℕ → Type 0
IsText Run form a good text = IsWritten a form good text
IsText Each form a good text = text ≡ alone_text a not_judged form
IsText Days form a good text = ArePut form a good text

abbrev pub IsPut : Judging → Audited → Bool → List ℕ → Type 0
IsPut j a good text = IsText j.scope j.form a good text

-- why nothing is put
abbrev pub why : Scope → List ℕ
why Run = codes "no legal run; without --csv it says why"
why Each = codes "a node does not make its log; without --csv it says why"
why Days = codes "no legal days; without --csv it says why"

abbrev pub why_nothing : Judging → Bool → Option (List ℕ)
why_nothing j good = if not good && is_table j.form then Some (why j.scope) else None

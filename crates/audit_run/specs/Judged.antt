-- Which logs are judged.
use Rattle.std.specs.Prelude.{◌≡◌, ℕ, ◌&&◌, Bool, true, false, not, if◌then◌else◌, List, [], map}
use Rattle.node_log.specs.LogSeen.{logs_seen}
use Rattle.log_audit.specs.Given.{Given, IsRead, given_of, opened, rests_seen}
use Rattle.log_audit.specs.declared.reading.Audited.{Audited}
use Rattle.log_audit.specs.declared.report.Form.{Form}
use Rattle.log_audit.specs.declared.report.Form.TheVariants.{Lines, Json, Csv, Changes, Schedule}
use Rattle.log_audit.specs.declared.reading.GivenLog.{GivenLog}
use Rattle.audit_words.specs.declared.asked.Judging.{Judging}
use Rattle.audit_words.specs.declared.asked.Scope.{Scope}
use Rattle.audit_words.specs.declared.asked.Scope.TheVariants.{Run, Each, Days}
use Rattle.audit_run.specs.declared.completing.Judged.{Judged}
use Rattle.audit_run.specs.Completing.{Completes}

-- the bytes of logs, without what they begin with
abbrev pub logs_in : List GivenLog → List (List ℕ)
logs_in logs = map (λ (l : GivenLog). l.log.items) logs

-- changes of plans are those of all calls, and are told of whole logs
abbrev pub is_of_whole_logs : Form → Bool
is_of_whole_logs (Changes of) = true
is_of_whole_logs Lines = false
is_of_whole_logs Json = false
is_of_whole_logs (Csv table) = false
is_of_whole_logs Schedule = false

-- not all calls of the nodes are wanted
abbrev pub is_of_some : Scope → Bool
is_of_some Run = false
is_of_some Each = true
is_of_some Days = true

-- logs may go on after closed ones that do not stand beside them: where each is judged by itself or as one of days, and not by all its calls
abbrev pub may_go_on : Judging → Bool
may_go_on j = is_of_some j.scope && not (is_of_whole_logs j.form)

-- logs as they are read: where they may not go on, each as one that begins with the opening of its node
abbrev pub given_for : Judging → List GivenLog → List Given
given_for by logs = if may_go_on by then given_of logs else opened (logs_in logs)

-- logs are judged as they were given, and none is made
pub record AsGiven (a : Audited) (j : Judged) : Type 0 where
  pub same : j.audited ≡ a
  pub none : j.made.items ≡ []

-- logs that were read are judged: as those of a run together with those that are made of switches which kept none, else as they were given
abbrev pub TakesRead : Scope → Audited → Judged → Type 0
TakesRead Run a j = Completes a j
TakesRead Each a j = AsGiven a j
TakesRead Days a j = AsGiven a j

-- which logs are judged of those that were given under the settings that a text spells
pub record Judges (by : Judging) (text : List ℕ) (logs : List GivenLog) (j : Judged) : Type 0 where
  pub read : Audited
  pub given : IsRead text (given_for by logs) read.settings (logs_seen read.logs.items) (rests_seen read.rests.items) read.torn.items
  pub takes : TakesRead by.scope read j

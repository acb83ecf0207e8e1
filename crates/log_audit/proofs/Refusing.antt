-- Why nothing is read, from what one step says.
use Rattle.std.proofs.Common.{◌≡◌, ℕ, List, ◌∷◌, ◌++◌, length, map, Option, Some, None, sym, ap, ◌∙◌}
use Rattle.std.proofs.lemmas.List.{length-map, map-append}
use Rattle.std.specs.Prelude.{Result}
use Rattle.kept_logs.specs.Logs.{Reading}
use Rattle.kept_logs.specs.declared.fault.LogFault.{LogFault}
use Rattle.world_setup.specs.declared.settings.WorldSettings.{WorldSettings}
use Rattle.world_settings.specs.Checked.{IsUntaken, Spells}
use Rattle.world_settings.specs.declared.fault.Untaken.{Untaken}
use Rattle.world_settings.specs.declared.fault.Untaken.TheVariants as untaken
use Rattle.node_log.specs.LogSeen.{log_seen, logs_seen}
use Rattle.node_log.specs.declared.log.NodeLog.{NodeLog as Kept}
use Rattle.log_audit.specs.declared.fault.AuditFault.{AuditFault}
use Rattle.log_audit.specs.declared.fault.AuditFault.TheVariants.{OutOfMemory, Settings, World, Log, Reference, NoLine}
use Rattle.log_audit.specs.Given.{AreLogs}
use Rattle.log_audit.specs.Names.{IsMisnamed}
use Rattle.log_audit.specs.Refused.{IsUnread, IsNoLog, AreNoLogs, untaken_fault}
use Rattle.log_audit.specs.declared.reading.referring.MisnamedLog.{MisnamedLog}
use Rattle.log_audit.proofs.LogReading.{as_many}

-- no settings are taken
pub untaken_unread : {A : Type 0} (text : List ℕ) (read : A → Result Reading LogFault) (given : List A) (wrong : Option MisnamedLog) (why : Untaken) → IsUntaken text why
    → IsUnread text read given wrong (untaken_fault why)
untaken_unread {A} text read given wrong untaken.OutOfMemory is = tt
untaken_unread {A} text read given wrong untaken.Settings is = is
untaken_unread {A} text read given wrong (untaken.World why) is = is

-- a log is refused
pub logs_refused : {A : Type 0} (text : List ℕ) (read : A → Result Reading LogFault) (given : List A) (wrong : Option MisnamedLog) (s : WorldSettings) (why : AuditFault)
    → Spells text s → wrong ≡ None → AreNoLogs read given why → IsUnread text read given wrong why
logs_refused {A} text read given wrong s OutOfMemory spells clear none = tt
logs_refused {A} text read given wrong s Settings spells clear none = absurd none
logs_refused {A} text read given wrong s (World why) spells clear none = absurd none
logs_refused {A} text read given wrong s (Log place fault) spells clear none = (clear, record { settings = s; spells = spells; first = none })
logs_refused {A} text read given wrong s (Reference place call fault) spells clear none = absurd none
logs_refused {A} text read given wrong s NoLine spells clear none = absurd none

-- a reference is
pub names_refused : {A : Type 0} (text : List ℕ) (read : A → Result Reading LogFault) (given : List A) (wrong : Option MisnamedLog) (s : WorldSettings) (why : AuditFault)
    → Spells text s → IsMisnamed wrong why → IsUnread text read given wrong why
names_refused {A} text read given wrong s OutOfMemory spells found = tt
names_refused {A} text read given wrong s Settings spells found = absurd found
names_refused {A} text read given wrong s (World why) spells found = absurd found
names_refused {A} text read given wrong s (Log place fault) spells found = absurd found
names_refused {A} text read given wrong s (Reference place call fault) spells found = record { settings = s; spells = spells; first = found }
names_refused {A} text read given wrong s NoLine spells found = absurd found

-- the logs so far were read, and the next is none
pub no_log_here : {V A : Type 0} (see : V → A) (read : A → Result Reading LogFault) (xs : List V) (x : V) (more all : List V) (logs : List Kept) (why : AuditFault) → xs ++ x ∷ more ≡ all
    → AreLogs read (map see xs) (logs_seen logs) → IsNoLog (read (see x)) (length logs) why → AreNoLogs read (map see all) why
no_log_here {V} {A} see read xs x more all logs OutOfMemory is are none = tt
no_log_here {V} {A} see read xs x more all logs Settings is are none = absurd none
no_log_here {V} {A} see read xs x more all logs (World why) is are none = absurd none
no_log_here {V} {A} see read xs x more all logs (Log place fault) is are (same, (known, fails)) = record {
  before = map see xs;
  one = see x;
  behind = map see more;
  is = sym (map-append see xs (x ∷ more)) ∙ ap (map see) is;
  count = as_many read (map see xs) (logs_seen logs) are ∙ (length-map logs log_seen ∙ sym same);
  logs = logs_seen logs;
  are = are;
  known = known;
  fails = fails;
}
no_log_here {V} {A} see read xs x more all logs (Reference place call fault) is are none = absurd none
no_log_here {V} {A} see read xs x more all logs NoLine is are none = absurd none

-- Why nothing is judged: each cause is true, and those before it in the order do not stand.
use Rattle.std.specs.Prelude.{◌≡◌, ◌≢◌, ⊤, ℕ, List, ◌∷◌, ◌++◌, length, Option, Some, None, Result, Err}
use Rattle.claim_model.specs.Logs.{NodeLog}
use Rattle.world_setup.specs.declared.settings.WorldSettings.{WorldSettings}
use Rattle.world_settings.specs.Checked.{Spells, SpellsNoWorld}
use Rattle.world_settings.specs.Document.{living_in}
use Rattle.world_settings.specs.declared.fault.Untaken.{Untaken}
use Rattle.world_settings.specs.declared.fault.Untaken.TheVariants as untaken
use Rattle.kept_logs.specs.Logs.{Reading}
use Rattle.settings_digest.specs.Digests.{digest_under}
use Rattle.kept_logs.specs.declared.fault.LogFault.{LogFault}
use Rattle.kept_logs.specs.declared.fault.LogFault.TheVariants as log_fault
use Rattle.log_audit.specs.declared.fault.AuditFault.{AuditFault}
use Rattle.log_audit.specs.declared.fault.AuditFault.TheVariants.{OutOfMemory, Settings, World, Log, Reference, NoLine}
use Rattle.log_audit.specs.Given.{AreLogs, Given, digest_of, read_by, read_given}
use Rattle.log_audit.specs.Names.{misnamed_log}
use Rattle.log_audit.specs.declared.reading.referring.MisnamedLog.{MisnamedLog}

-- what is handed in at this place is the first that reads as no log: by the first fault that there is
pub record IsFirstNoLog {A : Type 0} (read : A → Result Reading LogFault) (given : List A) (place : ℕ) (fault : LogFault) : Type 0 where
  pub before : List A
  pub one : A
  pub behind : List A
  pub is : before ++ one ∷ behind ≡ given
  pub count : length before ≡ place
  pub logs : List NodeLog
  pub are : AreLogs read before logs
  pub known : fault ≢ log_fault.OutOfMemory
  pub fails : read one ≡ Err fault

-- a text spells settings that a world takes, and what is handed in at this place is the first that reads as no log under them
pub record RefusesLog {A : Type 0} (text : List ℕ) (read : A → Result Reading LogFault) (given : List A) (place : ℕ) (fault : LogFault) : Type 0 where
  pub settings : WorldSettings
  pub spells : Spells text settings
  pub first : IsFirstNoLog read given place fault

-- a text spells settings that a world takes, and this is the first log with a reference that no node keeps, and what is wrong with it
pub record RefusesReference (text : List ℕ) (wrong : Option MisnamedLog) (found : MisnamedLog) : Type 0 where
  pub settings : WorldSettings
  pub spells : Spells text settings
  pub first : wrong ≡ Some found

-- nothing is judged for this cause, and for none before it, of what is read so, where this log is the first with such a reference
abbrev pub IsUnread : {A : Type 0} → List ℕ → (A → Result Reading LogFault) → List A → Option MisnamedLog → AuditFault → Type 0
IsUnread text read given wrong OutOfMemory = ⊤
IsUnread text read given wrong Settings = living_in text ≡ None
IsUnread text read given wrong (World why) = SpellsNoWorld text why
IsUnread text read given wrong (Log place fault) = (wrong ≡ None) × RefusesLog text read given place fault
IsUnread text read given wrong (Reference place call fault) = RefusesReference text wrong (record { place = place; call = call; fault = fault })
IsUnread text read given wrong NoLine = ⊥

-- of logs, each with what it begins with
abbrev pub IsRefused : List ℕ → List Given → AuditFault → Type 0
IsRefused text given why = IsUnread text (read_given (digest_of text)) given (misnamed_log (digest_of text) given) why

-- of bytes, each of which is to be a log that begins with the opening of its node, where no reference is judged
abbrev pub IsUntabled : List ℕ → List (List ℕ) → AuditFault → Type 0
IsUntabled text bytes why = IsUnread text (read_by (digest_under text)) bytes None why

-- ---- on the way

-- the fault where no settings are taken
abbrev pub untaken_fault : Untaken → AuditFault
untaken_fault untaken.OutOfMemory = OutOfMemory
untaken_fault untaken.Settings = Settings
untaken_fault (untaken.World why) = World why

-- what was read at a place is no log
abbrev pub IsNoLog : Result Reading LogFault → ℕ → AuditFault → Type 0
IsNoLog read place OutOfMemory = ⊤
IsNoLog read place Settings = ⊥
IsNoLog read place (World why) = ⊥
IsNoLog read place (Log at fault) = (at ≡ place) × ((fault ≢ log_fault.OutOfMemory) × (read ≡ Err fault))
IsNoLog read place (Reference at call fault) = ⊥
IsNoLog read place NoLine = ⊥

-- something of what is handed in is no log
abbrev pub AreNoLogs : {A : Type 0} → (A → Result Reading LogFault) → List A → AuditFault → Type 0
AreNoLogs read given OutOfMemory = ⊤
AreNoLogs read given Settings = ⊥
AreNoLogs read given (World why) = ⊥
AreNoLogs read given (Log place fault) = IsFirstNoLog read given place fault
AreNoLogs read given (Reference place call fault) = ⊥
AreNoLogs read given NoLine = ⊥

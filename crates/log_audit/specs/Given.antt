-- The settings and the logs that bytes are, before anything is judged.
use Rattle.std.specs.Prelude.{◌≡◌, ℕ, ◌-◌, List, [], ◌∷◌, ◌++◌, length, map, Option, Some, None, Result, Ok, Err, ⊤, option_map}
use Rattle.std.specs.Global.{Vec}
use Rattle.claim_model.specs.Logs.{NodeLog}
use Rattle.world_setup.specs.declared.settings.WorldSettings.{WorldSettings}
use Rattle.world_settings.specs.Document.{document_seen, living_in}
use Rattle.kept_logs.specs.Logs.{Reading, log_in}
use Rattle.settings_digest.specs.Digests.{turned, turned_under}
use Rattle.settings_digest.specs.declared.digests.Digests.{Digests}
use Rattle.kept_logs.specs.declared.fault.LogFault.{LogFault}
use Rattle.log_audit.specs.declared.reading.GivenLog as value

-- the bytes of each
abbrev pub bytes_of : List (Vec ℕ) → List (List ℕ)
bytes_of logs = map (λ (bytes : Vec ℕ). bytes.items) logs

-- how bytes read under settings of the digest that such bytes have
abbrev pub read_by : (List ℕ → List ℕ) → List ℕ → Result Reading LogFault
read_by digest bytes = log_in (digest bytes) bytes

-- what was read is a log, up to a record that is cut off
pub record IsLog (read : Result Reading LogFault) (log : NodeLog) : Type 0 where
  pub whole : ℕ
  pub reads : read ≡ Ok (record { log = log; whole = whole })

-- what is handed in reads as logs, each and in order
abbrev pub AreLogs : {A : Type 0} → (A → Result Reading LogFault) → List A → List NodeLog → Type 0
AreLogs read [] [] = ⊤
AreLogs read [] (log ∷ logs) = ⊥
AreLogs read (one ∷ more) [] = ⊥
AreLogs read (one ∷ more) (log ∷ logs) = IsLog (read one) log × AreLogs read more logs

-- how many bytes stand after the records of a log that stand whole
abbrev pub left_behind : ℕ → Result Reading LogFault → ℕ
left_behind size (Ok read) = size - read.whole
left_behind size (Err fault) = 0

-- a log, and what it begins with, where it goes on after closed ones
pub record Given : Type 0 where
  pub rest : Option (List ℕ)
  pub log : List ℕ

abbrev pub given_seen : value.GivenLog → Given
given_seen g = record { rest = option_map (λ (v : Vec ℕ). v.items) g.rest; log = g.log.items }

abbrev pub rests_seen : List (Option (Vec ℕ)) → List (Option (List ℕ))
rests_seen rests = map (λ (rest : Option (Vec ℕ)). option_map (λ (v : Vec ℕ). v.items) rest) rests

abbrev pub given_of : List value.GivenLog → List Given
given_of logs = map given_seen logs

-- logs that begin with the opening of their nodes
abbrev pub opened : List (List ℕ) → List Given
opened logs = map (λ (log : List ℕ). record { rest = None; log = log }) logs

-- under which digest a log reads, of settings that a text spells
abbrev pub digest_of : List ℕ → Given → List ℕ
digest_of text g = turned_under text g.rest g.log

-- how a log reads under its digest, and how many bytes its torn end has
abbrev pub read_given : (Given → List ℕ) → Given → Result Reading LogFault
read_given digest g = log_in (digest g) g.log

abbrev pub torn_given : (Given → List ℕ) → Given → ℕ
torn_given digest g = left_behind (length g.log) (read_given digest g)

-- the settings are those that a text spells, and the logs are those that are given, each with what it begins with and its torn end
pub record IsRead (text : List ℕ) (given : List Given) (settings : WorldSettings) (logs : List NodeLog) (rests : List (Option (List ℕ))) (torn : List ℕ) : Type 0 where
  pub spelled : living_in text ≡ Some (document_seen settings)
  pub read : AreLogs (read_given (digest_of text)) given logs
  pub begin : rests ≡ map (λ (g : Given). g.rest) given
  pub ends : torn ≡ map (torn_given (digest_of text)) given

-- ---- on the way

-- what was read of this many bytes is one log more, and its torn end is one more
pub record ReadsOne (read : Result Reading LogFault) (size : ℕ) (logs : List NodeLog) (torn : List ℕ) (after : List NodeLog) (ends : List ℕ) : Type 0 where
  pub log : NodeLog
  pub is : IsLog read log
  pub logs_are : after ≡ logs ++ log ∷ []
  pub torn_are : ends ≡ torn ++ left_behind size read ∷ []

-- the digest of a log, by those of the settings
abbrev pub turned_given : Digests → Given → List ℕ
turned_given digests g = turned digests g.rest g.log

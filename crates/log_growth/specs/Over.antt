-- A log that goes over to other settings: the same calls, with what was noted of them, under another head, which its node makes.
use Rattle.std.specs.Prelude.{◌≡◌, ◌≢◌, ◌⊎◌, ⊤, ℕ, List, None, Ok, Err}
use Rattle.claim_model.specs.Node.{Node}
use Rattle.world_setup.specs.Seen.{node_seen}
use Rattle.world_setup.specs.declared.node.Node.{Node as Named}
use Rattle.kept_logs.specs.declared.fault.LogFault.{LogFault}
use Rattle.kept_logs.specs.declared.fault.LogFault.TheVariants as log_fault
use Rattle.kept_logs.specs.Logs.{KeptReading, Reading, kept_text, kept_in, log_in, KeptAs}
use Rattle.settings_digest.specs.Digests.{digest_in, digest_under}
use Rattle.node_service.specs.Serving.{Serving}
use Rattle.node_service.specs.Opened.{IsOpened}
use Rattle.node_service.specs.Refused.{IsRefused}
use Rattle.node_service.specs.declared.fault.ServiceFault.{ServiceFault}
use Rattle.log_growth.specs.declared.over.Gone.{Gone}
use Rattle.log_growth.specs.declared.over.Gone.TheVariants.{Already, Over}
use Rattle.log_growth.specs.declared.over.OverFault.{OverFault}
use Rattle.log_growth.specs.declared.over.OverFault.TheVariants.{OutOfMemory, Log, Refused}

-- a file opens: its node makes the log that the bytes are, under the settings that the text spells
pub record Opens (text : List ℕ) (node : Node) (bytes : List ℕ) : Type 0 where
  pub kept : ℕ
  pub serving : Serving
  pub opened : IsOpened text node None bytes kept serving

-- a file is refused under these settings
abbrev pub IsShutFor : List ℕ → Node → List ℕ → OverFault → Type 0
IsShutFor text node bytes OutOfMemory = ⊤
IsShutFor text node bytes (Log fault) = ⊥
IsShutFor text node bytes (Refused who why) = (node_seen who ≡ node) × IsRefused text node None bytes why

-- the node of this name opens from these bytes, and nothing is to be written
abbrev pub IsOpen : List ℕ → Named → List ℕ → Gone → Type 0
IsOpen text node bytes (Already other) = (other ≡ node) × Opens text (node_seen node) bytes
IsOpen text node bytes (Over other written) = ⊥

-- bytes are a log under the new settings already, and open
pub record IsThere (text bytes : List ℕ) (node : Node) : Type 0 where
  pub read : Reading
  pub reads : log_in (digest_under text bytes) bytes ≡ Ok read
  pub own : read.log.node ≡ node
  pub opens : Opens text node bytes

-- bytes are a log of this node under settings of the old digest, and what is written is the same log under those of the new one, with all that was noted
-- of its calls
pub record IsMoved (old new bytes : List ℕ) (node : Node) (written : List ℕ) : Type 0 where
  pub read : KeptReading
  pub reads : kept_in old bytes ≡ Ok read
  pub own : read.log.node ≡ node
  pub is : written ≡ kept_text new read.log
  pub back : KeptAs new written read.log

-- bytes are a log under the old settings, and what is written is the same log under the new ones, and opens
pub record GoesOver (old text bytes : List ℕ) (node : Node) (written : List ℕ) : Type 0 where
  pub other : log_in (digest_under text bytes) bytes ≡ Err log_fault.OtherSettings
  pub moved : IsMoved old (digest_in text) bytes node written
  pub opens : Opens text node written

-- what becomes of the bytes of a log under settings of the old digest, where new settings are what the text spells
abbrev pub Becomes : List ℕ → List ℕ → List ℕ → Gone → Type 0
Becomes old text bytes (Already node) = IsThere text bytes (node_seen node)
Becomes old text bytes (Over node written) = GoesOver old text bytes (node_seen node) written.items

-- bytes are no log under either settings: of the new ones' head the fault counts, of any other that under the old ones
abbrev pub IsNoLog : List ℕ → List ℕ → List ℕ → LogFault → Type 0
IsNoLog old text bytes fault =
    ((fault ≢ log_fault.OtherSettings) × (log_in (digest_under text bytes) bytes ≡ Err fault))
    ⊎ ((log_in (digest_under text bytes) bytes ≡ Err log_fault.OtherSettings) × (log_in old bytes ≡ Err fault))

-- bytes are a log of this node under settings of this digest
pub record IsLogUnder (digest bytes : List ℕ) (node : Node) : Type 0 where
  pub read : Reading
  pub reads : log_in digest bytes ≡ Ok read
  pub own : read.log.node ≡ node

-- the log is read, and its file under the new settings is refused: the bytes where they are a log under these, else the same log under the new digest
pub record IsShut (old text bytes : List ℕ) (node : Node) (why : ServiceFault) : Type 0 where
  pub file : List ℕ
  pub under : (IsLogUnder (digest_under text bytes) bytes node × (file ≡ bytes)) ⊎ IsMoved old (digest_in text) bytes node file
  pub refused : IsRefused text node None file why

-- a log stays for this cause
abbrev pub StaysFor : List ℕ → List ℕ → List ℕ → OverFault → Type 0
StaysFor old text bytes OutOfMemory = ⊤
StaysFor old text bytes (Log fault) = IsNoLog old text bytes fault
StaysFor old text bytes (Refused who why) = IsShut old text bytes (node_seen who) why

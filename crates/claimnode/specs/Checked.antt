-- Whether settings have a node, before a file is made for its log.
use Rattle.std.specs.Prelude.{◌≡◌, ⊤, ℕ, Bool, true, false, List}
use Rattle.claim_model.specs.Node.{Node}
use Rattle.world_setup.specs.Seen.{settings_seen}
use Rattle.world_setup.specs.declared.settings.WorldSettings.{WorldSettings}
use Rattle.world_settings.specs.Checked.{Spells}
use Rattle.node_log.specs.ExistingNodes.{is_there}
use Rattle.node_service.specs.declared.fault.ServiceFault.{ServiceFault}
use Rattle.node_service.specs.declared.fault.ServiceFault.TheVariants as service
use Rattle.node_service.specs.Refused.{NoSettings}
use Rattle.claimnode.specs.declared.finding.Finding.{Finding}
use Rattle.claimnode.specs.declared.finding.Finding.TheVariants.{OutOfMemory, Io, File, Settings, Service, SyncFailed, Untaken, Unserved, Untold, Unrepaired, Unclosed, Unjoined}

-- a text spells settings that a world takes, and it is so whether they have this node
pub record TellsOfNode (text : List ℕ) (node : Node) (has : Bool) : Type 0 where
  pub settings : WorldSettings
  pub spells : Spells text settings
  pub there : has ≡ is_there (settings_seen settings) node

abbrev pub HasNode : List ℕ → Node → Type 0
HasNode text node = TellsOfNode text node true

-- the node is not there, or there are no settings
abbrev pub IsAbsent : List ℕ → Node → ServiceFault → Type 0
IsAbsent text node service.OutOfMemory = ⊤
IsAbsent text node service.Settings = NoSettings text service.Settings
IsAbsent text node service.NoSuchNode = TellsOfNode text node false
IsAbsent text node service.Rest = ⊥
IsAbsent text node (service.Log fault) = ⊥
IsAbsent text node service.OtherNode = ⊥
IsAbsent text node (service.NotMade place) = ⊥

-- why settings are refused is so
abbrev pub IsUnchecked : List ℕ → Node → Finding → Type 0
IsUnchecked text node (OutOfMemory refused) = ⊤
IsUnchecked text node (Io error) = ⊥
IsUnchecked text node (File name error) = ⊥
IsUnchecked text node (Settings why) = NoSettings text service.Settings
IsUnchecked text node (Service why) = IsAbsent text node why
IsUnchecked text node (SyncFailed mark) = ⊥
IsUnchecked text node (Untaken why) = ⊥
IsUnchecked text node (Unserved why) = ⊥
IsUnchecked text node (Untold why) = ⊥
IsUnchecked text node (Unrepaired why) = ⊥
IsUnchecked text node (Unclosed why) = ⊥
IsUnchecked text node (Unjoined why) = ⊥

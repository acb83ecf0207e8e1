-- Why a node is not served: each cause is true, and those before it in the order do not stand.
use Rattle.std.specs.Prelude.{◌≡◌, ◌≢◌, ◌⊎◌, ⊤, ℕ, true, false, List, length, Option, Some, None, IsSome, Ok, Err}
use Rattle.claim_model.specs.Node.{Node}
use Rattle.claim_model.specs.Nodes.{AnyNode, same_node}
use Rattle.world_setup.specs.Seen.{settings_seen}
use Rattle.world_setup.specs.declared.settings.WorldSettings.{WorldSettings}
use Rattle.world_settings.specs.Checked.{Spells, SpellsNone}
use Rattle.world_settings.specs.declared.fault.Untaken.{Untaken}
use Rattle.world_settings.specs.declared.fault.Untaken.TheVariants as untaken
use Rattle.node_log.specs.ExistingNodes.{is_there}
use Rattle.node_log.specs.Misfits.{BreaksAt}
use Rattle.node_logged.specs.Setting.{context_of}
use Rattle.kept_logs.specs.declared.fault.LogFault.TheVariants as log_fault
use Rattle.kept_logs.specs.Logs.{Reading, kept_text, kept_in, log_in}
use Rattle.kept_logs.specs.Stamps.{KeptLog, bare_calls}
use Rattle.kept_logs.specs.Cuts.{first_calls}
use Rattle.kept_logs.specs.Rests.{begins}
use Rattle.settings_digest.specs.Digests.{turned_under}
use Rattle.node_service.specs.declared.fault.ServiceFault.{ServiceFault}
use Rattle.node_service.specs.declared.fault.ServiceFault.TheVariants.{OutOfMemory, Settings, NoSuchNode, Rest, Log, OtherNode, NotMade}

-- what is said where no settings are taken
abbrev pub untaken_said : Untaken → ServiceFault
untaken_said untaken.OutOfMemory = OutOfMemory
untaken_said untaken.Settings = Settings
untaken_said (untaken.World why) = Settings

-- the settings are refused: the text spells none, or some that no world takes
abbrev pub NoSettings : List ℕ → ServiceFault → Type 0
NoSettings text OutOfMemory = ⊤
NoSettings text Settings = SpellsNone text
NoSettings text NoSuchNode = ⊥
NoSettings text Rest = ⊥
NoSettings text (Log fault) = ⊥
NoSettings text OtherNode = ⊥
NoSettings text (NotMade place) = ⊥

-- bytes are the log of another node
pub record ReadsAnothers (digest : List ℕ) (node : Node) (bytes : List ℕ) : Type 0 where
  pub read : Reading
  pub reads : log_in digest bytes ≡ Ok read
  pub other : same_node read.log.node node ≡ false

-- the first call of a log that its node does not make has its record at this place
pub record BreaksAtPlace (digest : List ℕ) (settings : WorldSettings) (rest : Option (List ℕ)) (log : KeptLog) (place : ℕ) : Type 0 where
  pub before : AnyNode
  pub opens : begins settings log.node rest ≡ Some before
  pub count : ℕ
  pub breaks : BreaksAt (context_of settings) before (bare_calls log.calls) count
  pub is : place ≡ length (kept_text digest (first_calls count log))

-- bytes are the log of this node, which does not make it
pub record BreaksOff (digest : List ℕ) (settings : WorldSettings) (node : Node) (rest : Option (List ℕ)) (bytes : List ℕ) (place : ℕ) : Type 0 where
  pub log : KeptLog
  pub whole : ℕ
  pub own : log.node ≡ node
  pub reads : kept_in digest bytes ≡ Ok (record { log = log; whole = whole })
  pub breaks : BreaksAtPlace digest settings rest log place

-- the log is refused: bytes are none, by the first fault that there is, or another node's, or its node does not make it
abbrev pub IsUnserved : List ℕ → WorldSettings → Node → Option (List ℕ) → List ℕ → ServiceFault → Type 0
IsUnserved digest settings node rest bytes OutOfMemory = ⊤
IsUnserved digest settings node rest bytes Settings = ⊥
IsUnserved digest settings node rest bytes NoSuchNode = ⊥
IsUnserved digest settings node rest bytes Rest = ⊥
IsUnserved digest settings node rest bytes (Log fault) = (fault ≢ log_fault.Short) × (log_in digest bytes ≡ Err fault)
IsUnserved digest settings node rest bytes OtherNode = ReadsAnothers digest node bytes
IsUnserved digest settings node rest bytes (NotMade place) = BreaksOff digest settings node rest bytes place

-- the settings are taken, and have no such node
pub record HasNoNode (text : List ℕ) (node : Node) : Type 0 where
  pub settings : WorldSettings
  pub spells : Spells text settings
  pub absent : is_there (settings_seen settings) node ≡ false

-- the settings are taken and have the node, and its log begins with no rest of it
pub record HasNoRest (text : List ℕ) (node : Node) (rest : Option (List ℕ)) : Type 0 where
  pub settings : WorldSettings
  pub spells : Spells text settings
  pub there : is_there (settings_seen settings) node ≡ true
  pub none : begins settings node rest ≡ None

-- the settings are taken and have the node, its log begins with one, and the log is refused
pub record HasNoLog (text : List ℕ) (node : Node) (rest : Option (List ℕ)) (bytes : List ℕ) (why : ServiceFault) : Type 0 where
  pub settings : WorldSettings
  pub spells : Spells text settings
  pub there : is_there (settings_seen settings) node ≡ true
  pub some : IsSome (begins settings node rest)
  pub refused : IsUnserved (turned_under text rest bytes) settings node rest bytes why

-- a node is refused for this cause, and for none before it
abbrev pub IsRefused : List ℕ → Node → Option (List ℕ) → List ℕ → ServiceFault → Type 0
IsRefused text node rest bytes OutOfMemory = ⊤
IsRefused text node rest bytes Settings = SpellsNone text
IsRefused text node rest bytes NoSuchNode = HasNoNode text node
IsRefused text node rest bytes Rest = HasNoRest text node rest
IsRefused text node rest bytes (Log fault) = HasNoLog text node rest bytes (Log fault)
IsRefused text node rest bytes OtherNode = HasNoLog text node rest bytes OtherNode
IsRefused text node rest bytes (NotMade place) = HasNoLog text node rest bytes (NotMade place)

-- What a call on a handle makes of its node, and of what the caller lends.
use Rattle.std.specs.Prelude.{◌≡◌, ◌⊎◌, ℕ, ◌+◌, ◌-◌, ◌<◌, ◌≤◌, true, false, List, ◌++◌, length, drop, Ok, Err, Option, Some, None, IsSome}
use Rattle.std.specs.Option.{option_map}
use Rattle.claim_model.specs.Node as model
use Rattle.world_setup.specs.Seen.{node_seen, settings_seen}
use Rattle.world_setup.specs.declared.node.Node.{Node}
use Rattle.schedule.specs.Nodes.{node_in}
use Rattle.kept_logs.specs.Rests.{calls_before}
use Rattle.log_turning.specs.Files.{part_in}
use Rattle.node_service.specs.Most.{most_at}
use Rattle.node_service.specs.Serving.{Serving}
use Rattle.node_service.specs.declared.fault.ServiceFault.{ServiceFault}
use Rattle.node_service.specs.Opened.{IsOpened}
use Rattle.node_service.specs.Refused.{IsRefused}
use Rattle.node_handle.specs.declared.refusal.Refusal.{Refusal}
use Rattle.node_handle.specs.declared.refusal.Refusal.TheVariants.{OutOfMemory, Closed, Open, ShortBuffer, Name, TooMany, Unsynced}
use Rattle.node_handle.specs.Refusals.{refusal_of, place_in}
use Rattle.node_handle.specs.Saying.{Said}
use Rattle.node_handle.specs.Waiting.{told}
use Rattle.node_handle.specs.Hosting.{Hosting, Settled, bytes_kept, just_opened, line_served, may_write, words_cleared}

-- how many bytes stand in a file before its log, which may go on after closed ones
abbrev pub before_log : List ℕ → ℕ
before_log file = length file - length (part_in file).log

-- a node is opened from the file of its log: it makes the log in the file, from the rest that the file begins with, where it begins with one; and so many
-- bytes of the file stay, those before the log among them
pub record IsOfFile (settings : List ℕ) (node : model.Node) (file : List ℕ) (kept : ℕ) (h : Hosting) : Type 0 where
  pub serving : Serving
  pub stay : ℕ
  pub opened : IsOpened settings node (part_in file).rest (part_in file).log stay serving
  pub stays : kept ≡ before_log file + stay
  pub is : h ≡ just_opened (calls_before (part_in file).rest) serving

-- the same of the node of this name
pub record IsNamed (settings name file : List ℕ) (kept : ℕ) (h : Hosting) : Type 0 where
  pub node : Node
  pub named : node_in name ≡ Some node
  pub opened : IsOfFile settings (node_seen node) file kept h

-- a refusal is that of a fault, and the place of the record that it is about is told as one of the file, which has so many bytes before the log; or
-- memory was refused
abbrev pub TellsFault : ServiceFault → ℕ → Refusal → ℕ → ℕ → Type 0
TellsFault fault first why before kept = ((why ≡ refusal_of fault) × (kept ≡ place_in fault first before)) ⊎ ((why ≡ OutOfMemory) × (kept ≡ before))

-- a node is refused for a true cause, and the place in the file of the record that it is about is told
pub record HasCause (settings name file : List ℕ) (why : Refusal) (before kept : ℕ) : Type 0 where
  pub node : Node
  pub named : node_in name ≡ Some node
  pub fault : ServiceFault
  pub refused : IsRefused settings (node_seen node) (part_in file).rest (part_in file).log fault
  pub is : why ≡ refusal_of fault
  pub place : kept ≡ place_in fault (before_log file) before

-- want of memory, a name of no node, or the first cause that stands
abbrev pub RefusesNode : List ℕ → List ℕ → List ℕ → Refusal → ℕ → ℕ → Type 0
RefusesNode settings name file why before kept =
    ((why ≡ OutOfMemory) × (kept ≡ before)) ⊎ (((why ≡ Name) × ((node_in name ≡ None) × (kept ≡ before))) ⊎ HasCause settings name file why before kept)

-- the handle has a node already, or the node is refused
abbrev pub RefusesOpening : Option Hosting → List ℕ → List ℕ → List ℕ → Refusal → ℕ → ℕ → Type 0
RefusesOpening old settings name file why before kept =
    ((why ≡ Open) × (IsSome old × (kept ≡ before))) ⊎ RefusesNode settings name file why before kept

-- opened, the node is that of the settings, the name and the file of its log, and this many bytes of the file stay; refused, the handle is as it was, and
-- why and where is told
abbrev pub Opens : Option Hosting → List ℕ → List ℕ → List ℕ → Said → ℕ → ℕ → Option Hosting → Type 0
Opens old settings name file (Ok made) before kept new =
    (h : Hosting) × ((old ≡ None) × ((new ≡ Some h) × IsNamed settings name file kept h))
Opens old settings name file (Err why) before kept new = (new ≡ old) × RefusesOpening old settings name file why before kept

-- a line that was served made of the node what a line makes of it. Where memory was refused there is no node any more: it may have made the call
-- and have no record of it
abbrev pub Serves : Option Hosting → List ℕ → Said → Option Hosting → Type 0
Serves old line (Ok made) new = IsSome old × (new ≡ option_map (λ h. line_served h line) old)
Serves old line (Err why) new = ((why ≡ OutOfMemory) × (new ≡ None)) ⊎ ((why ≡ Closed) × ((old ≡ None) × (new ≡ None)))

-- this many bytes of the records are on disk; where there are fewer, nothing is taken to be
abbrev pub KeepsBytes : Hosting → ℕ → Said → Hosting → Type 0
KeepsBytes h size said new =
    ((size ≤ length h.serving.records) × ((said ≡ Ok tt) × (new ≡ bytes_kept size h))) ⊎ ((length h.serving.records < size) × ((said ≡ Err TooMany) × (new ≡ h)))

abbrev pub Keeps : Option Hosting → ℕ → Said → Option Hosting → Type 0
Keeps None size said new = (said ≡ Err Closed) × (new ≡ None)
Keeps (Some h) size said new = (kept : Hosting) × ((new ≡ Some kept) × KeepsBytes h size said kept)

-- what may be written is forgotten, and nothing else; where nothing may be, nothing is
abbrev pub ClearsWords : Hosting → Said → Hosting → Type 0
ClearsWords h said new =
    ((may_write h ≡ true) × ((said ≡ Ok tt) × (new ≡ words_cleared h))) ⊎ ((may_write h ≡ false) × ((said ≡ Err Unsynced) × (new ≡ h)))

abbrev pub Clears : Option Hosting → Said → Option Hosting → Type 0
Clears None said new = (said ≡ Err Closed) × (new ≡ None)
Clears (Some h) said new = (left : Hosting) × ((new ≡ Some left) × ClearsWords h said left)

-- how many calls closed logs have, after which that of a node goes on
abbrev pub closed_of : Option Hosting → ℕ
closed_of None = 0
closed_of (Some h) = h.closed

-- how many calls a node's logs have
abbrev pub calls_of : ℕ → Serving → ℕ
calls_of closed s = closed + s.calls

-- a number is told, or there is no node
abbrev pub TellsCalls : ℕ → Option Serving → Said → ℕ → ℕ → Type 0
TellsCalls closed node (Ok made) before after = option_map (calls_of closed) node ≡ Some after
TellsCalls closed node (Err why) before after = (why ≡ Closed) × ((node ≡ None) × (after ≡ before))

-- how many calls the node's log has is told, with those of closed logs before it, where all is on disk
abbrev pub Counts : Option Hosting → Said → ℕ → ℕ → Type 0
Counts node said before after = Settled node (after ≡ before) (λ s out. TellsCalls (closed_of node) s out before after) said

abbrev pub most_in : Serving → ℕ
most_in s = most_at (settings_seen s.settings) s.node s.state

-- a number is told, or there is no node
abbrev pub TellsMost : Option Serving → Said → ℕ → ℕ → Type 0
TellsMost node (Ok made) before after = option_map most_in node ≡ Some after
TellsMost node (Err why) before after = (why ≡ Closed) × ((node ≡ None) × (after ≡ before))

-- the most entries, slots or rows that the node may have are told, where all is on disk
abbrev pub Caps : Option Hosting → Said → ℕ → ℕ → Type 0
Caps node said before after = Settled node (after ≡ before) (λ s out. TellsMost s out before after) said

abbrev pub records_of : Hosting → List ℕ
records_of h = h.serving.records

-- those of them that come after so many bytes
abbrev pub records_after : ℕ → Hosting → List ℕ
records_after passed h = drop passed h.serving.records

-- these bytes, or elements, stand at the start of a buffer, and how many they are is told
abbrev pub Stands : {A : Type 0} → List A → List A → List A → ℕ → Type 0
Stands bytes buffer after size = (after ≡ bytes ++ drop (length bytes) buffer) × (size ≡ length bytes)

-- a buffer has no room for these bytes, and is as it was; how many they are is told
abbrev pub Lacks : {A : Type 0} → List A → List A → List A → ℕ → Type 0
Lacks bytes buffer after size = (length buffer < length bytes) × ((after ≡ buffer) × (size ≡ length bytes))

-- the bytes that a node has are copied into a buffer; where there is no node, nothing changes
abbrev pub Copies : Option (List ℕ) → Said → List ℕ → List ℕ → ℕ → ℕ → Type 0
Copies given (Ok made) buffer after before size = (bytes : List ℕ) × ((given ≡ Some bytes) × Stands bytes buffer after size)
Copies given (Err why) buffer after before size =
    ((why ≡ Closed) × ((given ≡ None) × ((after ≡ buffer) × (size ≡ before)))) ⊎ ((why ≡ ShortBuffer) × ((bytes : List ℕ) × ((given ≡ Some bytes) × Lacks bytes buffer after size)))

-- so is what is to be appended to the log: what the host has not said to be on disk
abbrev pub CopiesRecords : Option Hosting → Said → List ℕ → List ℕ → ℕ → ℕ → Type 0
CopiesRecords node said buffer after before size = Copies (option_map records_of node) said buffer after before size

-- so is what comes after so many bytes of it
abbrev pub CopiesRecordsAfter : ℕ → Option Hosting → Said → List ℕ → List ℕ → ℕ → ℕ → Type 0
CopiesRecordsAfter passed node said buffer after before size = Copies (option_map (records_after passed) node) said buffer after before size

-- what may be written is copied: the words of the calls, from the first on, of which all records are on disk. Where nothing may be, that is said
abbrev pub CopiesWords : Hosting → Said → List ℕ → List ℕ → ℕ → ℕ → Type 0
CopiesWords h said buffer after before size =
    ((may_write h ≡ true) × Copies (Some (told h.words)) said buffer after before size)
    ⊎ ((may_write h ≡ false) × ((said ≡ Err Unsynced) × ((after ≡ buffer) × (size ≡ before))))

abbrev pub CopiesWritten : Option Hosting → Said → List ℕ → List ℕ → ℕ → ℕ → Type 0
CopiesWritten None said buffer after before size = Copies None said buffer after before size
CopiesWritten (Some h) said buffer after before size = CopiesWords h said buffer after before size

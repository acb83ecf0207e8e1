-- All nodes together: what happens to their processes and files, one thing after another, and the worlds that the bytes of their files are.
use Rattle.std.specs.Prelude.{◌≡◌, ⊤, ℕ, cond, List, [], ◌∷◌, ◌++◌, Some, None}
use Rattle.std.specs.List.{AllByRecursion}
use Rattle.claim_model.specs.Context.{Context}
use Rattle.claim_model.specs.Laws.{Laws}
use Rattle.claim_model.specs.Node.{Node, Call, Submit, Tick, Take, Stop, Start, Revise, Adjudicate}
use Rattle.claim_model.specs.World.{World, Packet}
use Rattle.claim_model.specs.Settings.{Accepts, opening}
use Rattle.claim_model.specs.Nodes.{node_at, same_node}
use Rattle.claim_model.specs.Logs.{Logged, posted_by}
use Rattle.claim_model.specs.Promises.{OneAnswer, OneStandingPayment, CountedPaymentsStand}
use Rattle.crash_safety.specs.Network.{Move, network}
use Rattle.crash_safety.specs.Runs.{IsAmong}
use Rattle.crash_safety.specs.Steps.{replayed_from}
use Rattle.world_setup.specs.Seen.{call_seen, settings_seen}
use Rattle.world_setup.specs.declared.settings.WorldSettings.{WorldSettings as Settings}
use Rattle.node_logged.specs.Setting.{context_of}
use Rattle.kept_logs.specs.Fits.{FitsNode}
use Rattle.kept_logs.specs.Rests.{begins}
use Rattle.node_service.specs.Asking.{Noted, Calls, asked_of}
use Rattle.node_service.specs.Opened.{Spells}
use Rattle.node_process.specs.Safe.{Whose}
use Rattle.node_process.specs.Histories.{Happening, file_of, on_disk, digest_of, CanBegin, IsHistory, HasCalls, ReadsCalls, lines_at}

-- what happens, and to which node
pub record Turn : Type 0 where
  pub node : Node
  pub happens : Happening

-- what happened to one node, the newest first
abbrev pub own : Node → List Turn → List Happening
own node [] = []
own node (t ∷ before) = cond (same_node t.node node) (t.happens ∷ own node before) (own node before)

-- whose process each node has, and the file with which it begins
pub record Owners : Type 0 where
  pub whose : Node → Whose
  pub begun : Node → List ℕ

-- ---- what is taken was sent

-- at an earlier moment the log on its disk had a call that sent this packet. A process says no packet that is not such a one (`told` of `files_are_processes`)
pub record WasSent (owners : Owners) (all : List Turn) (p : Packet) : Type 0 where
  pub later : List Turn
  pub earlier : List Turn
  pub is : all ≡ later ++ earlier
  pub calls : List Logged
  pub has : HasCalls (digest_of (owners.whose p.from) (owners.begun p.from)) (owners.whose p.from).node (on_disk (owners.begun p.from) (own p.from earlier)) calls
  pub sent : IsAmong (posted_by p.from calls) p

-- the packet that a call takes was sent; of other calls nothing is asked
abbrev pub IsOfPacket : Owners → List Turn → Node → Call → Type 0
IsOfPacket owners all node (Take from bytes) = WasSent owners all (record { from = from; to = node; bytes = bytes })
IsOfPacket owners all node (Submit text) = ⊤
IsOfPacket owners all node Tick = ⊤
IsOfPacket owners all node Stop = ⊤
IsOfPacket owners all node Start = ⊤
IsOfPacket owners all node (Revise change) = ⊤
IsOfPacket owners all node (Adjudicate from bytes advice) = WasSent owners all (record { from = from; to = node; bytes = bytes })

-- of each of these lines that asks for a call
abbrev pub AreOfPackets : Owners → List Turn → Node → List (List ℕ) → Type 0
AreOfPackets owners all node lines = AllByRecursion (λ (line : List ℕ). (n : Noted) → asked_of line ≡ Some (Calls n) → IsOfPacket owners all node (call_seen n.call)) lines

-- whatever lines a node has heard whole, each packet that they have it take was sent before, by the node that they name
abbrev pub TakesWhatWasSent : Owners → List Turn → Type 0
TakesWhatWasSent owners [] = ⊤
TakesWhatWasSent owners (t ∷ before) = AreOfPackets owners before t.node (lines_at (t.happens ∷ own t.node before)) × TakesWhatWasSent owners before

-- ---- the whole

-- processes of all nodes, each over its own file, under one text of settings; and packets that pass between them
pub record IsNetwork (text : List ℕ) (owners : Owners) (all : List Turn) : Type 0 where
  pub named : (node : Node) → (owners.whose node).node ≡ node
  pub settings : (node : Node) → (owners.whose node).settings ≡ text
  pub can : (node : Node) → CanBegin (owners.whose node) (owners.begun node)
  pub known : AllByRecursion (λ (t : Turn). FitsNode t.node) all
  pub each : (node : Node) → IsHistory (owners.whose node) (owners.begun node) (own node all)
  pub packets : TakesWhatWasSent owners all

-- the files with which all begin are those of a network at rest, each with the calls of closed logs before its own: the empty one, where there is no log yet; or any that a network
-- has left
pub record BeginsAtRest (settings : Settings) (owners : Owners) : Type 0 where
  pub moves : List Move
  pub closed : Node → List Logged
  pub rests : (node : Node) → begins settings (owners.whose node).node (owners.whose node).rest ≡ replayed_from (context_of settings) (node_at (opening (settings_seen settings)) node) (closed node)
  pub at : (node : Node) (calls : List Logged) → HasCalls (digest_of (owners.whose node) (owners.begun node)) (owners.whose node).node (owners.begun node) calls
      → (network (context_of settings) (settings_seen settings) moves).at node ≡ record { memory = None; synced = closed node ++ calls; unsynced = [] }

-- bytes are read as calls, which make this of the node that their log begins with
abbrev pub AreNodesOf : Settings → Owners → (Node → List ℕ) → World → Type 0
AreNodesOf settings owners bytes w =
    (node : Node) (calls : List Logged) → ReadsCalls (digest_of (owners.whose node) (owners.begun node)) (owners.whose node).node (bytes node) calls
    → node_at w node ≡ replayed_from (context_of settings) (begins settings (owners.whose node).node (owners.whose node).rest) calls

-- the bytes that each node has on its disk for certain, and those of its file as it lies
abbrev pub disks_of : Owners → List Turn → Node → List ℕ
disks_of owners all node = on_disk (owners.begun node) (own node all)

abbrev pub files_of : Owners → List Turn → Node → List ℕ
files_of owners all node = file_of (owners.begun node) (own node all)

-- there is a world of these bytes, and of each the promises hold
pub record Keeps (settings : Settings) (owners : Owners) (bytes : Node → List ℕ) : Type 0 where
  pub world : World
  pub is : AreNodesOf settings owners bytes world
  pub answer : (w : World) → AreNodesOf settings owners bytes w → OneAnswer (context_of settings) w w
  pub paid : (w : World) → AreNodesOf settings owners bytes w → OneStandingPayment (context_of settings) w
  pub counted : (w : World) → AreNodesOf settings owners bytes w → CountedPaymentsStand (context_of settings) w

-- so of the disks, and of the files as they lie, which living processes have in memory and dead ones will read
pub record KeepPromises (settings : Settings) (owners : Owners) (all : List Turn) : Type 0 where
  pub disks : Keeps settings owners (disks_of owners all)
  pub files : Keeps settings owners (files_of owners all)

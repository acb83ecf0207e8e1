-- Which run of the model a network is, whatever was killed.
use Rattle.std.specs.Prelude.{◌≡◌, ℕ, List, ◌++◌, Some}
use Rattle.claim_model.specs.Context.{Context}
use Rattle.claim_model.specs.Numbered.{numbered}
use Rattle.claim_model.specs.Node.{Node}
use Rattle.claim_model.specs.World.{Packet, Event, run}
use Rattle.claim_model.specs.Settings.{WorldSettings, opening}
use Rattle.claim_model.specs.Nodes.{AnyNode, node_at}
use Rattle.claim_model.specs.Logs.{Logged, log_in, Makes}
use Rattle.claim_model.specs.Interleavings.{AllAccepted}
use Rattle.crash_safety.specs.Network.{Process, Network, file, replayed}

-- the packet is one of these
pub record IsAmong (packets : List Packet) (p : Packet) : Type 0 where
  pub number : ℕ
  pub is : numbered packets number ≡ Some p

-- a run of accepted events has these logs, one a node, and all that was said is among its packets
pub record HasRun (ctx : Context) (s : WorldSettings) (logs : Node → List Logged) (said : List Packet) (events : List Event) : Type 0 where
  pub accepted : AllAccepted ctx (opening s) events
  pub each : (node : Node) → log_in ctx (opening s) events node ≡ logs node
  pub all : (k : ℕ) (p : Packet) → numbered said k ≡ Some p → IsAmong (run ctx (opening s) events).packets p

-- what the disks hold for certain
abbrev pub on_disks : Network → Node → List Logged
on_disks n node = (n.at node).synced

-- what lies in the files, which living processes have in memory, and dead ones will read
abbrev pub in_files : Network → Node → List Logged
in_files n node = file (n.at node)

-- the run of a network at one moment goes on to that of a later one, and further to what lies in the files then
pub record Course (ctx : Context) (s : WorldSettings) (now later : Network) : Type 0 where
  pub before : List Event
  pub between : List Event
  pub beyond : List Event
  pub first : HasRun ctx s (on_disks now) now.wire before
  pub disks : HasRun ctx s (on_disks later) later.wire (before ++ between)
  pub files : HasRun ctx s (in_files later) later.wire ((before ++ between) ++ beyond)

-- a process that lives has in memory the replay of its log as it lies, and its node makes each call of that log, with every byte that it sent
pub record IsReplay (ctx : Context) (s : WorldSettings) (node : Node) (p : Process) : Type 0 where
  pub memory : (m : AnyNode) → p.memory ≡ Some m → replayed ctx s node (file p) ≡ Some m
  pub makes : (before : AnyNode) → node_at (opening s) node ≡ Some before → Makes ctx before (file p)

-- A network whose settings grow while it runs: its nodes go over one by one, each at a moment of its own, and die at any.
use Rattle.std.specs.Prelude.{◌≤◌, ◌⊎◌, ⊤, ℕ, zero, suc, cond, List, [], ◌∷◌, ◌++◌, Option, Some, None}
use Rattle.claim_model.specs.Context.{Context}
use Rattle.claim_model.specs.Laws.{Laws}
use Rattle.claim_model.specs.Node.{Node, Pharmacy}
use Rattle.claim_model.specs.World.{World, Event}
use Rattle.claim_model.specs.Settings.{WorldSettings, Accepts}
use Rattle.claim_model.specs.Nodes.{same_node, Asked, asked}
use Rattle.settings_growth.specs.Growth.{Grows, RejectionsStay}
use Rattle.crash_safety.specs.Network.{Process, Network, Move, Calling, Syncing, Saying, Crashing, Restarting, file, put, moved, beginning}
use Rattle.crash_safety.specs.Runs.{HasRun, on_disks, in_files}
use Rattle.crash_safety.specs.Kept.{AreNodes}

-- settings, and how their nodes read bytes
pub record Stage : Type 0 where
  pub ctx : Context
  pub settings : WorldSettings

-- settings that grow, again and again
abbrev pub Grow : (ℕ → Stage) → Type 0
Grow stages = (k : ℕ) → Grows (stages k).ctx (stages (suc k)).ctx (stages k).settings (stages (suc k)).settings

-- the processes, and under which of the settings each node's is
pub record Growing : Type 0 where
  pub network : Network
  pub stage : Node → ℕ

-- what happens: a move of a process, under the settings that it has; or a node goes over to the next ones, with its log as it lies. For that its process stops
pub data Change : Type 0 where
  Moving : Move → Change
  Going : Node → Change

abbrev pub asked_node : Option Asked → Node
asked_node (Some a) = a.node
asked_node None = Pharmacy zero

-- whose move it is; a call that nobody is asked for is no one's
abbrev pub mover : Network → Move → Node
mover n (Calling event) = asked_node (asked n.wire event)
mover n (Syncing node) = node
mover n (Saying node packet) = node
mover n (Crashing node left) = node
mover n (Restarting node) = node

-- the stages with that of one node another
abbrev pub staged : (Node → ℕ) → Node → ℕ → Node → ℕ
staged stage node k other = cond (same_node node other) k (stage other)

-- a process that has stopped, and its log
abbrev pub stopped : Process → Process
stopped p = record { memory = None; synced = p.synced; unsynced = p.unsynced }

abbrev pub moved_at : (ℕ → Stage) → Growing → Move → Stage → Growing
moved_at stages g move own = record { network = moved own.ctx own.settings g.network move; stage = g.stage }

abbrev pub changed : (ℕ → Stage) → Growing → Change → Growing
changed stages g (Moving move) = moved_at stages g move (stages (g.stage (mover g.network move)))
changed stages g (Going node) = record { network = put g.network node (stopped (g.network.at node)); stage = staged g.stage node (suc (g.stage node)) }

abbrev pub after_changes : (ℕ → Stage) → Growing → List Change → Growing
after_changes stages g [] = g
after_changes stages g (change ∷ more) = after_changes stages (changed stages g change) more

-- all disks are empty, and all nodes are under the first settings
abbrev pub at_outset : Growing
at_outset = record { network = beginning; stage = λ (node : Node). zero }

abbrev pub grown : (ℕ → Stage) → List Change → Growing
grown stages changes = after_changes stages at_outset changes

-- where a switch goes over, what it has rejected for want of a route has none under the next settings
abbrev pub StaysAt : (ℕ → Stage) → Growing → Change → Type 0
StaysAt stages g (Moving move) = ⊤
StaysAt stages g (Going node) = RejectionsStay (stages (g.stage node)).ctx (stages (suc (g.stage node))).ctx node (file (g.network.at node))

abbrev pub StayFrom : (ℕ → Stage) → Growing → List Change → Type 0
StayFrom stages g [] = ⊤
StayFrom stages g (change ∷ more) = StaysAt stages g change × StayFrom stages (changed stages g change) more

abbrev pub Stay : (ℕ → Stage) → List Change → Type 0
Stay stages changes = StayFrom stages at_outset changes

-- no node is beyond these settings, and what a switch that has not gone over to them has rejected for want of a route has none under them
pub record AreWithin (stages : ℕ → Stage) (g : Growing) (k : ℕ) : Type 0 where
  pub within : (node : Node) → g.stage node ≤ k
  pub stay : (node : Node) → RejectionsStay (stages (g.stage node)).ctx (stages k).ctx node (file (g.network.at node))

-- what the disks hold, and what lies in the files, are the logs of a run under these settings, in which all that was said was sent
pub record RunsAt (own : Stage) (n : Network) : Type 0 where
  pub events : List Event
  pub beyond : List Event
  pub disks : HasRun own.ctx own.settings (on_disks n) n.wire events
  pub files : HasRun own.ctx own.settings (in_files n) n.wire (events ++ beyond)

-- the nodes of a world are what the disks hold for certain, or what lies in the files, under these settings
abbrev pub HoldsAt : Stage → Network → World → Type 0
HoldsAt own n w = AreNodes own.ctx own.settings (on_disks n) w ⊎ AreNodes own.ctx own.settings (in_files n) w

-- this is true of the disks together, and of what lies in the files, whatever grows and is killed at whatever moment
abbrev pub WhateverGrows : (Context → World → Type 0) → Type 0
WhateverGrows promise =
    (stages : ℕ → Stage) (changes : List Change) (k : ℕ) (w : World) → Grow stages → Stay stages changes → AreWithin stages (grown stages changes) k
    → Laws (stages k).ctx → Accepts (stages k).ctx (stages k).settings → HoldsAt (stages k) (grown stages changes).network w → promise (stages k).ctx w

-- What holds of disks and memories, at every moment.
use Rattle.std.specs.Prelude.{◌≡◌, ◌⊎◌, ℕ, List, ◌++◌, Some}
use Rattle.claim_model.specs.Context.{Context}
use Rattle.claim_model.specs.Laws.{Laws}
use Rattle.claim_model.specs.Numbered.{numbered}
use Rattle.claim_model.specs.Node.{Node}
use Rattle.claim_model.specs.World.{World, Packet}
use Rattle.claim_model.specs.Settings.{WorldSettings, Accepts}
use Rattle.claim_model.specs.Nodes.{node_at}
use Rattle.claim_model.specs.Logs.{Logged}
use Rattle.crash_safety.specs.Network.{Network, Move, replayed, network}
use Rattle.crash_safety.specs.Runs.{on_disks, in_files}

-- the nodes of a world are what these logs make of those of the settings
abbrev pub AreNodes : Context → WorldSettings → (Node → List Logged) → World → Type 0
AreNodes ctx s logs w = (node : Node) → node_at w node ≡ replayed ctx s node (logs node)

-- the nodes of a world are what the disks hold for certain, or what lies in the files: the memories of all that live
abbrev pub Holds : Context → WorldSettings → Network → World → Type 0
Holds ctx s n w = AreNodes ctx s (on_disks n) w ⊎ AreNodes ctx s (in_files n) w

-- this is true of the disks together, and of the memories together, whatever is killed at whatever moment
abbrev pub WhateverIsKilled : (Context → World → Type 0) → Type 0
WhateverIsKilled promise = (ctx : Context) (s : WorldSettings) (moves : List Move) (w : World) → Laws ctx → Accepts ctx s → Holds ctx s (network ctx s moves) w → promise ctx w

-- this is true between what the disks hold at one moment and what disks or memories hold at any later one
abbrev pub AtAnyLaterMoment : (Context → World → World → Type 0) → Type 0
AtAnyLaterMoment promise =
    (ctx : Context) (s : WorldSettings) (moves more : List Move) (w v : World) → Laws ctx → Accepts ctx s → AreNodes ctx s (on_disks (network ctx s moves)) w
    → Holds ctx s (network ctx s (moves ++ more)) v → promise ctx w v

-- this is true of each packet that was said, whatever becomes of its sender then
abbrev pub OnceSaid : (Context → World → Packet → Type 0) → Type 0
OnceSaid promise =
    (ctx : Context) (s : WorldSettings) (moves more : List Move) (w : World) (k : ℕ) (p : Packet) → Laws ctx → Accepts ctx s → numbered (network ctx s moves).wire k ≡ Some p
    → Holds ctx s (network ctx s (moves ++ more)) w → promise ctx w p

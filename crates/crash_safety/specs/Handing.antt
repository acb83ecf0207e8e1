-- Switches that are anything at all, as long as they hand on what came: any number of processes, with tables or without.
use Rattle.std.specs.Prelude.{◌≡◌, ⊤, ℕ, cond, List, [], ◌∷◌, ◌++◌, Option, Some, None}
use Rattle.claim_model.specs.Words.{TxnId}
use Rattle.claim_model.specs.Context.{Context}
use Rattle.claim_model.specs.Laws.{Laws}
use Rattle.claim_model.specs.Numbered.{numbered}
use Rattle.claim_model.specs.Node.{Node, Pharmacy, Switch, Payer, Take}
use Rattle.claim_model.specs.World.{World}
use Rattle.claim_model.specs.Settings.{WorldSettings, Accepts}
use Rattle.claim_model.specs.Held.{decided, held}
use Rattle.claim_model.specs.Nodes.{node_at, Asked, asked}
use Rattle.claim_model.specs.Logs.{posted_by}
use Rattle.crash_safety.specs.Network.{Network, Move, Calling, Syncing, Saying, Crashing, Restarting, replayed, put, calls, one_synced, saying, crashed, restarted, beginning}
use Rattle.crash_safety.specs.Runs.{on_disks, in_files}
use Rattle.crash_safety.specs.Explained.{Turn, log_among, packet, IsExplainedOrder}
use Rattle.crash_safety.specs.Explains.{explains}
use Rattle.crash_safety.specs.Told.{IsTold, ComesAgain}

-- what happens: a move of a pharmacy or a payer; or some process in the name of a switch says what it may hand on
pub data Happening : Type 0 where
  Moving : Move → Happening
  Handing : (switch : ℕ) → (to : Node) → (bytes : List ℕ) → Happening

-- a move of a switch is none here
abbrev pub unless_switch : Node → Network → Network → Network
unless_switch (Pharmacy k) n next = next
unless_switch (Switch k) n next = n
unless_switch (Payer k) n next = next

abbrev pub calling_outside : Context → Network → Option Asked → Network
calling_outside ctx n None = n
calling_outside ctx n (Some a) = unless_switch a.node n (put n a.node (calls ctx (n.at a.node) a.call (n.at a.node).memory))

abbrev pub moved_outside : Context → WorldSettings → Network → Move → Network
moved_outside ctx s n (Calling event) = calling_outside ctx n (asked n.wire event)
moved_outside ctx s n (Syncing node) = unless_switch node n (put n node (one_synced (n.at node) (n.at node).unsynced))
moved_outside ctx s n (Saying node packet) = unless_switch node n (saying n (numbered (posted_by node (n.at node).synced) packet))
moved_outside ctx s n (Crashing node left) = unless_switch node n (put n node (crashed (n.at node) left))
moved_outside ctx s n (Restarting node) = unless_switch node n (put n node (restarted ctx s node (n.at node)))

-- a switch may hand on what explains that its addressee takes it: bytes that came to it, or the fixed rejection of a request that came to it
unfoldable pub happened : Context → WorldSettings → Network → Happening → Network
happened ctx s n (Moving move) = moved_outside ctx s n move
happened ctx s n (Handing switch to bytes) = cond (explains ctx n.wire to (Take (Switch switch) bytes)) (saying n (Some (packet (Switch switch) to bytes))) n

abbrev pub after_all : Context → WorldSettings → Network → List Happening → Network
after_all ctx s n [] = n
after_all ctx s n (one ∷ more) = after_all ctx s (happened ctx s n one) more

abbrev pub handing : Context → WorldSettings → List Happening → Network
handing ctx s all = after_all ctx s beginning all

-- an explained order of the disks of pharmacies and payers
pub record OrdersDisks (ctx : Context) (s : WorldSettings) (n : Network) (turns : List Turn) : Type 0 where
  pub order : IsExplainedOrder ctx s turns
  pub pharmacies : (k : ℕ) → log_among turns (Pharmacy k) ≡ on_disks n (Pharmacy k)
  pub payers : (k : ℕ) → log_among turns (Payer k) ≡ on_disks n (Payer k)

-- at two moments, the second goes on from the first
pub record OrdersGoOn (ctx : Context) (s : WorldSettings) (now later : Network) : Type 0 where
  pub turns : List Turn
  pub more : List Turn
  pub first : OrdersDisks ctx s now turns
  pub last : OrdersDisks ctx s later (turns ++ more)

-- the pharmacies and payers of a world are what the disks hold; its switches may be any
pub record AreOutside (ctx : Context) (s : WorldSettings) (n : Network) (w : World) : Type 0 where
  pub pharmacies : (k : ℕ) → node_at w (Pharmacy k) ≡ replayed ctx s (Pharmacy k) (on_disks n (Pharmacy k))
  pub payers : (k : ℕ) → node_at w (Payer k) ≡ replayed ctx s (Payer k) (on_disks n (Payer k))

-- this is true of the disks of pharmacies and payers, whatever switches are
abbrev pub WhateverSwitchesAre : (Context → World → Type 0) → Type 0
WhateverSwitchesAre promise = (ctx : Context) (s : WorldSettings) (all : List Happening) (w : World) → Laws ctx → Accepts ctx s → AreOutside ctx s (handing ctx s all) w → promise ctx w

-- this is true between the disks of pharmacies and payers at one moment and at any later one
abbrev pub LaterWhateverSwitchesAre : (Context → World → World → Type 0) → Type 0
LaterWhateverSwitchesAre promise =
    (ctx : Context) (s : WorldSettings) (all more : List Happening) (w v : World) → Laws ctx → Accepts ctx s → AreOutside ctx s (handing ctx s all) w → AreOutside ctx s (handing ctx s (all ++ more)) v → promise ctx w v

abbrev pub IsOutside : Node → Type 0
IsOutside (Pharmacy n) = ⊤
IsOutside (Switch n) = ⊥
IsOutside (Payer n) = ⊤

-- no two pharmacies or payers hold different answers to one id, at one time or at two
pub record OneAnswerOutside (ctx : Context) (w v : World) : Type 0 where
  pub bytes : (a b : Node) (id : TxnId) (x y : List ℕ) → IsOutside a → IsOutside b → held ctx w a id ≡ Some x → held ctx v b id ≡ Some y → x ≡ y

-- this is the answer for good, at pharmacies and payers
pub record IsFinalOutside (ctx : Context) (w : World) (id : TxnId) (a : List ℕ) : Type 0 where
  pub decided_is : decided ctx w id ≡ Some a
  pub only : (node : Node) (x : List ℕ) → IsOutside node → held ctx w node id ≡ Some x → x ≡ a
  pub again : ComesAgain ctx w id a

-- what a pharmacy told is the answer for good, kept or not, whatever switches are
abbrev pub ToldWhateverSwitchesAre : Type 0
ToldWhateverSwitchesAre =
    (ctx : Context) (s : WorldSettings) (all more : List Happening) (id : TxnId) (a : List ℕ) (w : World) → Laws ctx → Accepts ctx s → IsTold (handing ctx s all) id a → AreOutside ctx s (handing ctx s (all ++ more)) w → IsFinalOutside ctx w id a

-- an explained order of what lies in the files, which goes on from that of the disks
pub record OrdersFiles (ctx : Context) (s : WorldSettings) (n : Network) : Type 0 where
  pub turns : List Turn
  pub more : List Turn
  pub disks : OrdersDisks ctx s n turns
  pub order : IsExplainedOrder ctx s (turns ++ more)
  pub pharmacies : (k : ℕ) → log_among (turns ++ more) (Pharmacy k) ≡ in_files n (Pharmacy k)
  pub payers : (k : ℕ) → log_among (turns ++ more) (Payer k) ≡ in_files n (Payer k)

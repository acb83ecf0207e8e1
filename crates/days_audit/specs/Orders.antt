-- An order of calls in the making: what is left of each log, and what the nodes have by then.
use Rattle.std.specs.Prelude.{◌≡◌, ◌⊎◌, ℕ, ◌+◌, ◌==◌, Bool, true, MatchBool, not, ◌&&◌, List, ◌∷◌, length, map, slice_get, slice_set, Some}
use Rattle.std.specs.List.{list_all}
use Rattle.claim_model.specs.Context.{Context}
use Rattle.claim_model.specs.Logs.{Logged, NodeLog}
use Rattle.claim_model.specs.Node.{Node}
use Rattle.crash_safety.specs.Explained.{Turn, log_among}
use Rattle.world_setup.specs.Seen.{node_seen}
use Rattle.run_merge.specs.Naming.{calls_of}
use Rattle.vouched_runs.specs.Parties.{Parties, world_of}
use Rattle.claim_model.specs.Carried.{IsVouched}
use Rattle.vouched_runs.specs.Vouched.{Leads}
use Rattle.days_audit.specs.Calls.{Does, DoesNot, NextIsVouched}
use Rattle.days_audit.specs.declared.days.Days.{Days}
use Rattle.days_audit.specs.declared.days.Days.TheVariants.{Legal, Not}
use Rattle.days_audit.specs.declared.line.Line.{Line}
use Rattle.days_audit.specs.declared.order.Order.{Order}

-- what is left of a log
abbrev pub line_seen : Line → NodeLog
line_seen line = record { node = node_seen line.node; calls = line.left.now }

-- what is left of each log, the nodes by then, how many calls were placed, and whether a node did not make one that was vouched for
pub record OrderParts : Type 0 where
  pub lines : List NodeLog
  pub live : Parties
  pub placed : ℕ
  pub broken : Bool

abbrev pub order_seen : Order → OrderParts
order_seen o = record { lines = map line_seen o.lines.items; live = o.live; placed = length o.placed.items; broken = o.broken }

-- no log has a call left, and each was made
abbrev pub is_done : OrderParts → Bool
is_done o = not o.broken && list_all (λ (line : NodeLog). length line.calls == 0) o.lines

-- the log at a place has a next call, which is vouched for
pub record GoesAt (ctx : Context) (o : OrderParts) (place : ℕ) : Type 0 where
  pub log : NodeLog
  pub at : slice_get o.lines place ≡ Some log
  pub goes : NextIsVouched ctx (world_of o.live) log

-- no log has such a call
abbrev pub AllWait : Context → OrderParts → Type 0
AllWait ctx o = (place : ℕ) → GoesAt ctx o place → ⊥

-- an order after one call more
pub record IsPlaced (ctx : Context) (old new : OrderParts) : Type 0 where
  pub place : ℕ
  pub log : NodeLog
  pub first : Logged
  pub calls : List Logged
  pub at : slice_get old.lines place ≡ Some log
  pub is : log.calls ≡ first ∷ calls
  pub vouched : IsVouched ctx (world_of old.live) first.call
  pub does : Does ctx old.live log.node first new.live
  pub lines : new.lines ≡ slice_set old.lines place (record { node = log.node; calls = calls })
  pub placed : new.placed ≡ old.placed + 1
  pub broken : new.broken ≡ old.broken

-- a node does not make a call that is vouched for
pub record IsBroken (ctx : Context) (old new : OrderParts) : Type 0 where
  pub place : ℕ
  pub log : NodeLog
  pub first : Logged
  pub calls : List Logged
  pub at : slice_get old.lines place ≡ Some log
  pub is : log.calls ≡ first ∷ calls
  pub vouched : IsVouched ctx (world_of old.live) first.call
  pub not : DoesNot ctx old.live log.node first
  pub broken : new.broken ≡ true

-- an order that no call goes on with
pub record IsStill (ctx : Context) (old new : OrderParts) : Type 0 where
  pub same : new ≡ old
  pub wait : AllWait ctx new

-- a step tells whether it placed a call
abbrev pub Steps : Context → Bool → OrderParts → OrderParts → Type 0
Steps ctx placed old new = MatchBool placed (IsPlaced ctx old new) (IsStill ctx old new ⊎ IsBroken ctx old new)

-- an order of calls from these parties that is all of these logs
pub record HasTurns (ctx : Context) (p : Parties) (logs : List NodeLog) (calls : ℕ) : Type 0 where
  pub turns : List Turn
  pub after : Parties
  pub leads : Leads ctx p turns after
  pub among : (node : Node) → log_among turns node ≡ calls_of logs node
  pub count : calls ≡ length turns

-- there is none
abbrev pub NoTurns : Context → Parties → List NodeLog → Type 0
NoTurns ctx p logs = (calls : ℕ) → HasTurns ctx p logs calls → ⊥

-- such an order was found, or there is none
abbrev pub IsOrdered : Context → Parties → List NodeLog → Days → Type 0
IsOrdered ctx p logs (Legal calls) = HasTurns ctx p logs calls
IsOrdered ctx p logs (Not lines) = NoTurns ctx p logs

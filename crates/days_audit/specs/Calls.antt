-- Calls of pharmacies and payers: whether they are vouched for, and what they leave.
use Rattle.std.specs.Prelude.{◌≡◌, Bool, MatchBool, List, [], ◌∷◌, map, Result, IfOk}
use Rattle.std.specs.Global.{Vec}
use Rattle.claim_model.specs.Context.{Context}
use Rattle.claim_model.specs.Logs.{Logged, NodeLog}
use Rattle.claim_model.specs.Node.{Node, Call, Sent, Done}
use Rattle.claim_model.specs.World.{World, on_node, posted}
use Rattle.claim_model.specs.declared.refusal.Fault.{Fault}
use Rattle.world_setup.specs.Seen.{sent_seen}
use Rattle.world_setup.specs.declared.call.Sent.{Sent as Kept}
use Rattle.node_state.specs.Outcomes.{Refuses}
use Rattle.vouched_runs.specs.Parties.{Parties, world_of}
use Rattle.claim_model.specs.Carried.{IsVouched}

-- the world of these parties, in which a node sent this
abbrev pub world_with : Parties → Node → List Sent → World
world_with p node sent = record { pharmacies = p.pharmacies; switches = []; payers = p.payers; packets = posted [] node sent }

-- a call that is made leaves the parties that the model's call leaves, and sends what that sends
abbrev pub NodeMakes : Context → Parties → Node → Call → Parties → Result (Vec Kept) Fault → Type 0
NodeMakes ctx old node call new result =
    IfOk result (λ sent. on_node ctx (world_of old) node call ≡ Done (world_with new node (map sent_seen sent.items)) (map sent_seen sent.items))

-- it is refused for the cause for which the model's call is refused; want of memory says nothing of it
abbrev pub NodeRefuses : Context → Parties → Node → Call → Result (Vec Kept) Fault → Type 0
NodeRefuses ctx old node call result = Refuses (on_node ctx (world_of old) node call) result

-- a node makes a call as its log has it, and leaves these parties
abbrev pub Does : Context → Parties → Node → Logged → Parties → Type 0
Does ctx old node r new = on_node ctx (world_of old) node r.call ≡ Done (world_with new node r.sent) r.sent

-- it refuses the call, or sends something else
abbrev pub DoesNot : Context → Parties → Node → Logged → Type 0
DoesNot ctx old node r = (v : World) → on_node ctx (world_of old) node r.call ≡ Done v r.sent → ⊥

-- a test tells which of the two is so
abbrev pub TellsMade : Bool → Context → Parties → Node → Logged → Parties → Type 0
TellsMade told ctx old node r new = MatchBool told (Does ctx old node r new) (DoesNot ctx old node r)

-- a log has a next call, and a world vouches for it
pub record NextIsVouched (ctx : Context) (w : World) (log : NodeLog) : Type 0 where
  pub first : Logged
  pub calls : List Logged
  pub is : log.calls ≡ first ∷ calls
  pub vouched : IsVouched ctx w first.call

-- A tick of a node of which no entry is open.
use Rattle.std.proofs.Common.{◌≡◌, true, [], refl}
use Rattle.claim_model.specs.Context.{Context}
use Rattle.claim_model.specs.Node.{Up, AtRest, Tick, Done}
use Rattle.node_state.specs.Nodes.{AnyNode, OfPharmacy, OfSwitch, OfPayer, node_step, is_idle_node}
use Rattle.pharmacy_journal.proofs.Idle.{idle_ticks, idle_sends}

-- it leaves the node as it is, and sends nothing
pub idle_node_ticks : (ctx : Context) (state : AnyNode) → is_idle_node state ≡ true → node_step ctx state Tick ≡ Done state []
idle_node_ticks ctx (OfPharmacy (Up j)) idle = rw (idle_ticks j idle, idle_sends ctx j idle) refl
idle_node_ticks ctx (OfPharmacy (AtRest j)) idle = absurd cc
idle_node_ticks ctx (OfSwitch node) idle = absurd cc
idle_node_ticks ctx (OfPayer node) idle = absurd cc

use Rattle.node_state.proofs.Idle.{idle_node_ticks}
use Rattle.node_state.proofs.laws.idle_node_ticks.Goals as goal

pub returns : goal.returns
returns c = idle_node_ticks

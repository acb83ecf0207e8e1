use Rattle.node_handle.proofs.asking.held.Goals as goal
use Rattle.world_setup.specs.Taken.{routes_in}

pub returns : goal.returns
returns c = rw (← c.state.ensures) (c.held.ensures (routes_in c.args.node.now.settings))

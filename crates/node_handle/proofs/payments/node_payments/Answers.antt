use Rattle.node_handle.proofs.payments.node_payments.Goals as goal
use Rattle.world_setup.specs.Taken.{routes_in}

pub returns : goal.returns
returns c = rw (← c.state.ensures) (c.payments_of.ensures (routes_in c.args.node.now.settings))

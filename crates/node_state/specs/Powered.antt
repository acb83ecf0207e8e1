-- A node as the model sees it, up or at rest.
use Rattle.claim_model.specs.Node.{Power, Up, AtRest}
use Rattle.node_state.specs.declared.powered.State.{State}
use Rattle.node_state.specs.declared.powered.State.TheVariants as state

abbrev pub power_seen : {A B : Type 0} → State A B → Power A B
power_seen (state.Up node) = Up node
power_seen (state.AtRest kept) = AtRest kept

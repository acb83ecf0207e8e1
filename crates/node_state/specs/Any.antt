-- A node of any kind, as it is kept.
use Rattle.node_state.specs.Nodes.{AnyNode, OfPharmacy, OfSwitch, OfPayer}
use Rattle.node_state.specs.declared.state.StateKind.{StateKind}
use Rattle.node_state.specs.declared.state.StateKind.TheVariants as kind

abbrev pub any_seen : StateKind → AnyNode
any_seen (kind.Pharmacy node) = OfPharmacy node
any_seen (kind.Switch node) = OfSwitch node
any_seen (kind.Payer node) = OfPayer node

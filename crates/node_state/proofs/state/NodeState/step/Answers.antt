use Rattle.node_state.specs.Nodes.{OfPharmacy, OfSwitch, OfPayer}
use Rattle.node_state.proofs.Stepping.{done_as, refused_as}
use Rattle.node_state.proofs.state.NodeState.step.Goals as goal
use Rattle.node_state.proofs.state.NodeState.step.Goals.{in-Pharmacy, in-Switch, in-Payer}

pub returns-clause-ok : goal.returns-clause-ok
returns-clause-ok c = elim c.match-self.branch [
  | in-Pharmacy w ↦ rw (w.result-is, w.self-inside-is, ← c.self.view_is, w.in-Pharmacy.is, ← c.lent-call.ensures) (done_as OfPharmacy _ _ _ _ w.step.ensures.ok)
  | in-Switch w ↦ rw (w.result-is, w.self-inside-is, ← c.self.view_is, w.in-Switch.is, ← c.lent-call.ensures) (done_as OfSwitch _ _ _ _ w.step-in-Switch.ensures.ok)
  | in-Payer w ↦ rw (w.result-is, w.self-inside-is, ← c.self.view_is, w.in-Payer.is, ← c.lent-call.ensures) (done_as OfPayer _ _ _ _ w.step-in-Payer.ensures.ok)
]

pub returns-clause-fault : goal.returns-clause-fault
returns-clause-fault c = elim c.match-self.branch [
  | in-Pharmacy w ↦ rw (w.result-is, ← c.self.view_is, w.in-Pharmacy.is, ← c.lent-call.ensures) (refused_as OfPharmacy _ _ w.step.ensures.fault)
  | in-Switch w ↦ rw (w.result-is, ← c.self.view_is, w.in-Switch.is, ← c.lent-call.ensures) (refused_as OfSwitch _ _ w.step-in-Switch.ensures.fault)
  | in-Payer w ↦ rw (w.result-is, ← c.self.view_is, w.in-Payer.is, ← c.lent-call.ensures) (refused_as OfPayer _ _ w.step-in-Payer.ensures.fault)
]

use Rattle.node_handle.proofs.handle.NodeHandle.open_under.Goals as goal

pub returns-clause-opened : goal.returns-clause-opened
returns-clause-opened c = rw c.take-shared.ensures.settings (λ text of. (rw c.deref.ensures at c.open_with-opened.ensures) text of)

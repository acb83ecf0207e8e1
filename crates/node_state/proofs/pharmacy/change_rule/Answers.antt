use Rattle.std.proofs.lemmas.Result.{err_from_is_err_and}
use Rattle.node_state.proofs.pharmacy.change_rule.Goals as goal

pub returns-in_err-change_rule-clause-fault : goal.returns-in_err-change_rule-clause-fault
returns-in_err-change_rule-clause-fault c =
    let p = err_from_is_err_and c.from_residual.result c.from_residual.ensures.1 in
    rw (p.1, p.2, ← c.switches.ensures) c.in_err-change_rule.ensures.fault

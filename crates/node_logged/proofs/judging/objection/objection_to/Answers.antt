use Rattle.std.proofs.Common.{◌≡◌, ◌∙◌, subst, List, IfOk}
use Rattle.node_log.specs.LogSeen.{logs_seen}
use Rattle.node_logged.specs.Ledgers.{Ledger}
use Rattle.node_logged.specs.LedgerSeen.{tills_seen}
use Rattle.node_logged.specs.Objections.{first_objection}
use Rattle.node_logged.proofs.Objecting.{objections_stand}
use Rattle.node_logged.proofs.judging.objection.objection_to.Goals as goal

pub returns : goal.returns
returns c =
    objections_stand c.args.settings.now (logs_seen c.args.logs.now) (tills_seen c.args.tills.now) c.first_objection.result
    (subst (λ (ls : List Ledger). IfOk c.first_objection.result (λ o. o ≡ first_objection (tills_seen c.args.tills.now) ls)) (c.as_slice.ensures.value ∙ c.in_ok-ledgers.ensures) c.first_objection.ensures)

use Rattle.std.proofs.Common.{◌<◌, length, arith}
use Rattle.node_log.specs.LogSeen.{logs_seen}
use Rattle.days_audit.specs.Begun.{begins_at}
use Rattle.days_audit.proofs.Begins.{pharmacy_not_begun}
use Rattle.days_audit.proofs.begun.begin_pharmacies.Goals as goal

pub returns-in-None : goal.returns-in-None
returns-in-None c =
    let l : c.loop-passed.passed < length c.settings.result.now.pharmacies.items = omega (arith, c.loop-passed-test.true, c.len-count.ensures, c.settings.result.now.pharmacies.ok.0) in
    pharmacy_not_begun (begins_at c.args.settings.now c.args.rests.now) (logs_seen c.args.logs.now) (length c.args.settings.now.pharmacies.items) (length c.args.settings.now.payers.items) c.loop-passed.passed
    (rw c.settings.ensures.kept at l) (rw c.in-None.is at c.in_ok-node.ensures)

use Rattle.std.proofs.Common.{true}
use Rattle.node_process.specs.Safe.{owner_seen}
use Rattle.node_process.proofs.Moments.{serves_runs, nothing_logs, is_empty_list}
use Rattle.node_process.proofs.serving.keep_records.Goals as goal

pub returns-then-is_empty-clause-each : goal.returns-then-is_empty-clause-each
returns-then-is_empty-clause-each g c = serves_runs (owner_seen c.args.owner.now) (g.M.Machine.acts c.args.machine.now) c.args.service.now c.requires

pub returns-then-is_empty-clause-logged : goal.returns-then-is_empty-clause-logged
returns-then-is_empty-clause-logged g c = nothing_logs (owner_seen c.args.owner.now) (g.M.Machine.acts c.args.machine.now) c.args.service.now c.requires (is_empty_list c.records.result.now c.args.service.now.records c.is_empty.result c.records.ensures c.is_empty.ensures c.if-is_empty.true)

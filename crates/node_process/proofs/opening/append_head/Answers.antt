use Rattle.std.proofs.Common.{is_ok}
use Rattle.node_process.specs.Safe.{owner_seen}
use Rattle.node_process.proofs.Moments.{trims_runs, head_runs, not_empty}
use Rattle.node_process.proofs.opening.append_head.Goals as goal

pub returns-then-is_empty-clause-each : goal.returns-then-is_empty-clause-each
returns-then-is_empty-clause-each g c = trims_runs (owner_seen c.args.owner.now) (g.M.Machine.acts c.args.machine.now) c.args.whole c.args.service.now c.requires

pub returns-clause-each : goal.returns-clause-each
returns-clause-each g c = rw (c.append.ensures, c.records-2.ensures) (head_runs (owner_seen c.args.owner.now) (g.M.Machine.acts c.args.machine.now) c.args.whole c.args.service.now (is_ok c.append.result) c.requires (not_empty c.records.result.now c.args.service.now.records c.is_empty.result c.records.ensures c.is_empty.ensures c.if-is_empty.false))

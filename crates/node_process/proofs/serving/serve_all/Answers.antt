use Rattle.std.proofs.Common.{inl}
use Rattle.node_process.specs.Safe.{owner_seen}
use Rattle.node_process.proofs.Turning.{leaves_unopened}
use Rattle.node_process.proofs.serving.serve_all.Goals as goal

pub returns-in_err-opened-clause-each : goal.returns-in_err-opened-clause-each
returns-in_err-opened-clause-each g c = inl c.in_err-opened.ensures.unopened

pub returns-in_err-opened-clause-memory : goal.returns-in_err-opened-clause-memory
returns-in_err-opened-clause-memory g c =
    leaves_unopened (owner_seen c.args.owner.now) (g.M.Machine.acts c.open.new.machine) c.args.memory.now c.from_residual-in_err-opened.result c.from_residual-in_err-opened.ensures.0 c.in_err-opened.ensures.unopened c.requires.empty

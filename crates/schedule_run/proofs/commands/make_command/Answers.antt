use Rattle.std.proofs.lemmas.Result.{on_ok_weaker}
use Rattle.node_logged.specs.LedgerSeen.{tills_seen}
use Rattle.schedule_run.proofs.Turns.{call_told}
use Rattle.schedule_run.proofs.commands.make_command.Goals as goal

pub returns-in-Tick : goal.returns-in-Tick
returns-in-Tick g c =
    rw c.in-Tick.is (on_ok_weaker c.put_outcome.result (call_told c.args.told.now.items c.put_outcome.new.out.items (tills_seen c.args.tills.now) c.tick.result) c.put_outcome.ensures)

pub returns-in-Plan : goal.returns-in-Plan
returns-in-Plan g c =
    rw c.in-Plan.is (on_ok_weaker c.put_outcome-in-Plan.result (call_told c.args.told.now.items c.put_outcome-in-Plan.new.out.items (tills_seen c.args.tills.now) c.change_plan.result) c.put_outcome-in-Plan.ensures)

pub returns-in-Restart : goal.returns-in-Restart
returns-in-Restart g c =
    rw c.in-Restart.is (on_ok_weaker c.put_outcome-in-Restart.result (call_told c.args.told.now.items c.put_outcome-in-Restart.new.out.items (tills_seen c.args.tills.now) c.restart.result) c.put_outcome-in-Restart.ensures)

pub returns-in-Await : goal.returns-in-Await
returns-in-Await g c = rw c.in-Await.is c.await_answer.ensures

use Rattle.std.proofs.lemmas.Result.{on_ok_weaker}
use Rattle.node_logged.specs.TillSeen.{till_seen}
use Rattle.schedule_run.proofs.Looks.{none_told}
use Rattle.schedule_run.proofs.commands.await_at.Goals as goal

pub returns-in-NotThisTill : goal.returns-in-NotThisTill
returns-in-NotThisTill g c =
    let tells = rw c.in-NotThisTill.is at c.in_ok-answer.ensures in
    on_ok_weaker c.put_refused.result
    (none_told c.args.pharmacy c.args.number c.args.told.now.items c.put_refused.new.out.items (till_seen c.args.till.now) (till_seen c.wait_for.new.till) tells)
    c.put_refused.ensures

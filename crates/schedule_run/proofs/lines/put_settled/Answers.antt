use Rattle.std.proofs.lemmas.Result.{on_ok_weaker}
use Rattle.claim_profile.specs.Ruling.{answer_of}
use Rattle.schedule_run.proofs.Words.{on_ok_both, unread_lines}
use Rattle.schedule_run.proofs.lines.put_settled.Goals as goal

pub returns-in-Err : goal.returns-in-Err
returns-in-Err c =
    on_ok_weaker c.put_unread.result (unread_lines c.args.pharmacy c.args.number c.args.out.now.items c.put_unread.new.out.items c.in-Err.fault (answer_of c.args.answer.now) c.in-Err.ensures.fault)
    (on_ok_both _ _ c.put_unread.result c.put_unread.ensures.line c.put_unread.ensures.known)

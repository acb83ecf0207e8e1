use Rattle.std.proofs.Common.{get_or}
use Rattle.std.proofs.lemmas.Option.{slice_get-get_or}
use Rattle.std.proofs.lemmas.Result.{on_ok_weaker}
use Rattle.schedule_run.proofs.Tills.{await_refused, till_told}
use Rattle.schedule_run.proofs.commands.await_answer.Goals as goal

pub returns-in-Some : goal.returns-in-Some
returns-in-Some g c =
    let tills = c.args.tills.now in
    let old = get_or tills c.in-Some.place c.index-tills-place.result in
    let at = slice_get-get_or tills c.in-Some.place c.index-tills-place.result c.in-Some.ensures.within in
    on_ok_weaker c.await_at.result
    (λ told. till_told c.args.pharmacy c.args.number c.args.told.now.items c.await_at.new.told.items tills c.in-Some.place old c.await_at.new.till told.0 at c.in-Some.ensures.of told.1 told.2)
    c.await_at.ensures

pub returns-in-None : goal.returns-in-None
returns-in-None g c =
    on_ok_weaker c.put_outcome.result (await_refused c.args.pharmacy c.args.number c.args.told.now.items c.put_outcome.new.out.items c.args.tills.now) c.put_outcome.ensures

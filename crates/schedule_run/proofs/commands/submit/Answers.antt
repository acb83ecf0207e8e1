use Rattle.std.proofs.Common.{get_or}
use Rattle.std.proofs.lemmas.Option.{slice_get-get_or}
use Rattle.std.proofs.lemmas.Result.{on_ok_weaker}
use Rattle.schedule_run.proofs.Tills.{submission_refused, submission_told}
use Rattle.schedule_run.proofs.commands.submit.Goals as goal

pub returns-in-Some : goal.returns-in-Some
returns-in-Some g c =
    let tills = c.args.tills.now in
    let old = get_or tills c.in-Some.place c.index-tills-place.result in
    on_ok_weaker c.put_submitted.result
    (submission_told c.args.pharmacy c.args.request.now c.args.told.now.items c.put_submitted.new.out.items tills c.in-Some.place old c.submit.new.till c.submit.result
    (slice_get-get_or tills c.in-Some.place c.index-tills-place.result c.in-Some.ensures.within) c.in-Some.ensures.of c.submit.ensures.receipt c.submit.ensures.same)
    c.put_submitted.ensures

pub returns-in-None : goal.returns-in-None
returns-in-None g c =
    on_ok_weaker c.put_outcome.result (submission_refused c.args.pharmacy c.args.request.now c.args.told.now.items c.put_outcome.new.out.items c.args.tills.now) c.put_outcome.ensures

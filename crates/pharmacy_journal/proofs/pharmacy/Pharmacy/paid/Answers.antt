use Rattle.std.proofs.Common.{◌≡◌, List, map, ap, ◌∙◌}
use Rattle.std.proofs.lemmas.Result.{IfOk-weaker}
use Rattle.claim_model.specs.Journal.{Journal, JournalAtRest, Kept, stopped}
use Rattle.pharmacy_journal.specs.Entries.{kept_of}
use Rattle.pharmacy_journal.specs.Counting.{outcomes, counted_in}
use Rattle.pharmacy_journal.proofs.StopStart.{stopped-seen}
use Rattle.pharmacy_journal.proofs.Payable.{counted_is}
use Rattle.pharmacy_journal.proofs.pharmacy.Pharmacy.paid.Goals as goal

pub returns : goal.returns
returns c = λ routes.
    let p = c.self.inside in
    let entries : map kept_of c.as_slice.result.now ≡ (stopped c.args.self.now).entries =
    ap (map kept_of) c.as_slice.ensures.value ∙ ap (λ (j : JournalAtRest). j.entries) (stopped-seen p.number p.settings p.rule p.timetable p.slots.items) ∙ ap (λ (j : Journal). (stopped j).entries) c.self.view_is in
    IfOk-weaker c.paid_in.result _ _ (λ paid e. e ∙ ap (λ (ks : List Kept). counted_in (outcomes ks)) entries ∙ counted_is routes (stopped c.args.self.now)) c.paid_in.ensures

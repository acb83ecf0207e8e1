use Rattle.std.proofs.Common.{◌≡◌, List, map, ap, ◌∙◌}
use Rattle.std.proofs.lemmas.Result.{IfOk-weaker}
use Rattle.claim_model.specs.Journal.{Journal, JournalAtRest, Kept, stopped}
use Rattle.pharmacy_journal.specs.Entries.{kept_of}
use Rattle.pharmacy_journal.specs.Listing.{listed, listed_from}
use Rattle.pharmacy_journal.proofs.StopStart.{stopped-seen}
use Rattle.pharmacy_journal.proofs.pharmacy.Pharmacy.list.Goals as goal

pub returns : goal.returns
unfolding listed
returns c =
    let p = c.self.inside in
    let entries : map kept_of c.as_slice.result.now ≡ (stopped c.args.self.now).entries =
    ap (map kept_of) c.as_slice.ensures.value ∙ ap (λ (j : JournalAtRest). j.entries) (stopped-seen p.number p.settings p.rule p.timetable p.slots.items) ∙ ap (λ (j : Journal). (stopped j).entries) c.self.view_is in
    IfOk-weaker c.list_of.result _ _ (λ views e. e ∙ ap (λ (ks : List Kept). listed_from 1 ks) entries) c.list_of.ensures

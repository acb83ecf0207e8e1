use Rattle.std.proofs.Common.{◌≡◌, List, map, None, Some, ap, subst, ◌∙◌}
use Rattle.std.specs.Prelude.{MatchOption}
use Rattle.std.specs.Option.{option_copied}
use Rattle.claim_model.specs.Numbered.{numbered}
use Rattle.claim_model.specs.Journal.{Journal, JournalAtRest, Kept, stopped}
use Rattle.pharmacy_journal.specs.Entries.{kept_of}
use Rattle.pharmacy_journal.proofs.StopStart.{stopped-seen}
use Rattle.pharmacy_journal.proofs.pharmacy.Pharmacy.entry.Goals as goal

pub returns : goal.returns
returns c =
    let p = c.self.inside in
    let entries : map kept_of c.as_slice.result.now ≡ (stopped c.args.self.now).entries =
    ap (map kept_of) c.as_slice.ensures.value ∙ ap (λ (j : JournalAtRest). j.entries) (stopped-seen p.number p.settings p.rule p.timetable p.slots.items) ∙ ap (λ (j : Journal). (stopped j).entries) c.self.view_is in
    subst (λ (ks : List Kept). MatchOption c.entry_at.result (numbered ks c.args.number ≡ None) (λ e. numbered ks c.args.number ≡ Some (record { request = e.request.now; answer = option_copied e.answer }))) entries c.entry_at.ensures

use Rattle.std.proofs.Common.{◌≡◌, List, map, ap, ◌∙◌}
use Rattle.std.specs.Prelude.{option_and_then}
use Rattle.claim_model.specs.Numbered.{numbered}
use Rattle.claim_model.specs.Journal.{Journal, JournalAtRest, Kept, stopped}
use Rattle.pharmacy_journal.specs.Entries.{kept_of}
use Rattle.pharmacy_journal.proofs.StopStart.{stopped-seen}
use Rattle.pharmacy_journal.proofs.pharmacy.Pharmacy.held.Goals as goal

pub returns : goal.returns
returns c =
    let p = c.self.inside in
    let entries : map kept_of c.as_slice.result.now ≡ (stopped c.args.self.now).entries =
    ap (map kept_of) c.as_slice.ensures.value ∙ ap (λ (j : JournalAtRest). j.entries) (stopped-seen p.number p.settings p.rule p.timetable p.slots.items) ∙ ap (λ (j : Journal). (stopped j).entries) c.self.view_is in
    c.held_at.ensures ∙ ap (λ (ks : List Kept). option_and_then (λ (k : Kept). k.answer) (numbered ks c.args.number)) entries

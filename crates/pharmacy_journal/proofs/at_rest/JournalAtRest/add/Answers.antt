use Rattle.std.proofs.Common.{◌≡◌, List, Some, ◌++◌, ◌∷◌, [], length, map, sym, ap, ◌∙◌}
use Rattle.std.proofs.lemmas.List.{length-map, map-append}
use Rattle.std.proofs.lemmas.Result.{err_from_is_err_and}
use Rattle.claim_model.specs.Journal.{JournalAtRest, Kept}
use Rattle.pharmacy_journal.specs.Entries.{kept_of}
use Rattle.pharmacy_journal.proofs.StopStart.{IsAtRest-push, added-row, added-none, row_room}
use Rattle.pharmacy_journal.proofs.at_rest.JournalAtRest.add.Goals as goal

pub returns-in_err-admit_row-clause-fault : goal.returns-in_err-admit_row-clause-fault
returns-in_err-admit_row-clause-fault c =
    let p = err_from_is_err_and c.from_residual.result c.from_residual.ensures.1 in
    rw (p.1, p.2) (λ other. added-none c.args.self.now c.args.request.now _ (c.in_err-admit_row.ensures.fault other))

pub invariant_of-self-2 : goal.invariant_of-self-2
invariant_of-self-2 c =
    let j = c.self.inside in
    let room = row_room c.args.self.now c.args.request.now _ c.in_ok-admit_row.ensures.ok in
    let same : length c.args.self.now.entries ≡ length j.slots.items = ap (λ (r : JournalAtRest). length r.entries) (sym c.self.view_is) ∙ length-map j.slots.items kept_of in
    let entry = rw (← c.self.view_is, length-map j.slots.items kept_of) at c.in_ok-slot.ensures.entry in
    let below = rw (← c.self.view_is, length-map j.slots.items kept_of) at room in
    IsAtRest-push j.number j.settings j.rule j.slots.items c.push.new.self.items c.in_ok-slot.slot c.self.invariant c.in_ok-push.ensures.items entry below

pub returns-clause-ok : goal.returns-clause-ok
returns-clause-ok c =
    let j = c.self.inside in
    added-row c.args.self.now c.args.request.now _ c.in_ok-admit_row.ensures.ok
    ∙ ap (λ (r : JournalAtRest). let x : JournalAtRest = record { number = r.number; settings = r.settings; rule = r.rule; entries = r.entries ++ record { request = c.args.request.now; answer = Rattle.std.specs.Option.option_copied c.args.answer } ∷ [] } in Some x) (sym c.self.view_is)
    ∙ ap (λ (k : Kept). let x : JournalAtRest = record { number = j.number; settings = j.settings; rule = j.rule; entries = map kept_of j.slots.items ++ k ∷ [] } in Some x) (sym c.in_ok-slot.ensures.kept)
    ∙ ap (λ (ks : List Kept). let x : JournalAtRest = record { number = j.number; settings = j.settings; rule = j.rule; entries = ks } in Some x) (sym (map-append kept_of j.slots.items (c.in_ok-slot.slot ∷ [])) ∙ ap (map kept_of) (sym c.in_ok-push.ensures.items))

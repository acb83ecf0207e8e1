use Rattle.std.proofs.Common.{◌<◌, length, Some, map, ap, ◌∙◌, arith, refl}
use Rattle.std.proofs.lemmas.Option.{slice_get_read, slice_get-map}
use Rattle.claim_model.specs.Journal.{Kept}
use Rattle.pharmacy_journal.specs.Entries.{kept_of}
use Rattle.pharmacy_journal.proofs.Hearings.{number_of}
use Rattle.pharmacy_journal.proofs.kept.entry_at.Goals as goal

pub returns : goal.returns
returns c =
    let place = c.in_ok-place.ensures in
    let within : c.in_ok-place.place < length c.args.slots.now = omega (arith, place.0.0, place.0.1, place.1) in
    let slot = slice_get_read c.args.slots.now _ c.in_ok-place.place c.index-slots-place.result refl within c.index-slots-place.is in
    number_of (map kept_of c.args.slots.now) c.args.number c.in_ok-place.place place.0.0 place.1
    ∙ slice_get-map kept_of c.args.slots.now c.in_ok-place.place
    ∙ ap (Rattle.std.specs.Option.option_map kept_of) slot
    ∙ ap (λ (k : Kept). Some k) c.kept.ensures

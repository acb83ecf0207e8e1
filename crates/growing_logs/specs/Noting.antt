-- Deeds as they are noted: a kind, whether it was done, a place, and bytes; and the name at a place.
use Rattle.std.specs.Prelude.{ℕ, zero, suc, Bool, ◌==◌, List, [], map, slice_index, slice_get}
use Rattle.std.specs.Borrow.{Bor}
use Rattle.std.specs.Option.{option_map_or}
use Rattle.call_notes.specs.Notes.{Note}
use Rattle.replaced_files.specs.Deeds.{Deed, Failed, Taken, Copied, Exchanged, SyncedNames}

abbrev pub deed_of_kind : ℕ → Bool → ℕ → List ℕ → Deed
deed_of_kind zero done place bytes = Failed place
deed_of_kind (suc zero) done place bytes = Taken place done
deed_of_kind (suc (suc zero)) done place bytes = Copied place bytes done
deed_of_kind (suc (suc (suc zero))) done place bytes = Exchanged place done
deed_of_kind (suc (suc (suc (suc kind)))) done place bytes = SyncedNames place done

-- the deed that a note says
abbrev pub deed_of : Note → Deed
deed_of note = deed_of_kind (slice_index note.0 0) (slice_index note.0 1 == 1) (slice_index note.0 2) note.1

abbrev pub deeds_of : List Note → List Deed
deeds_of notes = map deed_of notes

-- what was read, as it is noted
abbrev pub found_in : List Note → List (List ℕ)
found_in notes = map (λ (note : Note). note.1) notes

-- the name at a place, or none
abbrev pub name_in : List (Bor (List ℕ)) → ℕ → List ℕ
name_in names place = option_map_or (λ (name : Bor (List ℕ)). name.now) (slice_get names place) []

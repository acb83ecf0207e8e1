-- Deeds as they are noted: a kind, whether it was done, a number, and bytes.
use Rattle.std.specs.Prelude.{ℕ, zero, suc, Bool, ◌==◌, List, map, slice_index}
use Rattle.call_notes.specs.Notes.{Note}
use Rattle.log_folder.specs.Deeds.{Deed, Failed, Marked, Opened, Locked, Named, Found, MadeNext, KeptEnd, Cut, Append, Sync, Linked, SyncNames, Exchanged}

abbrev pub deed_of_kind : ℕ → Bool → ℕ → List ℕ → Deed
deed_of_kind zero done number bytes = Failed
deed_of_kind (suc zero) done number bytes = Marked done
deed_of_kind (suc (suc zero)) done number bytes = Opened done
deed_of_kind (suc (suc (suc zero))) done number bytes = Locked done
deed_of_kind (suc (suc (suc (suc zero)))) done number bytes = Named done
deed_of_kind (suc (suc (suc (suc (suc zero))))) done number bytes = Found bytes
deed_of_kind (suc (suc (suc (suc (suc (suc zero)))))) done number bytes = MadeNext bytes done
deed_of_kind (suc (suc (suc (suc (suc (suc (suc zero))))))) done number bytes = KeptEnd number done
deed_of_kind (suc (suc (suc (suc (suc (suc (suc (suc zero)))))))) done number bytes = Cut number done
deed_of_kind (suc (suc (suc (suc (suc (suc (suc (suc (suc zero))))))))) done number bytes = Append bytes done
deed_of_kind (suc (suc (suc (suc (suc (suc (suc (suc (suc (suc zero)))))))))) done number bytes = Sync done
deed_of_kind (suc (suc (suc (suc (suc (suc (suc (suc (suc (suc (suc zero))))))))))) done number bytes = Linked number done
deed_of_kind (suc (suc (suc (suc (suc (suc (suc (suc (suc (suc (suc (suc zero)))))))))))) done number bytes = SyncNames done
deed_of_kind (suc (suc (suc (suc (suc (suc (suc (suc (suc (suc (suc (suc (suc kind))))))))))))) done number bytes = Exchanged done

-- the deed that a note says
abbrev pub deed_of : Note → Deed
deed_of note = deed_of_kind (slice_index note.0 0) (slice_index note.0 1 == 1) (slice_index note.0 2) note.1

abbrev pub deeds_of : List Note → List Deed
deeds_of notes = map deed_of notes

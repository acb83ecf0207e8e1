-- Acts as they are noted: a kind, whether it was done, a number, and bytes.
use Rattle.std.specs.Prelude.{ℕ, zero, suc, cond, ◌==◌, List, map, slice_index}
use Rattle.call_notes.specs.Notes.{Note}
use Rattle.node_process.specs.Acts.{Act, Found, Unread, Cut, Append, Sync, Say, Hear, Unheard}

abbrev pub act_of_kind : ℕ → List ℕ → List ℕ → Act
act_of_kind zero numbers bytes = cond (slice_index numbers 1 == 1) (Found bytes) Unread
act_of_kind (suc zero) numbers bytes = Cut (slice_index numbers 2) (slice_index numbers 1 == 1)
act_of_kind (suc (suc zero)) numbers bytes = Append bytes (slice_index numbers 1 == 1)
act_of_kind (suc (suc (suc zero))) numbers bytes = Sync (slice_index numbers 1 == 1)
act_of_kind (suc (suc (suc (suc zero)))) numbers bytes = Say bytes (slice_index numbers 1 == 1)
act_of_kind (suc (suc (suc (suc (suc kind))))) numbers bytes = cond (slice_index numbers 1 == 1) (Hear bytes) Unheard

-- the act that a note says
abbrev pub act_of : Note → Act
act_of note = act_of_kind (slice_index note.0 0) note.0 note.1

abbrev pub acts_of : List Note → List Act
acts_of notes = map act_of notes

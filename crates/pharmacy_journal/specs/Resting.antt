-- Journals at rest, made record by record.
use Rattle.std.specs.Prelude.{◌≡◌, ◌≢◌, ℕ, ◌-◌, Bool, true, ◌&&◌, nat_le, nat_lt, List, [], ◌∷◌, ◌++◌, length, map, Option, Some, None, Result, IfErr, if◌then◌else◌}
use Rattle.claim_model.specs.Journal.{PharmacySettings, opening_rule, JournalAtRest, Kept}
use Rattle.envelope.specs.Envelope.{longest_payload}
use Rattle.pharmacy_journal.specs.Retry.{Rule, phases_of}
use Rattle.pharmacy_journal.specs.Reading.{is_own_request, settles_with}
use Rattle.pharmacy_journal.specs.Timetable.{Rounds}
use Rattle.pharmacy_journal.specs.declared.fault.RowFault.{RowFault}
use Rattle.pharmacy_journal.specs.declared.fault.RowFault.TheVariants.{OutOfMemory}
use Rattle.pharmacy_journal.specs.declared.slot.Slot.{Slot}
use Rattle.pharmacy_journal.specs.declared.slot.Slot.TheVariants.{Waiting, Settled}

-- an answer that a kept entry may have: at most 32,768 bytes, and one that settles the request
abbrev pub is_kept_answer : List ℕ → Option (List ℕ) → Bool
is_kept_answer request None = true
is_kept_answer request (Some answer) = settles_with request answer && nat_le (length answer) longest_payload

-- there is room, the request is readable and the pharmacy's own, and the answer can stand beside it
abbrev pub is_row : JournalAtRest → List ℕ → Option (List ℕ) → Bool
is_row j request answer = nat_lt (length j.entries) j.settings.cap && (is_own_request j.settings request && is_kept_answer request answer)

-- the journal with one more entry, at the next number; none where it cannot stand there
unfoldable pub added : JournalAtRest → List ℕ → Option (List ℕ) → Option JournalAtRest
added j request answer =
    if is_row j request answer
    then Some (record { number = j.number; settings = j.settings; rule = j.rule; entries = j.entries ++ record { request = request; answer = answer } ∷ [] })
    else None

-- a journal without entries, as settings open it
abbrev pub empty_journal : ℕ → PharmacySettings → JournalAtRest
empty_journal number settings = record { number = number; settings = settings; rule = opening_rule settings; entries = [] }

-- the journal without its entries
abbrev pub without_entries : JournalAtRest → JournalAtRest
without_entries j = record { number = j.number; settings = j.settings; rule = j.rule; entries = [] }

-- the journal with all these entries more, in order
abbrev pub added_all : Option JournalAtRest → List Kept → Option JournalAtRest
added_all None entries = None
added_all (Some j) [] = Some j
added_all (Some j) (k ∷ entries) = added_all (added j k.request k.answer) entries

-- the journal is what adding its entries one by one makes
abbrev pub IsMadeByAdding : JournalAtRest → Type 0
IsMadeByAdding j = added_all (Some (without_entries j)) j.entries ≡ Some j

-- nothing is refused but where this is so, or for want of memory
abbrev pub RefusesWhere : {A : Type 0} → Type 0 → Result A RowFault → Type 0
RefusesWhere P result = IfErr result (λ e. e ≢ OutOfMemory → P)

-- the phase with which an entry starts: one round of waiting before the circle's beginning
abbrev pub restarted_phase : Rule → Slot → Option ℕ
restarted_phase r (Waiting t) = Some (phases_of r - r.again)
restarted_phase r (Settled t) = None

-- the phases of entries that start, and of one more
abbrev pub restarted_rounds : Rule → List Slot → Rounds
restarted_rounds r slots = record { rule = r; phases = map (restarted_phase r) slots }

abbrev pub with_restarted : Rounds → Slot → Rounds
with_restarted t slot = record t { phases = t.phases ++ restarted_phase t.rule slot ∷ [] }

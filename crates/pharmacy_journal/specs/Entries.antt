-- The entries of a journal: as the code keeps them, and as the model sees them.
use Rattle.std.specs.Prelude.{◌≡◌, ℕ, ◌+◌, ◌<◌, ◌≤◌, Bool, true, false, List, [], ◌∷◌, length, map, Option, Some, None, is_some, MatchOption}
use Rattle.std.specs.Option.{option_copied}
use Rattle.claim_model.specs.Words.{TxnId}
use Rattle.claim_model.specs.Numbered.{numbered}
use Rattle.claim_model.specs.Journal.{PharmacySettings, RetryRule, Waits, Has, Entry, Kept}
use Rattle.envelope.specs.Envelope.{longest_payload}
use Rattle.pharmacy_journal.specs.Reading.{is_own_request, settles_with}
use Rattle.pharmacy_journal.specs.Settings.{AreSettings, IsGoing, rule_of}
use Rattle.pharmacy_journal.specs.Timetable.{Rounds}
use Rattle.pharmacy_journal.specs.declared.kept.KeptEntry.{KeptEntry}
use Rattle.pharmacy_journal.specs.declared.slot.Slot.{Slot}
use Rattle.pharmacy_journal.specs.declared.slot.Slot.TheVariants.{Waiting, Settled}

-- the id of the next entry
abbrev pub next_id : {A : Type 0} → ℕ → List A → TxnId
next_id pharmacy entries = record { pharmacy = pharmacy; number = length entries + 1 }

-- the phase of an open entry
abbrev pub phase_or_start : Option ℕ → ℕ
phase_or_start None = 0
phase_or_start (Some phase) = phase

-- an entry and its phase
abbrev pub entry_of : Slot → Option ℕ → Entry
entry_of (Waiting t) phase = record { request = t.request; state = Waits (phase_or_start phase) }
entry_of (Settled t) phase = record { request = t.request; state = Has t.answer }

abbrev pub entries_of : List Slot → List (Option ℕ) → List Entry
entries_of [] phases = []
entries_of (slot ∷ slots) [] = entry_of slot None ∷ entries_of slots []
entries_of (slot ∷ slots) (phase ∷ phases) = entry_of slot phase ∷ entries_of slots phases

-- an entry at rest
abbrev pub kept_of : Slot → Kept
kept_of (Waiting t) = record { request = t.request; answer = None }
kept_of (Settled t) = record { request = t.request; answer = Some t.answer }

-- an entry as it is lent
abbrev pub kept_seen : KeptEntry → Kept
kept_seen e = record { request = e.request.now; answer = option_copied e.answer }

-- the entry of a number, or that there is none
abbrev pub IsEntryOf : List Kept → ℕ → Option KeptEntry → Type 0
IsEntryOf entries number found = MatchOption found (numbered entries number ≡ None) (λ e. numbered entries number ≡ Some (kept_seen e))

abbrev pub is_waiting : Slot → Bool
is_waiting (Waiting t) = true
is_waiting (Settled t) = false

-- an entry of this pharmacy and number: its request is readable and the pharmacy's own, and an answer fits it and has at most 32,768 bytes
abbrev pub IsEntry : PharmacySettings → TxnId → Slot → Type 0
IsEntry s id (Waiting t) = (t.id ≡ id) × (is_own_request s t.request ≡ true)
IsEntry s id (Settled t) = (t.id ≡ id) × (is_own_request s t.request ≡ true) × (settles_with t.request t.answer ≡ true) × (length t.answer ≤ longest_payload)

-- entries numbered from n on
abbrev pub AreEntries : PharmacySettings → ℕ → ℕ → List Slot → Type 0
AreEntries s pharmacy n [] = Unit {0}
AreEntries s pharmacy n (slot ∷ slots) = IsEntry s (record { pharmacy = pharmacy; number = n }) slot × AreEntries s pharmacy (n + 1) slots

-- a journal at rest
pub record IsAtRest (number : ℕ) (s : PharmacySettings) (rule : RetryRule) (slots : List Slot) : Type 0 where
  pub some_number : 0 < number
  pub some_node : 0 < length s.nodes
  pub settings : AreSettings s
  pub some_switch : 0 < length rule.nodes
  pub going : IsGoing rule
  pub entries : AreEntries s number 1 slots
  pub in_limit : length slots ≤ s.cap

-- a journal that is up: exactly the open entries have a phase
pub record IsUp (number : ℕ) (s : PharmacySettings) (rule : RetryRule) (rounds : Rounds) (slots : List Slot) : Type 0 where
  pub kept : IsAtRest number s rule slots
  pub by_rule : rounds.rule ≡ rule_of rule
  pub phases : map is_waiting slots ≡ map is_some rounds.phases

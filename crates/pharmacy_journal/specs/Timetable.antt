-- The phases of a journal's entries, and which entries a tick sends.
use Rattle.std.specs.Prelude.{◌≡◌, ℕ, ◌%◌, ◌<◌, Bool, false, ◌==◌, List, [], ◌∷◌, ◌++◌, map, length, Option, Some, None, is_some, is_none, option_map, slice_index_or, slice_set}
use Rattle.std.specs.List.{AllByRecursion, filter, list_all, list_any}
use Rattle.pharmacy_journal.specs.Retry.{Rule, Dial, phases_of, next_phase, node_of, phase_at, is_due}
use Rattle.pharmacy_journal.specs.Places.{places_from}

-- a rule, and the phase of each entry; a settled one has none
pub record Rounds : Type 0 where
  pub rule : Rule
  pub phases : List (Option ℕ)

-- the phases after a tick
abbrev pub ticked_phases : Rounds → List (Option ℕ)
ticked_phases t = map (option_map (next_phase t.rule)) t.phases

abbrev pub ticked_rounds : Rounds → Rounds
ticked_rounds t = record { rule = t.rule; phases = ticked_phases t }

-- the places, from 0, of the entries that the next tick sends
abbrev pub due_next : Rounds → List ℕ
due_next t = places_from (is_due t.rule) 0 (ticked_phases t)

-- the switch, by its place in the list, at which the entry of a place is after a tick
abbrev pub next_node : Rounds → ℕ → Option ℕ
next_node t place = option_map (node_of t.rule) (slice_index_or (ticked_phases t) place None)

-- no entry has a phase
abbrev pub is_quiet : Rounds → Bool
is_quiet t = list_all is_none t.phases

-- how a timetable keeps it: each open entry is ahead of one clock by so much, and stands in the bucket of that lead's remainder
abbrev pub in_bucket : Rule → ℕ → Option ℕ → Bool
in_bucket r bucket None = false
in_bucket r bucket (Some lead) = (lead % r.again) == bucket

abbrev pub IsLead : Rule → Option ℕ → Type 0
IsLead r None = Unit {0}
IsLead r (Some lead) = lead < phases_of r

-- the entry of a place is open: it has a phase, or a lead
abbrev pub is_open : List (Option ℕ) → ℕ → Bool
is_open phases place = is_some (slice_index_or phases place None)

-- one of these places is open, and one of these buckets has such a place
abbrev pub has_open : List (Option ℕ) → List ℕ → Bool
has_open phases places = list_any (is_open phases) places

abbrev pub have_open : List (Option ℕ) → List (List ℕ) → Bool
have_open phases buckets = list_any (has_open phases) buckets

-- the places in a bucket, and those of them that are open
abbrev pub bucket_at : List (List ℕ) → ℕ → List ℕ
bucket_at buckets b = slice_index_or buckets b []

abbrev pub open_at : List (Option ℕ) → List (List ℕ) → ℕ → List ℕ
open_at leads buckets b = filter (is_open leads) (bucket_at buckets b)

-- the buckets, with a place after those of one bucket
abbrev pub with_place : List (List ℕ) → ℕ → ℕ → List (List ℕ)
with_place buckets b place = slice_set buckets b (bucket_at buckets b ++ place ∷ [])

-- each of the places is below this many
abbrev pub AreBelow : ℕ → List ℕ → Type 0
AreBelow n places = AllByRecursion (λ k. k < n) places

-- a bucket has places of settled entries too: its open ones are those of its remainder, in order
pub record IsKept (r : Rule) (leads : List (Option ℕ)) (buckets : List (List ℕ)) : Type 0 where
  pub on_circle : AllByRecursion (IsLead r) leads
  pub as_many : length buckets ≡ r.again
  pub in_range : (b : ℕ) → b < r.again → AreBelow (length leads) (bucket_at buckets b)
  pub by_lead : (b : ℕ) → b < r.again → open_at leads buckets b ≡ places_from (in_bucket r b) 0 leads

abbrev pub seen_phases : Dial → List (Option ℕ) → List (Option ℕ)
seen_phases d leads = map (option_map (phase_at d)) leads

-- The text from which a book's answer carries at places that repeat places of answers that it gave before.
use Rattle.std.specs.Prelude.{ℕ, zero, suc, Bool, false, List, [], ◌∷◌, Option, Some, None, is_some, slice_get, bytes_eq, if◌then◌else◌}
use Rattle.std.specs.List.{list_any, list_all}
use Rattle.d0_header.specs.Response.{Response}
use Rattle.d0_segments.specs.Parts.{SegmentParts, TransmissionParts}
use Rattle.d0_segments.specs.Framing.{response_kind, transmission_text, transmission_of}
use Rattle.carried_fields.specs.declared.repeating.Repeated.{Repeated as Told}

-- a place of an answer, from 1
pub record Repeated : Type 0 where
  pub answer : List ℕ
  pub place : ℕ

-- a place of the code, without where its bytes lie in memory
abbrev pub repeated_seen : Told → Repeated
repeated_seen r = record { answer = r.answer.now; place = r.place }

-- the group at a place, from 1
abbrev pub group_at_place : List (List SegmentParts) → (place : ℕ) → Option (List SegmentParts)
group_at_place groups zero = None
group_at_place groups (suc before) = slice_get groups before

-- the same of bytes that are framed; none of others
abbrev pub group_of_answer : Option (TransmissionParts Response) → (place : ℕ) → Option (List SegmentParts)
group_of_answer None place = None
group_of_answer (Some t) place = group_at_place t.groups place

-- the group at that place of that answer, where it is framed as a response and has such a place
abbrev pub group_of_repeated : Repeated → Option (List SegmentParts)
group_of_repeated r = group_of_answer (transmission_of response_kind r.answer) r.place

-- a group where there is one, else the own one
abbrev pub or_own : (own : List SegmentParts) → Option (List SegmentParts) → List SegmentParts
or_own own None = own
or_own own (Some group) = group

-- the group that a place repeats, else its own
abbrev pub repeated_group : (own : List SegmentParts) → Option Repeated → List SegmentParts
repeated_group own None = own
repeated_group own (Some r) = or_own own (group_of_repeated r)

-- the same place by place; where one list is shorter, the own groups stay as they are
abbrev pub repeating_groups : (own : List (List SegmentParts)) → List (Option Repeated) → List (List SegmentParts)
repeating_groups [] sources = []
repeating_groups (g ∷ own) [] = g ∷ own
repeating_groups (g ∷ own) (source ∷ sources) = repeated_group g source ∷ repeating_groups own sources

-- whether a place repeats one of this answer
abbrev pub repeats_answer : (answer : List ℕ) → Option Repeated → Bool
repeats_answer answer None = false
repeats_answer answer (Some r) = bytes_eq r.answer answer

-- the answer of which every place repeats one, where there is a place
abbrev pub repeated_answer : List (Option Repeated) → Option (List ℕ)
repeated_answer [] = None
repeated_answer (None ∷ sources) = None
repeated_answer (Some r ∷ sources) = if list_all (repeats_answer r.answer) sources then Some r.answer else None

-- the segments in front of all groups
abbrev pub shared_or_none : Option (TransmissionParts Response) → List SegmentParts
shared_or_none None = []
shared_or_none (Some t) = t.shared

-- the same of the bytes of an answer, where there is one and it is framed as a response
abbrev pub shared_of_answer : Option (List ℕ) → List SegmentParts
shared_of_answer None = []
shared_of_answer (Some answer) = shared_or_none (transmission_of response_kind answer)

-- the segments in front of all groups, where every place repeats one of one answer
abbrev pub repeating_shared : List (Option Repeated) → List SegmentParts
repeating_shared sources = shared_of_answer (repeated_answer sources)

-- an answer with the groups that its places repeat, and what stands in front of them
abbrev pub repeating_parts : (own : TransmissionParts Response) → List (Option Repeated) → TransmissionParts Response
repeating_parts own sources = record {
  header = own.header;
  shared = repeating_shared sources;
  groups = repeating_groups own.groups sources;
}

-- its text, where the answer is framed
abbrev pub repeating_answer : (own : Option (TransmissionParts Response)) → List (Option Repeated) → List ℕ
repeating_answer None sources = []
repeating_answer (Some own) sources = transmission_text response_kind (repeating_parts own sources)

-- the text with what the places of a plain answer repeat; nothing where none repeats anything
unfoldable pub repeating_text : (plain : List ℕ) → List (Option Repeated) → List ℕ
repeating_text plain sources = if list_any is_some sources then repeating_answer (transmission_of response_kind plain) sources else []

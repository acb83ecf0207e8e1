-- Places that repeat: what stands for bytes that are not framed, and one group after the other.
use Rattle.std.proofs.Common.{◌≡◌, ℕ, zero, suc, ◌+◌, ◌<◌, Bool, true, false, cond, List, [], ◌∷◌, ◌++◌, length, drop, get_or, Option, Some, None, is_some, refl, sym, ap, ◌∙◌, append_assoc, add-one, arith}
use Rattle.std.proofs.Math.Seq.{drop-nil}
use Rattle.std.specs.List.{list_any}
use Rattle.d0_header.specs.Response.{Response}
use Rattle.d0_segments.specs.declared.fault.FramingFault.{FramingFault}
use Rattle.d0_segments.specs.Parts.{SegmentParts, TransmissionParts}
use Rattle.d0_segments.specs.Texts.{group_text, groups_text}
use Rattle.d0_segments.specs.Framing.{response_kind, framing_fault, transmission_of}
use Rattle.carried_fields.specs.Repeating.{Repeated, group_of_answer, group_of_repeated, or_own, repeated_group, repeating_groups, shared_or_none, shared_of_answer, repeating_answer, repeating_text}
use Rattle.carried_fields.proofs.Counted.{no_parts}

-- ---- bytes that are not framed

pub own_group : (r : Repeated) (own : List SegmentParts) (fault : FramingFault) → Some fault ≡ framing_fault response_kind r.answer → or_own own (group_of_repeated r) ≡ own
own_group r own fault e = ap (λ (t : Option (TransmissionParts Response)). or_own own (group_of_answer t r.place)) (no_parts r.answer fault e)

pub nothing_shared : (answer : List ℕ) (fault : FramingFault) → Some fault ≡ framing_fault response_kind answer → shared_of_answer (Some answer) ≡ []
nothing_shared answer fault e = ap shared_or_none (no_parts answer fault e)

no_answer : (some : Bool) (own : Option (TransmissionParts Response)) (sources : List (Option Repeated)) → own ≡ None → cond some (repeating_answer own sources) [] ≡ []
no_answer true own sources none = ap (λ (t : Option (TransmissionParts Response)). repeating_answer t sources) none
no_answer false own sources none = refl

pub no_text : (plain : List ℕ) (sources : List (Option Repeated)) (fault : FramingFault) → Some fault ≡ framing_fault response_kind plain → repeating_text plain sources ≡ []
unfolding repeating_text
no_text plain sources fault e = no_answer (list_any is_some sources) (transmission_of response_kind plain) sources (no_parts plain fault e)

-- ---- groups

without_sources : (own : List (List SegmentParts)) → repeating_groups own [] ≡ own
without_sources [] = refl
without_sources (g ∷ own) = refl

-- the group at a place, and those after it
next_groups : (n : ℕ) (own : List (List SegmentParts)) (sources : List (Option Repeated)) → n < length own
    → repeating_groups (drop n own) (drop n sources) ≡ repeated_group (get_or own n []) (get_or sources n None) ∷ repeating_groups (drop (suc n) own) (drop (suc n) sources)
next_groups n [] sources lt = absurd (omega arith)
next_groups zero (g ∷ own) [] lt = ap (λ (gs : List (List SegmentParts)). g ∷ gs) (sym (without_sources own))
next_groups zero (g ∷ own) (source ∷ sources) lt = refl
next_groups (suc n) (g ∷ own) [] lt = rw (drop-nil n) at (next_groups n own [] (omega arith))
next_groups (suc n) (g ∷ own) (source ∷ sources) lt = next_groups n own sources (omega arith)

-- what is written, and then what is left, is all
pub next_repeated : (n : ℕ) (before new : List ℕ) (own : List (List SegmentParts)) (sources : List (Option Repeated)) (group : List SegmentParts) (source : Option Repeated) (whole : List ℕ)
    → n < length own → group ≡ get_or own n [] → source ≡ get_or sources n None → new ≡ before ++ group_text (repeated_group group source)
    → before ++ groups_text (repeating_groups (drop n own) (drop n sources)) ≡ whole
    → new ++ groups_text (repeating_groups (drop (n + 1) own) (drop (n + 1) sources)) ≡ whole
next_repeated n before new own sources group source whole lt is_group is_source written so_far =
    let here = group_text (repeated_group (get_or own n []) (get_or sources n None)) in
    let later = groups_text (repeating_groups (drop (suc n) own) (drop (suc n) sources)) in
    let left : groups_text (repeating_groups (drop n own) (drop n sources)) ≡ here ++ later = ap groups_text (next_groups n own sources lt) in
    let put : new ≡ before ++ here = cc in
    rw add-one (ap (λ (t : List ℕ). t ++ later) put ∙ append_assoc before here later ∙ ap (λ (t : List ℕ). before ++ t) (sym left) ∙ so_far)

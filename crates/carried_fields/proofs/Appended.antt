-- Texts that grow by one field, segment or group at a time.
use Rattle.std.proofs.Common.{◌≡◌, ℕ, ◌+◌, true, cond, not, List, [], ◌∷◌, ◌++◌, drop, refl, sym, ap, ◌∙◌, append_assoc}
use Rattle.std.proofs.lemmas.List.{append-nil, drop-drop}
use Rattle.std.proofs.lemmas.List.Elements.{filter-append}
use Rattle.d0_segments.specs.Parts.{FieldParts, SegmentParts}
use Rattle.d0_segments.specs.Texts.{field_text, fields_text, segment_text, segments_text}
use Rattle.claim_profile.specs.Fields.{fields_of}
use Rattle.claim_profile.proofs.Counting.{fields_of-none, fields_of-append}
use Rattle.claim_profile.proofs.AnswerTexts.{fields_text-append}
use Rattle.carried_fields.specs.Occurrences.{is_code, behind_codes_in, first_occurrence, beside}
use Rattle.carried_fields.specs.Merging.{is_own, further_fields, merged_segment, merged_segments, further_segments, merged}

segments_text-append : (ss us : List SegmentParts) → segments_text (ss ++ us) ≡ segments_text ss ++ segments_text us
segments_text-append [] us = refl
segments_text-append (s ∷ ss) us = ap (λ (t : List ℕ). segment_text s ++ t) (segments_text-append ss us) ∙ sym (append_assoc (segment_text s) (segments_text ss) (segments_text us))

-- what is written, and then what is left, is all
next : (before here later rest whole : List ℕ) → rest ≡ here ++ later → before ++ rest ≡ whole → (before ++ here) ++ later ≡ whole
next before here later rest whole is so_far = append_assoc before here later ∙ ap (λ (t : List ℕ). before ++ t) (sym is) ∙ so_far

done : (before rest whole : List ℕ) → rest ≡ [] → before ++ rest ≡ whole → before ≡ whole
done before rest whole none so_far = sym (append-nil before) ∙ ap (λ (t : List ℕ). before ++ t) (sym none) ∙ so_far

-- ---- fields

-- one further field more
pub next_further : (id before : List ℕ) (fs later : List FieldParts) (f : FieldParts) (whole : List ℕ) → fs ≡ f ∷ later → before ++ fields_text (further_fields id fs) ≡ whole
    → (before ++ fields_text (further_fields id (f ∷ []))) ++ fields_text (further_fields id later) ≡ whole
next_further id before fs later f whole is so_far =
    next before (fields_text (further_fields id (f ∷ []))) (fields_text (further_fields id later)) (fields_text (further_fields id fs)) whole
    (ap (λ xs. fields_text (further_fields id xs)) is ∙ ap fields_text (filter-append (λ g. not (is_own id g.id)) (f ∷ []) later) ∙ fields_text-append (further_fields id (f ∷ [])) (further_fields id later))
    so_far

-- the further fields of the segments of one identification
abbrev pub further_in : List ℕ → List SegmentParts → List ℕ
further_in id ss = fields_text (further_fields id (fields_of id ss))

pub next_segment_further : (id before : List ℕ) (ss later : List SegmentParts) (s : SegmentParts) (whole : List ℕ) → ss ≡ s ∷ later → before ++ further_in id ss ≡ whole
    → (before ++ further_in id (s ∷ [])) ++ further_in id later ≡ whole
next_segment_further id before ss later s whole is so_far =
    next before (further_in id (s ∷ [])) (further_in id later) (further_in id ss) whole
    (ap (further_in id) is ∙ ap (λ fs. fields_text (further_fields id fs)) (fields_of-append id (s ∷ []) later)
    ∙ ap fields_text (filter-append (λ g. not (is_own id g.id)) (fields_of id (s ∷ [])) (fields_of id later))
    ∙ fields_text-append (further_fields id (fields_of id (s ∷ []))) (further_fields id (fields_of id later)))
    so_far

pub no_segment_further : (id before : List ℕ) (ss : List SegmentParts) (whole : List ℕ) → ss ≡ [] → before ++ further_in id ss ≡ whole → before ≡ whole
no_segment_further id before ss whole none so_far =
    done before (further_in id ss) whole (ap (further_in id) none ∙ ap (λ fs. fields_text (further_fields id fs)) (fields_of-none id)) so_far

-- ---- segments

-- a group in two parts
pub merged_written : (before : List ℕ) (own said : List SegmentParts)
    → (before ++ segments_text (merged_segments said own)) ++ segments_text (further_segments own said) ≡ before ++ segments_text (merged own said)
merged_written before own said =
    append_assoc before (segments_text (merged_segments said own)) (segments_text (further_segments own said))
    ∙ ap (λ (t : List ℕ). before ++ t) (sym (segments_text-append (merged_segments said own) (further_segments own said)))

-- a segment in three parts
pub segment_written : (before : List ℕ) (s : SegmentParts) (said : List SegmentParts)
    → ((before ++ (30 ∷ 28 ∷ 65 ∷ 77 ∷ s.id)) ++ fields_text (beside (behind_codes_in s.id said) s.fields)) ++ fields_text (further_fields s.id (fields_of s.id said)) ≡ before ++ segment_text (merged_segment said s)
segment_written before s said =
    let head = 30 ∷ 28 ∷ 65 ∷ 77 ∷ s.id in
    let own = beside (behind_codes_in s.id said) s.fields in
    let further = further_fields s.id (fields_of s.id said) in
    append_assoc (before ++ head) (fields_text own) (fields_text further)
    ∙ append_assoc before head (fields_text own ++ fields_text further)
    ∙ ap (λ (t : List ℕ). before ++ (head ++ t)) (sym (fields_text-append own further))

-- ---- a book's fields, and where its codes occur

-- one code more, behind this many others
pub next_code : (before : List ℕ) (told : List (List FieldParts)) (others : ℕ) (fs later : List FieldParts) (f : FieldParts) (whole : List ℕ) → fs ≡ f ∷ later → is_code f ≡ true
    → before ++ fields_text (beside (drop others told) fs) ≡ whole
    → ((before ++ field_text f) ++ fields_text (first_occurrence (drop others told))) ++ fields_text (beside (drop (others + 1) told) later) ≡ whole
next_code before told others fs later f whole is code so_far =
    let told_here = drop others told in
    let first = first_occurrence told_here in
    append_assoc (before ++ field_text f) (fields_text first) (fields_text (beside (drop (others + 1) told) later))
    ∙ append_assoc before (field_text f) (fields_text first ++ fields_text (beside (drop (others + 1) told) later))
    ∙ ap (λ (ts : List (List FieldParts)). before ++ (field_text f ++ (fields_text first ++ fields_text (beside ts later)))) (sym (drop-drop 1 others told))
    ∙ ap (λ (t : List ℕ). before ++ (field_text f ++ t)) (sym (fields_text-append first (beside (drop 1 told_here) later)))
    ∙ ap (λ b. before ++ (field_text f ++ fields_text (cond b (first ++ beside (drop 1 told_here) later) (beside told_here later)))) (sym code)
    ∙ ap (λ xs. before ++ fields_text (beside told_here xs)) (sym is)
    ∙ so_far

-- Counting the values of a field goes on where it stopped.
use Rattle.std.proofs.Common.{◌≡◌, ℕ, true, false, List, [], ◌∷◌, ap, sym, ◌∙◌}
use Rattle.std.specs.Str.{bytes_eq}
use Rattle.d0_segments.specs.Parts.{FieldParts, SegmentParts}
use Rattle.claim_profile.specs.Fields.{values, fields_of}
use Rattle.claim_profile.specs.Tally.{Tally, tallied}
use Rattle.claim_profile.proofs.Counting.{fields_of-none, fields_of-append, fields_of-here, fields_of-elsewhere, counted_further, counted_nothing}

-- the next field counted, and then those after it
pub field_next : (r : List ℕ → List ℕ) (name : List ℕ) (t u : Tally) (f : FieldParts) (fs : List FieldParts)
    → u ≡ tallied t (values r name (f ∷ [])) → tallied u (values r name fs) ≡ tallied t (values r name (f ∷ fs))
field_next r name t u f fs e = ap (λ v. tallied v (values r name fs)) e ∙ sym (counted_further t r name (f ∷ []) fs)

-- the next segment counted, and then those after it
pub segment_next : (r : List ℕ → List ℕ) (name id : List ℕ) (t u : Tally) (s : SegmentParts) (ss : List SegmentParts)
    → u ≡ tallied t (values r name (fields_of id (s ∷ []))) → tallied u (values r name (fields_of id ss)) ≡ tallied t (values r name (fields_of id (s ∷ ss)))
segment_next r name id t u s ss e =
    ap (λ v. tallied v (values r name (fields_of id ss))) e
    ∙ sym (counted_further t r name (fields_of id (s ∷ [])) (fields_of id ss))
    ∙ ap (λ (fs : List FieldParts). tallied t (values r name fs)) (sym (fields_of-append id (s ∷ []) ss))

-- no segment is left
pub no_segment : (r : List ℕ → List ℕ) (name id : List ℕ) (t : Tally) → tallied t (values r name (fields_of id [])) ≡ t
no_segment r name id t = ap (λ (fs : List FieldParts). tallied t (values r name fs)) (fields_of-none id) ∙ counted_nothing t r name

-- a segment that is sought, and one that is not
pub segment_here : (r : List ℕ → List ℕ) (name id : List ℕ) (t : Tally) (s : SegmentParts) → bytes_eq s.id id ≡ true → tallied t (values r name (fields_of id (s ∷ []))) ≡ tallied t (values r name s.fields)
segment_here r name id t s e = ap (λ (fs : List FieldParts). tallied t (values r name fs)) (fields_of-here id s e)

pub segment_elsewhere : (r : List ℕ → List ℕ) (name id : List ℕ) (t : Tally) (s : SegmentParts) → bytes_eq s.id id ≡ false → tallied t (values r name (fields_of id (s ∷ []))) ≡ t
segment_elsewhere r name id t s e = ap (λ (fs : List FieldParts). tallied t (values r name fs)) (fields_of-elsewhere id s e) ∙ counted_nothing t r name

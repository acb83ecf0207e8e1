-- Counting goes on where it stopped.
use Rattle.std.proofs.Common.{◌≡◌, ℕ, ◌+◌, ◌<◌, true, false, cond, List, [], ◌∷◌, ◌++◌, length, take, get_or, map, filter, refl, ap, sym, ◌∙◌}
use Rattle.std.specs.List.{flat_map}
use Rattle.std.specs.Str.{bytes_eq}
use Rattle.std.proofs.lemmas.List.{map-append, map_push, take_more, append-nil}
use Rattle.std.proofs.lemmas.List.Elements.{filter-append}
use Rattle.std.proofs.lemmas.List.Concat.{flat_map-append}
use Rattle.d0_segments.specs.Parts.{FieldParts, SegmentParts}
use Rattle.claim_profile.specs.Fields.{is_filled, values, fields_of}
use Rattle.claim_profile.specs.Tally.{Tally, one_more, tallied}

pub tallied-none : (t : Tally) → tallied t [] ≡ t
unfolding tallied
tallied-none t = refl

pub tallied-append : (t : Tally) (vs ws : List (List ℕ)) → tallied t (vs ++ ws) ≡ tallied (tallied t vs) ws
unfolding tallied
tallied-append t [] ws = refl
tallied-append t (v ∷ vs) ws = tallied-append (one_more t v) vs ws

pub values-none : (reading : List ℕ → List ℕ) (name : List ℕ) → values reading name [] ≡ []
unfolding values
values-none reading name = refl

pub values-append : (reading : List ℕ → List ℕ) (name : List ℕ) (fs gs : List FieldParts) → values reading name (fs ++ gs) ≡ values reading name fs ++ values reading name gs
unfolding values
values-append reading name fs gs =
    ap (λ (xs : List FieldParts). filter is_filled (map (λ f. reading f.value) xs)) (filter-append (λ f. bytes_eq f.id name) fs gs)
    ∙ ap (filter is_filled) (map-append (λ (f : FieldParts). reading f.value) (filter (λ f. bytes_eq f.id name) fs) (filter (λ f. bytes_eq f.id name) gs))
    ∙ filter-append is_filled (map (λ f. reading f.value) (filter (λ f. bytes_eq f.id name) fs)) (map (λ f. reading f.value) (filter (λ f. bytes_eq f.id name) gs))

pub fields_of-none : (id : List ℕ) → fields_of id [] ≡ []
unfolding fields_of
fields_of-none id = refl

pub fields_of-append : (id : List ℕ) (ss us : List SegmentParts) → fields_of id (ss ++ us) ≡ fields_of id ss ++ fields_of id us
unfolding fields_of
fields_of-append id ss us =
    ap (flat_map (λ s. s.fields)) (filter-append (λ s. bytes_eq s.id id) ss us)
    ∙ flat_map-append (λ s. s.fields) (filter (λ s. bytes_eq s.id id) ss) (filter (λ s. bytes_eq s.id id) us)

-- counting the values of fields that come after others
pub counted_further : (t : Tally) (reading : List ℕ → List ℕ) (name : List ℕ) (fs gs : List FieldParts)
    → tallied t (values reading name (fs ++ gs)) ≡ tallied (tallied t (values reading name fs)) (values reading name gs)
counted_further t reading name fs gs = ap (tallied t) (values-append reading name fs gs) ∙ tallied-append t (values reading name fs) (values reading name gs)

-- counting no fields
pub counted_nothing : (t : Tally) (reading : List ℕ → List ℕ) (name : List ℕ) → tallied t (values reading name []) ≡ t
counted_nothing t reading name = ap (tallied t) (values-none reading name) ∙ tallied-none t

-- the elements up to a place and the one there, each seen in a way
pub map-take_more : {A B : Type 0} (view : A → B) (xs : List A) (i : ℕ) (x : A) → i < length xs → x ≡ get_or xs i x → map view (take (i + 1) xs) ≡ map view (take i xs) ++ view x ∷ []
map-take_more view xs i x lt e =
    ap (map view) (take_more xs i x lt) ∙ map_push view (take i xs) (get_or xs i x) ∙ ap (λ y. map view (take i xs) ++ view y ∷ []) (sym e)

-- a segment that has this identification, and one that does not
pub fields_of-here : (id : List ℕ) (s : SegmentParts) → bytes_eq s.id id ≡ true → fields_of id (s ∷ []) ≡ s.fields
unfolding fields_of
fields_of-here id s e = ap (λ b. flat_map (λ (x : SegmentParts). x.fields) (cond b (s ∷ []) [])) e ∙ append-nil s.fields

pub fields_of-elsewhere : (id : List ℕ) (s : SegmentParts) → bytes_eq s.id id ≡ false → fields_of id (s ∷ []) ≡ []
unfolding fields_of
fields_of-elsewhere id s e = ap (λ b. flat_map (λ (x : SegmentParts). x.fields) (cond b (s ∷ []) [])) e

-- the same for elements that a default stands in for
pub map-take_at : {A B : Type 0} (view : A → B) (xs : List A) (i : ℕ) (d : A) → i < length xs → map view (take (i + 1) xs) ≡ map view (take i xs) ++ view (get_or xs i d) ∷ []
map-take_at view xs i d lt = ap (map view) (take_more xs i d lt) ∙ map_push view (take i xs) (get_or xs i d)

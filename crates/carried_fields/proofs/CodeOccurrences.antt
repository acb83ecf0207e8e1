-- A book's fields with where its codes occur: what such fields are, and that they are told again as they are.
use Rattle.std.proofs.Common.{◌≡◌, Bool, true, false, cond, not, ◌&&◌, List, [], ◌∷◌, ◌++◌, drop, filter, codes, refl, sym, ap, ◌∙◌, append_assoc}
use Rattle.std.specs.Str.{bytes_eq}
use Rattle.std.proofs.lemmas.List.Elements.{filter-append}
use Rattle.std.proofs.lemmas.Slice.Eq.{bytes_eq-Decides}
use Rattle.d0_segments.specs.Parts.{FieldParts}
use Rattle.claim_profile.specs.Fields.{is_filled}
use Rattle.carried_fields.specs.Occurrences.{is_code, is_occurrence, leading, behind_codes, first_occurrence, beside}
use Rattle.carried_fields.specs.Merging.{is_own, further_fields}

pub occurrence_name : (f : FieldParts) → is_occurrence f ≡ true → f.id ≡ codes "4F"
occurrence_name f is = (bytes_eq-Decides f.id (codes "4F")).0 is

-- ---- a test that no 546-4F passes does not see where codes occur

leading_unseen : (test : FieldParts → Bool) → ((f : FieldParts) → is_occurrence f ≡ true → test f ≡ false) → (fs : List FieldParts) → filter test (leading fs) ≡ []
leading_unseen test unseen [] = refl
leading_unseen test unseen (f ∷ fs) = by_name (is_occurrence f) refl
  where
    by_name : (b : Bool) → is_occurrence f ≡ b → filter test (cond b (f ∷ []) []) ≡ []
    by_name true is = ap (λ t. cond t (f ∷ []) []) (unseen f is)
    by_name false is = refl

first_unseen : (test : FieldParts → Bool) → ((f : FieldParts) → is_occurrence f ≡ true → test f ≡ false) → (told : List (List FieldParts)) → filter test (first_occurrence told) ≡ []
first_unseen test unseen [] = refl
first_unseen test unseen (fields ∷ told) = leading_unseen test unseen fields

pub beside_unseen : (test : FieldParts → Bool) → ((f : FieldParts) → is_occurrence f ≡ true → test f ≡ false) → (told : List (List FieldParts)) (own : List FieldParts) → filter test (beside told own) ≡ filter test own
beside_unseen test unseen told [] = refl
beside_unseen test unseen told (f ∷ own) =
    ap (λ fs. cond (test f) (f ∷ fs) fs) (by_code (is_code f) (beside_unseen test unseen (drop 1 told) own) (beside_unseen test unseen told own))
  where
    by_code : (b : Bool) → filter test (beside (drop 1 told) own) ≡ filter test own → filter test (beside told own) ≡ filter test own
        → filter test (cond b (first_occurrence told ++ beside (drop 1 told) own) (beside told own)) ≡ filter test own
    by_code true behind same =
        filter-append test (first_occurrence told) (beside (drop 1 told) own)
        ∙ ap (λ fs. fs ++ filter test (beside (drop 1 told) own)) (first_unseen test unseen told)
        ∙ behind
    by_code false behind same = same

-- ---- nothing told

pub beside_nothing : (own : List FieldParts) → beside [] own ≡ own
beside_nothing [] = refl
beside_nothing (f ∷ own) = ap (λ fs. f ∷ fs) (by_code (is_code f) (beside_nothing own))
  where
    by_code : (b : Bool) → beside [] own ≡ own → cond b (first_occurrence [] ++ beside (drop 1 []) own) (beside [] own) ≡ own
    by_code true same = same
    by_code false same = same

-- ---- what is told of such fields

no_code : (f : FieldParts) → is_occurrence f ≡ true → is_code f ≡ false
no_code f is = ap (λ id. bytes_eq id (codes "FB") && is_filled f.value) (occurrence_name f is)

leading_again : (fs later : List FieldParts) → leading later ≡ [] → leading (leading fs ++ later) ≡ leading fs
leading_again [] later none = none
leading_again (f ∷ fs) later none = by_name (is_occurrence f) refl
  where
    by_name : (b : Bool) → is_occurrence f ≡ b → leading (cond b (f ∷ []) [] ++ later) ≡ cond b (f ∷ []) []
    by_name true is = ap (λ t. cond t (f ∷ []) []) is
    by_name false is = none

first_again : (told : List (List FieldParts)) (later : List FieldParts) → leading later ≡ [] → leading (first_occurrence told ++ later) ≡ first_occurrence told
first_again [] later none = none
first_again (fields ∷ told) later none = leading_again fields later none

leading_passed : (fs later : List FieldParts) → behind_codes (leading fs ++ later) ≡ behind_codes later
leading_passed [] later = refl
leading_passed (f ∷ fs) later = by_name (is_occurrence f) refl
  where
    by_name : (b : Bool) → is_occurrence f ≡ b → behind_codes (cond b (f ∷ []) [] ++ later) ≡ behind_codes later
    by_name true is = ap (λ t. cond t (later ∷ behind_codes later) (behind_codes later)) (no_code f is)
    by_name false is = refl

first_passed : (told : List (List FieldParts)) (later : List FieldParts) → behind_codes (first_occurrence told ++ later) ≡ behind_codes later
first_passed [] later = refl
first_passed (fields ∷ told) later = leading_passed fields later

-- a list of which a test lets nothing pass
none_pass : (f : FieldParts) (fs : List FieldParts) (b : Bool) → cond b (f ∷ fs) fs ≡ [] → (b ≡ false) × (fs ≡ [])
none_pass f fs true e = absurd cc
none_pass f fs false e = (refl, e)

beside_begins : (told : List (List FieldParts)) (own later : List FieldParts) → filter is_occurrence own ≡ [] → leading later ≡ [] → leading (beside told own ++ later) ≡ []
beside_begins told [] later own_none none = none
beside_begins told (f ∷ own) later own_none none = ap (λ t. cond t (f ∷ []) []) (none_pass f (filter is_occurrence own) (is_occurrence f) own_none).0

-- own fields, in which no code says where it occurs
pub beside_again : (told : List (List FieldParts)) (own later : List FieldParts) → filter is_occurrence own ≡ [] → leading later ≡ [] → beside (behind_codes (beside told own ++ later)) own ≡ beside told own
beside_again told [] later own_none none = refl
beside_again told (f ∷ own) later own_none none =
    let others = (none_pass f (filter is_occurrence own) (is_occurrence f) own_none).1 in
    ap (λ fs. f ∷ fs) (by_code (is_code f) (beside_begins (drop 1 told) own later others none) (beside_again (drop 1 told) own later others none) (beside_again told own later others none))
  where
    by_code : (b : Bool) → leading (beside (drop 1 told) own ++ later) ≡ [] → beside (behind_codes (beside (drop 1 told) own ++ later)) own ≡ beside (drop 1 told) own
        → beside (behind_codes (beside told own ++ later)) own ≡ beside told own
        → (let here : List FieldParts = cond b (first_occurrence told ++ beside (drop 1 told) own) (beside told own) in
        let again : List (List FieldParts) = cond b ((here ++ later) ∷ behind_codes (here ++ later)) (behind_codes (here ++ later)) in
        cond b (first_occurrence again ++ beside (drop 1 again) own) (beside again own)) ≡ cond b (first_occurrence told ++ beside (drop 1 told) own) (beside told own)
    by_code true begins behind same =
        let first = first_occurrence told in
        let rest = beside (drop 1 told) own in
        let joined = append_assoc first rest later in
        ap (λ fs. leading fs ++ beside (behind_codes fs) own) joined
        ∙ (λ i. first_again told (rest ++ later) begins i ++ beside (first_passed told (rest ++ later) i) own)
        ∙ ap (λ fs. first ++ fs) behind
    by_code false begins behind same = same

-- ---- the further fields of a response status segment do not say where a code occurs

pub further_begin : (fs : List FieldParts) → leading (further_fields (codes "21") fs) ≡ []
further_begin [] = refl
further_begin (f ∷ fs) = by_name (is_own (codes "21") f.id) (is_occurrence f) refl refl (further_begin fs)
  where
    by_name : (o b : Bool) → is_own (codes "21") f.id ≡ o → is_occurrence f ≡ b → leading (further_fields (codes "21") fs) ≡ []
        → leading (cond (not o) (f ∷ further_fields (codes "21") fs) (further_fields (codes "21") fs)) ≡ []
    by_name true b own is later = later
    by_name false true own is later = absurd (let h : false ≡ true = sym own ∙ ap (is_own (codes "21")) (occurrence_name f is) in cc)
    by_name false false own is later = ap (λ t. cond t (f ∷ []) []) is

-- where codes occur is no further field
pub beside_own : (told : List (List FieldParts)) (own : List FieldParts) → further_fields (codes "21") own ≡ [] → further_fields (codes "21") (beside told own) ≡ []
beside_own told own none = beside_unseen (λ f. not (is_own (codes "21") f.id)) (λ f is. ap (λ id. not (is_own (codes "21") id)) (occurrence_name f is)) told own ∙ none

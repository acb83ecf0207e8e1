-- Looking for the code that stands behind so many others.
use Rattle.std.proofs.Common.{◌≡◌, ℕ, zero, suc, ◌-◌, ◌≢◌, true, cond, List, [], ◌∷◌, ◌++◌, drop, filter, refl, sym, ap, ◌∙◌, arith}
use Rattle.std.specs.List.{flat_map}
use Rattle.std.specs.Str.{bytes_eq}
use Rattle.std.proofs.lemmas.List.Concat.{flat_map-append}
use Rattle.std.proofs.lemmas.List.Elements.{filter-append}
use Rattle.d0_segments.specs.Parts.{FieldParts, SegmentParts}
use Rattle.carried_fields.specs.Occurrences.{is_code, behind_codes, behind_codes_in}

-- one code fewer is left
pub code_passed : (n : ℕ) (fs rest : List FieldParts) (f : FieldParts) (later : List (List FieldParts)) → fs ≡ f ∷ rest → is_code f ≡ true → n ≢ 0
    → drop (n - 1) (behind_codes rest ++ later) ≡ drop n (behind_codes fs ++ later)
code_passed zero fs rest f later is code some = absurd (some refl)
code_passed (suc n) fs rest f later is code some =
    let fewer : suc n - 1 ≡ n = omega arith in
    ap (λ (m : ℕ). drop m (behind_codes rest ++ later)) fewer
    ∙ ap (λ b. drop (suc n) (cond b (rest ∷ behind_codes rest) (behind_codes rest) ++ later)) (sym code)
    ∙ ap (λ (gs : List FieldParts). drop (suc n) (behind_codes gs ++ later)) (sym is)

-- one segment more
pub next_segment_codes : (id : List ℕ) (ss later : List SegmentParts) (s : SegmentParts) → ss ≡ s ∷ later → behind_codes_in id ss ≡ behind_codes_in id (s ∷ []) ++ behind_codes_in id later
next_segment_codes id ss later s is =
    ap (behind_codes_in id) is
    ∙ ap (flat_map (λ (x : SegmentParts). behind_codes x.fields)) (filter-append (λ x. bytes_eq x.id id) (s ∷ []) later)
    ∙ flat_map-append (λ (x : SegmentParts). behind_codes x.fields) (filter (λ x. bytes_eq x.id id) (s ∷ [])) (filter (λ x. bytes_eq x.id id) later)

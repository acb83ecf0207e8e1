-- The fields of a record, and lines of records with two fields more, one after another.
use Rattle.std.proofs.Common.{◌≡◌, ◌<◌, ◌≤◌, ℕ, ◌+◌, List, [], ◌∷◌, ◌++◌, length, get_or, map, drop, refl, sym, ap, subst, ◌∙◌, append_assoc, append-nil, arith}
use Rattle.std.specs.Prelude.{Option, zero, suc, Some, None}
use Rattle.std.proofs.lemmas.List.{drop_more, drop-drop, get_or-drop}
use Rattle.std.proofs.Math.ListN.{drop_of_length-le}
use Rattle.csv.specs.Records.{field_at}
use Rattle.claim_reports.specs.Wider.{wider_text}
use Rattle.claim_reports.specs.WhenRuled.{AreTimed, AddsRuled, AddsTimed}

-- the field at a place, which is there or not
pub there : (fields : List (List ℕ)) (i : ℕ) (f : List ℕ) → Some f ≡ field_at fields i → f ≡ get_or fields i []
unfolding field_at
there [] i f e = cc e
there (g ∷ more) zero f e = cc e
there (g ∷ more) (suc i) f e = there more i f e

pub not_there : (fields : List (List ℕ)) (i : ℕ) → field_at fields i ≡ None → [] ≡ get_or fields i []
unfolding field_at
not_there [] i e = refl
not_there (g ∷ more) zero e = cc e
not_there (g ∷ more) (suc i) e = not_there more i e

-- a text that goes on with lines for the rows that are left goes on from an earlier one with lines for all
abbrev pub Continues : List ℕ → List ℕ → List (List (List ℕ)) → List (List (List ℕ)) → List (Option ℕ) → List (Option ℕ) → Type 0
Continues first text rows left times later = (more : List ℕ) → AreTimed left later more → (all : List ℕ) × (text ++ more ≡ first ++ all) × AreTimed rows times all

pub nothing_yet : (text : List ℕ) (rows : List (List (List ℕ))) (times : List (Option ℕ)) → Continues text text rows rows times times
nothing_yet text rows times more are = (more, refl, are)

-- a line more
line_more : (first old new : List ℕ) (rows : List (List (List ℕ))) (row : List (List ℕ)) (left : List (List (List ℕ))) (times later : List (Option ℕ))
    → AddsRuled old new row (get_or later 0 None) → Continues first old rows (row ∷ left) times later → Continues first new rows left times (drop 1 later)
line_more first old new rows row left times later adds before more are =
    let line = wider_text row adds.0 adds.1 in
    let all = before (line ++ more) (adds.0, adds.1, more, adds.2, refl, are) in
    (all.0, ap (λ (t : List ℕ). t ++ more) adds.3 ∙ append_assoc old line more ∙ all.1, all.2)

at_place : (times : List (Option ℕ)) (i : ℕ) → get_or times i None ≡ get_or (drop i times) 0 None
at_place times i = sym (get_or-drop i times 0 None ∙ ap (λ (n : ℕ). get_or times n None) (omega arith))

pub lines_more : {A : Type 0} (fields_of : A → List (List ℕ)) (rows : List A) (times : List (Option ℕ)) (i : ℕ) (d : A) (first old new : List ℕ) → i < length rows
    → AddsRuled old new (fields_of (get_or rows i d)) (get_or times i None)
    → Continues first old (map fields_of rows) (map fields_of (drop i rows)) times (drop i times)
    → Continues first new (map fields_of rows) (map fields_of (drop (i + 1) rows)) times (drop (i + 1) times)
lines_more {A} fields_of rows times i d first old new lt adds before =
    subst (λ (later : List (Option ℕ)). Continues first new (map fields_of rows) (map fields_of (drop (i + 1) rows)) times later) (drop-drop 1 i times)
    (line_more first old new (map fields_of rows) (fields_of (get_or rows i d)) (map fields_of (drop (i + 1) rows)) times (drop i times)
    (subst (λ (time : Option ℕ). AddsRuled old new (fields_of (get_or rows i d)) time) (at_place times i) adds)
    (subst (λ (left : List A). Continues first old (map fields_of rows) (map fields_of left) times (drop i times)) (drop_more rows i d lt) before))

-- at the end there are lines for all
pub lines_end : {A : Type 0} (fields_of : A → List (List ℕ)) (rows : List A) (times : List (Option ℕ)) (i : ℕ) (first text : List ℕ) → length rows ≤ i
    → Continues first text (map fields_of rows) (map fields_of (drop i rows)) times (drop i times) → AddsTimed first text (map fields_of rows) times
lines_end {A} fields_of rows times i first text none so_far =
    let all = so_far [] (subst (λ (left : List A). AreTimed (map fields_of left) (drop i times) []) (sym (drop_of_length-le rows none)) refl) in
    (all.0, sym (append-nil text) ∙ all.1, all.2)

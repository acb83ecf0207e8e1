-- Parts that only one of two descriptions has.
use Rattle.std.proofs.Common.{◌≡◌, ℕ, zero, suc, ◌+◌, ◌<◌, ◌≤◌, Bool, true, false, ◌&&◌, cond, List, [], ◌∷◌, length, drop, codes, Option, Some, None, refl, sym, ap, subst, ◌∙◌, arith}
use Rattle.std.specs.Prelude.{unwrap_or}
use Rattle.std.proofs.lemmas.Bool.{false≢true}
use Rattle.std.proofs.lemmas.Slice.Eq.{bytes_eq-Decides}
use Rattle.std.proofs.lemmas.List.{drop_all, length-drop}
use Rattle.serde_json.specs.Data.{Data, Items, no_items, item}
use Rattle.serde_json.specs.View.{items_view}
use Rattle.serde_json.specs.declared.value.Value.{Value}
use Rattle.message_encoding.specs.Parts.{AreAlike, DifferAt, IsAlike, first_unlike, is_alike, part_bytes, same_text, text_at}

some_left : (place : ℕ) (others : List Value) → 0 < length others → first_unlike place no_items (items_view others) ≡ Some place
some_left place [] more = absurd (omega arith)
some_left place (other ∷ others) more = refl

-- the other one has more parts, which begin after the last of this one
pub more_others : (place : ℕ) (parts others : List Value) (whole : Option ℕ) → length parts ≤ place → place ≤ length parts → length parts < length others
    → first_unlike place (items_view (drop place parts)) (items_view (drop place others)) ≡ whole → Some (length parts) ≡ whole
more_others place parts others whole done within more so_far =
    let here : length parts ≡ place = omega arith in
    let left : 0 < length (drop place others) = rw (length-drop place others) (omega arith) in
    ap (λ (n : ℕ). Some n) here
    ∙ (sym (some_left place (drop place others) left)
    ∙ (ap (λ (ps : List Value). first_unlike place (items_view ps) (items_view (drop place others))) (sym (drop_all place parts done)) ∙ so_far))

-- ---- parts that are alike, as a test and as a fact

text_same : (a b : Option (List ℕ)) → same_text a b ≡ true → a ≡ b
text_same None None e = refl
text_same None (Some y) e = absurd (false≢true e)
text_same (Some x) None e = absurd (false≢true e)
text_same (Some x) (Some y) e = ap (λ (t : List ℕ). Some t) ((bytes_eq-Decides x y).0 e)

itself_same : (a : Option (List ℕ)) → same_text a a ≡ true
itself_same None = refl
itself_same (Some x) = (bytes_eq-Decides x x).1 refl

same_tested : (a b : Option (List ℕ)) → a ≡ b → same_text a b ≡ true
same_tested a b e = subst (λ (c : Option (List ℕ)). same_text a c ≡ true) e (itself_same a)

both_true : (a b : Bool) → (a && b) ≡ true → (a ≡ true) × (b ≡ true)
both_true true true e = (refl, refl)
both_true true false e = absurd (false≢true e)
both_true false b e = absurd (false≢true e)

alike_is : (part other : Data) → is_alike part other ≡ true → IsAlike part other
alike_is part other e =
    let name = same_text (text_at (codes "name") part) (text_at (codes "name") other) in
    let field = same_text (text_at (codes "field") part) (text_at (codes "field") other) in
    let bytes = same_text (part_bytes part) (part_bytes other) in
    let one = both_true name (field && bytes) e in
    let two = both_true field bytes one.1 in
    record {
      name = text_same (text_at (codes "name") part) (text_at (codes "name") other) one.0;
      field = text_same (text_at (codes "field") part) (text_at (codes "field") other) two.0;
      bytes = text_same (part_bytes part) (part_bytes other) two.1;
    }

alike_tested : (part other : Data) → IsAlike part other → is_alike part other ≡ true
alike_tested part other a =
    let name = same_tested (text_at (codes "name") part) (text_at (codes "name") other) a.name in
    let field = same_tested (text_at (codes "field") part) (text_at (codes "field") other) a.field in
    let bytes = same_tested (part_bytes part) (part_bytes other) a.bytes in
    λ i. name i && (field i && bytes i)

-- ---- the first place at which parts differ

abbrev number_in : Option ℕ → ℕ
number_in o = unwrap_or o 0

same_place : (place n : ℕ) → Some place ≡ Some n → place ≡ n
same_place place n e = ap number_in e

told_next : (place n : ℕ) (parts others : Items) (part other : Data) (b : Bool) → is_alike part other ≡ b → cond b (first_unlike (place + 1) parts others) (Some place) ≡ Some n
    → (first_unlike (place + 1) parts others ≡ Some n → (m : ℕ) × (n ≡ place + 1 + m) × DifferAt m parts others)
    → (m : ℕ) × (n ≡ place + m) × DifferAt m (item part parts) (item other others)
told_next place n parts others part other true is e later = let x = later e in (suc x.0, omega (arith, x.1), (alike_is part other is, x.2))
told_next place n parts others part other false is e later = (0, omega (arith, same_place place n e), λ a. false≢true (sym is ∙ alike_tested part other a))

differ_from : (place n : ℕ) (parts others : Items) → first_unlike place parts others ≡ Some n → (m : ℕ) × (n ≡ place + m) × DifferAt m parts others
differ_from place n no_items no_items e = absurd (cc)
differ_from place n no_items (item other others) e = (0, omega (arith, same_place place n e), tt)
differ_from place n (item part parts) no_items e = (0, omega (arith, same_place place n e), tt)
differ_from place n (item part parts) (item other others) e =
    told_next place n parts others part other (is_alike part other) refl e (differ_from (place + 1) n parts others)

pub differ_at : (parts others : Items) (n : ℕ) → first_unlike 0 parts others ≡ Some n → DifferAt n parts others
differ_at parts others n e =
    let x = differ_from 0 n parts others e in
    subst (λ m. DifferAt m parts others) (omega (arith, x.1)) x.2

test_false : (part other : Data) (b : Bool) → is_alike part other ≡ b → (¬ IsAlike part other) → is_alike part other ≡ false
test_false part other true is not = absurd (not (alike_is part other is))
test_false part other false is not = is

told_from : (place m : ℕ) (parts others : Items) → DifferAt m parts others → first_unlike place parts others ≡ Some (place + m)
told_from place m no_items no_items d = absurd d
told_from place zero no_items (item other others) d = ap (λ (n : ℕ). Some n) (omega arith)
told_from place (suc m) no_items (item other others) d = absurd d
told_from place zero (item part parts) no_items d = ap (λ (n : ℕ). Some n) (omega arith)
told_from place (suc m) (item part parts) no_items d = absurd d
told_from place zero (item part parts) (item other others) d = rw (test_false part other (is_alike part other) refl d) (ap (λ (n : ℕ). Some n) (omega arith))
told_from place (suc m) (item part parts) (item other others) d =
    rw (alike_tested part other d.0) (told_from (place + 1) m parts others d.1 ∙ ap (λ (n : ℕ). Some n) (omega arith))

pub told_at : (parts others : Items) (m : ℕ) → DifferAt m parts others → first_unlike 0 parts others ≡ Some m
told_at parts others m d = told_from 0 m parts others d ∙ ap (λ (n : ℕ). Some n) (omega arith)

none_next : (place : ℕ) (parts others : Items) (part other : Data) (b : Bool) → is_alike part other ≡ b → cond b (first_unlike (place + 1) parts others) (Some place) ≡ None
    → (first_unlike (place + 1) parts others ≡ None → AreAlike parts others) → AreAlike (item part parts) (item other others)
none_next place parts others part other true is e later = (alike_is part other is, later e)
none_next place parts others part other false is e later = absurd (cc)

pub none_other : (place : ℕ) (parts others : Items) → first_unlike place parts others ≡ None → AreAlike parts others
none_other place no_items no_items e = tt
none_other place no_items (item other others) e = absurd (cc)
none_other place (item part parts) no_items e = absurd (cc)
none_other place (item part parts) (item other others) e = none_next place parts others part other (is_alike part other) refl e (none_other (place + 1) parts others)

pub all_alike : (place : ℕ) (parts others : Items) → AreAlike parts others → first_unlike place parts others ≡ None
all_alike place no_items no_items a = refl
all_alike place no_items (item other others) a = absurd a
all_alike place (item part parts) no_items a = absurd a
all_alike place (item part parts) (item other others) a = rw (alike_tested part other a.0) (all_alike (place + 1) parts others a.1)

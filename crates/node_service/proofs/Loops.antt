-- A loop that appends what each element of a list gives, as a text: what is there, followed by what is left to come, is the whole.
use Rattle.std.proofs.Common.{◌≡◌, ℕ, ◌+◌, ◌<◌, ◌≤◌, List, [], ◌∷◌, ◌++◌, length, drop, get_or, map, refl, sym, ap, ◌∙◌, append_assoc, append-nil}
use Rattle.std.specs.List.{flat_map}
use Rattle.std.proofs.lemmas.List.{at_drop_more, drop_all}

pub texts_go_on : {A B : Type 0} (text : A → List B) (a b whole : List B) (xs : List A) (i : ℕ) (x : A) → i < length xs → x ≡ get_or xs i x → b ≡ a ++ text x
    → a ++ flat_map text (drop i xs) ≡ whole → b ++ flat_map text (drop (i + 1) xs) ≡ whole
texts_go_on {A} {B} text a b whole xs i x lt is one so_far =
    let left = λ (ys : List A). a ++ flat_map text ys in
    let more = drop (i + 1) xs in
    ap (λ (t : List B). t ++ flat_map text more) one ∙ (append_assoc a (text x) (flat_map text more) ∙ (ap (λ (y : A). left (y ∷ more)) is ∙ (sym (at_drop_more left xs i x lt) ∙ so_far)))

pub texts_are_done : {A B : Type 0} (text : A → List B) (a whole : List B) (xs : List A) (i : ℕ) → length xs ≤ i → a ++ flat_map text (drop i xs) ≡ whole → a ≡ whole
texts_are_done {A} {B} text a whole xs i le so_far =
    sym (append-nil a) ∙ (sym (ap (λ (left : List A). a ++ flat_map text left) (drop_all i xs le)) ∙ so_far)

-- the texts of what is seen of each element
pub flat_map-seen : {A B : Type 0} (text : B → List ℕ) (seen : A → B) (xs : List A) → flat_map text (map seen xs) ≡ flat_map (λ x. text (seen x)) xs
flat_map-seen text seen [] = refl
flat_map-seen text seen (x ∷ xs) = ap (λ (t : List ℕ). text (seen x) ++ t) (flat_map-seen text seen xs)

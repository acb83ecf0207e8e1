-- How lines follow one another, and how loops over lists go on and end.
use Rattle.std.proofs.Common.{◌≡◌, ℕ, ◌+◌, ◌<◌, ◌≤◌, List, [], ◌∷◌, ◌++◌, length, drop, get_or, map, refl, sym, ap, ◌∙◌, append_assoc, append-nil}
use Rattle.std.specs.List.{flat_map}
use Rattle.std.proofs.lemmas.List.{at_drop_more, drop_all}
use Rattle.world_report.specs.Words.{Line, line_text, lines_text}
use Rattle.world_report.specs.Nodes.{lines_from}
use Rattle.world_report.proofs.JoinedWords.{lines_text-append, lines_text-nil, lines_text-one}

-- lines after lines
pub lines_join : (a b c : List ℕ) (xs ys : List Line) → b ≡ a ++ lines_text xs → c ≡ b ++ lines_text ys → c ≡ a ++ lines_text (xs ++ ys)
lines_join a b c xs ys one two =
    two ∙ (ap (λ (t : List ℕ). t ++ lines_text ys) one ∙ (append_assoc a (lines_text xs) (lines_text ys) ∙ ap (λ (t : List ℕ). a ++ t) (sym (lines_text-append xs ys))))

-- a block of lines, and then those of what is left
pub block_goes_on : (a b whole : List ℕ) (block more : List Line) → b ≡ a ++ lines_text block → a ++ lines_text (block ++ more) ≡ whole → b ++ lines_text more ≡ whole
block_goes_on a b whole block more one so_far = lines_join a b (b ++ lines_text more) block more one refl ∙ so_far

pub block_ends : (a whole : List ℕ) → a ++ lines_text [] ≡ whole → a ≡ whole
block_ends a whole so_far = sym (append-nil a) ∙ (ap (λ (t : List ℕ). a ++ t) (sym lines_text-nil) ∙ so_far)

-- loops with several lines for each element
pub blocks_go_on : {A : Type 0} (told : A → List Line) (a b whole : List ℕ) (xs : List A) (i : ℕ) (x : A) → i < length xs → x ≡ get_or xs i x → b ≡ a ++ lines_text (told x)
    → a ++ lines_text (flat_map told (drop i xs)) ≡ whole → b ++ lines_text (flat_map told (drop (i + 1) xs)) ≡ whole
blocks_go_on {A} told a b whole xs i x lt is one so_far =
    let text = λ (left : List A). a ++ lines_text (flat_map told left) in
    let more = drop (i + 1) xs in
    block_goes_on a b whole (told x) (flat_map told more) one (ap (λ (y : A). text (y ∷ more)) is ∙ (sym (at_drop_more text xs i x lt) ∙ so_far))

pub blocks_are_done : {A : Type 0} (told : A → List Line) (a whole : List ℕ) (xs : List A) (i : ℕ) → length xs ≤ i → a ++ lines_text (flat_map told (drop i xs)) ≡ whole → a ≡ whole
blocks_are_done {A} told a whole xs i le so_far =
    block_ends a whole (sym (ap (λ (left : List A). a ++ lines_text (flat_map told left)) (drop_all i xs le)) ∙ so_far)

-- loops with one line for each element
pub lines_go_on : {A : Type 0} (told : A → Line) (a b whole : List ℕ) (xs : List A) (i : ℕ) (x : A) → i < length xs → x ≡ get_or xs i x → b ≡ a ++ line_text (told x)
    → a ++ lines_text (map told (drop i xs)) ≡ whole → b ++ lines_text (map told (drop (i + 1) xs)) ≡ whole
lines_go_on {A} told a b whole xs i x lt is one so_far =
    let text = λ (left : List A). a ++ lines_text (map told left) in
    let more = drop (i + 1) xs in
    block_goes_on a b whole (told x ∷ []) (map told more) (one ∙ ap (λ (t : List ℕ). a ++ t) (sym (lines_text-one (told x))))
    (ap (λ (y : A). text (y ∷ more)) is ∙ (sym (at_drop_more text xs i x lt) ∙ so_far))

pub lines_are_done : {A : Type 0} (told : A → Line) (a whole : List ℕ) (xs : List A) (i : ℕ) → length xs ≤ i → a ++ lines_text (map told (drop i xs)) ≡ whole → a ≡ whole
lines_are_done {A} told a whole xs i le so_far =
    block_ends a whole (sym (ap (λ (left : List A). a ++ lines_text (map told left)) (drop_all i xs le)) ∙ so_far)

-- loops over numbered nodes
pub nodes_go_on : {A : Type 0} (told : ℕ → A → List Line) (a b whole : List ℕ) (xs : List A) (i : ℕ) (x : A) → i < length xs → x ≡ get_or xs i x → b ≡ a ++ lines_text (told (i + 1) x)
    → a ++ lines_text (lines_from told (i + 1) (drop i xs)) ≡ whole → b ++ lines_text (lines_from told ((i + 1) + 1) (drop (i + 1) xs)) ≡ whole
nodes_go_on {A} told a b whole xs i x lt is one so_far =
    let text = λ (left : List A). a ++ lines_text (lines_from told (i + 1) left) in
    let more = drop (i + 1) xs in
    block_goes_on a b whole (told (i + 1) x) (lines_from told ((i + 1) + 1) more) one (ap (λ (y : A). text (y ∷ more)) is ∙ (sym (at_drop_more text xs i x lt) ∙ so_far))

pub nodes_are_done : {A : Type 0} (told : ℕ → A → List Line) (a whole : List ℕ) (xs : List A) (i : ℕ) → length xs ≤ i → a ++ lines_text (lines_from told (i + 1) (drop i xs)) ≡ whole → a ≡ whole
nodes_are_done {A} told a whole xs i le so_far =
    block_ends a whole (sym (ap (λ (left : List A). a ++ lines_text (lines_from told (i + 1) left)) (drop_all i xs le)) ∙ so_far)

-- How loops over numbers and over places go on, and end.
use Rattle.std.proofs.Common.{◌≡◌, ℕ, suc, ◌+◌, ◌-◌, ◌<◌, ◌≤◌, List, [], ◌∷◌, ◌++◌, length, drop, get_or, map, replicate, refl, sym, ap, ◌∙◌, append-nil, arith}
use Rattle.std.specs.Prelude.{codes, decimal}
use Rattle.std.proofs.lemmas.List.{at_drop_more, drop_all}
use Rattle.claim_model.specs.Words.{Ruling}
use Rattle.world_report.specs.Words.{Line, line_text, lines_text, behind_spaces}
use Rattle.world_report.specs.Heads.{numbers_from}
use Rattle.world_report.specs.Places.{place_line, place_lines}
use Rattle.world_report.proofs.JoinedWords.{words_join, lines_join, behind_spaces-nil, lines_text-nil}

-- numbers

pub numbers_go_on : (a b whole : List ℕ) (number past : ℕ) → number < past → b ≡ a ++ behind_spaces (decimal number ∷ [])
    → a ++ behind_spaces (map decimal (numbers_from number (past - number))) ≡ whole → b ++ behind_spaces (map decimal (numbers_from (number + 1) (past - (number + 1)))) ≡ whole
numbers_go_on a b whole number past lt one so_far =
    let left : past - number ≡ suc (past - (number + 1)) = omega arith in
    let others = map decimal (numbers_from (number + 1) (past - (number + 1))) in
    words_join a b (b ++ behind_spaces others) (decimal number ∷ []) others one refl
    ∙ (sym (ap (λ (n : ℕ). a ++ behind_spaces (map decimal (numbers_from number n))) left) ∙ so_far)

pub numbers_are_done : (a whole : List ℕ) (number past : ℕ) → past ≤ number → a ++ behind_spaces (map decimal (numbers_from number (past - number))) ≡ whole → a ≡ whole
numbers_are_done a whole number past le so_far =
    let none : past - number ≡ 0 = omega arith in
    sym (append-nil a) ∙ (ap (λ (t : List ℕ). a ++ t) (sym behind_spaces-nil)
    ∙ (sym (ap (λ (n : ℕ). a ++ behind_spaces (map decimal (numbers_from number n))) none) ∙ so_far))

-- places

-- the line of a place, and those of the places after it
pub place_goes_on : (a b whole name : List ℕ) (count : ℕ) (code : List ℕ) (place : ℕ) (words : Line) (more : List Line) → b ≡ a ++ line_text (place_line name count place code words)
    → a ++ lines_text (place_lines name count code place (words ∷ more)) ≡ whole → b ++ lines_text (place_lines name count code (place + 1) more) ≡ whole
place_goes_on a b whole name count code place words more one so_far =
    let others = place_lines name count code (place + 1) more in
    lines_join a b (b ++ lines_text others) (place_line name count place code words) others one refl ∙ so_far

pub places_are_done : (a whole : List ℕ) (name : List ℕ) (count : ℕ) (code : List ℕ) (place : ℕ) → a ++ lines_text (place_lines name count code place []) ≡ whole → a ≡ whole
places_are_done a whole name count code place so_far = sym (append-nil a) ∙ (ap (λ (t : List ℕ). a ++ t) (sym lines_text-nil) ∙ so_far)

abbrev pub open_words : Line
open_words = codes "open" ∷ []

pub open_goes_on : (a b whole name : List ℕ) (count : ℕ) (code : List ℕ) (i : ℕ) → i < count → b ≡ a ++ line_text (place_line name count (i + 1) code open_words)
    → a ++ lines_text (place_lines name count code (i + 1) (replicate (count - i) open_words)) ≡ whole
    → b ++ lines_text (place_lines name count code ((i + 1) + 1) (replicate (count - (i + 1)) open_words)) ≡ whole
open_goes_on a b whole name count code i lt one so_far =
    let left : count - i ≡ suc (count - (i + 1)) = omega arith in
    place_goes_on a b whole name count code (i + 1) open_words (replicate (count - (i + 1)) open_words) one
    (sym (ap (λ (n : ℕ). a ++ lines_text (place_lines name count code (i + 1) (replicate n open_words))) left) ∙ so_far)

pub open_is_done : (a whole name : List ℕ) (count : ℕ) (code : List ℕ) (i : ℕ) → count ≤ i → a ++ lines_text (place_lines name count code (i + 1) (replicate (count - i) open_words)) ≡ whole → a ≡ whole
open_is_done a whole name count code i le so_far =
    let none : count - i ≡ 0 = omega arith in
    places_are_done a whole name count code (i + 1) (sym (ap (λ (n : ℕ). a ++ lines_text (place_lines name count code (i + 1) (replicate n open_words))) none) ∙ so_far)

-- what is told of each ruling
pub told_goes_on : (told : Ruling → Line) (a b whole name : List ℕ) (count : ℕ) (code : List ℕ) (rulings : List Ruling) (i : ℕ) (ruling : Ruling) → i < length rulings → ruling ≡ get_or rulings i ruling
    → b ≡ a ++ line_text (place_line name count (i + 1) code (told ruling))
    → a ++ lines_text (place_lines name count code (i + 1) (map told (drop i rulings))) ≡ whole
    → b ++ lines_text (place_lines name count code ((i + 1) + 1) (map told (drop (i + 1) rulings))) ≡ whole
told_goes_on told a b whole name count code rulings i ruling lt is one so_far =
    let text = λ (rs : List Ruling). a ++ lines_text (place_lines name count code (i + 1) (map told rs)) in
    let left = drop (i + 1) rulings in
    place_goes_on a b whole name count code (i + 1) (told ruling) (map told left) one
    (ap (λ (r : Ruling). text (r ∷ left)) is ∙ (sym (at_drop_more text rulings i ruling lt) ∙ so_far))

pub told_is_done : (told : Ruling → Line) (a whole name : List ℕ) (count : ℕ) (code : List ℕ) (rulings : List Ruling) (i : ℕ) → length rulings ≤ i
    → a ++ lines_text (place_lines name count code (i + 1) (map told (drop i rulings))) ≡ whole → a ≡ whole
told_is_done told a whole name count code rulings i le so_far =
    places_are_done a whole name count code (i + 1)
    (sym (ap (λ (rs : List Ruling). a ++ lines_text (place_lines name count code (i + 1) (map told rs))) (drop_all i rulings le)) ∙ so_far)

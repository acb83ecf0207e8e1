-- The lines of places, each with its pharmacy before it: how the loops over them go on, and end.
use Rattle.std.proofs.Common.{◌≡◌, ℕ, suc, ◌+◌, ◌-◌, ◌<◌, ◌≤◌, List, [], ◌∷◌, ◌++◌, length, drop, get_or, map, replicate, refl, sym, ap, ◌∙◌, append-nil, arith}
use Rattle.std.proofs.lemmas.List.{at_drop_more, drop_all}
use Rattle.claim_model.specs.Words.{Ruling}
use Rattle.world_report.specs.Words.{Line, line_text, lines_text}
use Rattle.world_report.specs.Rulings.{ruling_words}
use Rattle.world_report.specs.Places.{place_line, place_lines}
use Rattle.world_report.proofs.JoinedWords.{lines_join, lines_text-nil}

-- the lines of the places from one on, each with this word first
abbrev pub headed : List ℕ → List ℕ → ℕ → List ℕ → ℕ → List Line → List Line
headed head name count code place told = map (λ line. head ∷ line) (place_lines name count code place told)

-- the line of a place, and those of the places after it
pub place_goes_on : (a b whole head name : List ℕ) (count : ℕ) (code : List ℕ) (place : ℕ) (words : Line) (more : List Line) → b ≡ a ++ line_text (head ∷ place_line name count place code words)
    → a ++ lines_text (headed head name count code place (words ∷ more)) ≡ whole → b ++ lines_text (headed head name count code (place + 1) more) ≡ whole
place_goes_on a b whole head name count code place words more one so_far =
    let others = headed head name count code (place + 1) more in
    lines_join a b (b ++ lines_text others) (head ∷ place_line name count place code words) others one refl ∙ so_far

pub places_are_done : (a whole head name : List ℕ) (count : ℕ) (code : List ℕ) (place : ℕ) → a ++ lines_text (headed head name count code place []) ≡ whole → a ≡ whole
places_are_done a whole head name count code place so_far = sym (append-nil a) ∙ (ap (λ (t : List ℕ). a ++ t) (sym lines_text-nil) ∙ so_far)

-- the same words for each place
pub same_goes_on : (a b whole head name : List ℕ) (count : ℕ) (code : List ℕ) (words : Line) (i : ℕ) → i < count → b ≡ a ++ line_text (head ∷ place_line name count (i + 1) code words)
    → a ++ lines_text (headed head name count code (i + 1) (replicate (count - i) words)) ≡ whole
    → b ++ lines_text (headed head name count code ((i + 1) + 1) (replicate (count - (i + 1)) words)) ≡ whole
same_goes_on a b whole head name count code words i lt one so_far =
    let left : count - i ≡ suc (count - (i + 1)) = omega arith in
    place_goes_on a b whole head name count code (i + 1) words (replicate (count - (i + 1)) words) one
    (sym (ap (λ (n : ℕ). a ++ lines_text (headed head name count code (i + 1) (replicate n words))) left) ∙ so_far)

pub same_is_done : (a whole head name : List ℕ) (count : ℕ) (code : List ℕ) (words : Line) (i : ℕ) → count ≤ i → a ++ lines_text (headed head name count code (i + 1) (replicate (count - i) words)) ≡ whole → a ≡ whole
same_is_done a whole head name count code words i le so_far =
    let none : count - i ≡ 0 = omega arith in
    places_are_done a whole head name count code (i + 1) (sym (ap (λ (n : ℕ). a ++ lines_text (headed head name count code (i + 1) (replicate n words))) none) ∙ so_far)

-- each place its ruling
pub ruling_goes_on : (a b whole head name : List ℕ) (count : ℕ) (code : List ℕ) (rulings : List Ruling) (i : ℕ) (ruling : Ruling) → i < length rulings → ruling ≡ get_or rulings i ruling
    → b ≡ a ++ line_text (head ∷ place_line name count (i + 1) code (ruling_words ruling))
    → a ++ lines_text (headed head name count code (i + 1) (map ruling_words (drop i rulings))) ≡ whole
    → b ++ lines_text (headed head name count code ((i + 1) + 1) (map ruling_words (drop (i + 1) rulings))) ≡ whole
ruling_goes_on a b whole head name count code rulings i ruling lt is one so_far =
    let text = λ (rs : List Ruling). a ++ lines_text (headed head name count code (i + 1) (map ruling_words rs)) in
    let left = drop (i + 1) rulings in
    place_goes_on a b whole head name count code (i + 1) (ruling_words ruling) (map ruling_words left) one
    (ap (λ (r : Ruling). text (r ∷ left)) is ∙ (sym (at_drop_more text rulings i ruling lt) ∙ so_far))

pub rulings_are_done : (a whole head name : List ℕ) (count : ℕ) (code : List ℕ) (rulings : List Ruling) (i : ℕ) → length rulings ≤ i
    → a ++ lines_text (headed head name count code (i + 1) (map ruling_words (drop i rulings))) ≡ whole → a ≡ whole
rulings_are_done a whole head name count code rulings i le so_far =
    places_are_done a whole head name count code (i + 1)
    (sym (ap (λ (rs : List Ruling). a ++ lines_text (headed head name count code (i + 1) (map ruling_words rs))) (drop_all i rulings le)) ∙ so_far)

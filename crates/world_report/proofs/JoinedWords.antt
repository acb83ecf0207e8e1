-- How words and lines follow one another.
use Rattle.std.proofs.Common.{◌≡◌, ℕ, List, [], ◌∷◌, ◌++◌, refl, sym, ap, ◌∙◌, append_assoc, append-nil}
use Rattle.std.specs.Prelude.{codes}
use Rattle.std.specs.List.{flat_map, join_with_byte}
use Rattle.std.proofs.lemmas.Grind.{flat_map-append}
use Rattle.input_text.proofs.Joining.{lists_join}
use Rattle.world_report.specs.Words.{Line, line_text, lines_text, behind_spaces}

pub behind_spaces-append : (xs ys : Line) → behind_spaces (xs ++ ys) ≡ behind_spaces xs ++ behind_spaces ys
unfolding behind_spaces
behind_spaces-append xs ys = flat_map-append (λ (word : List ℕ). 32 ∷ word) xs ys

pub behind_spaces-nil : behind_spaces [] ≡ []
unfolding behind_spaces
behind_spaces-nil = refl

-- words after words
pub words_join : (a b c : List ℕ) (xs ys : Line) → b ≡ a ++ behind_spaces xs → c ≡ b ++ behind_spaces ys → c ≡ a ++ behind_spaces (xs ++ ys)
words_join a b c xs ys one two =
    lists_join a b c (behind_spaces xs) (behind_spaces ys) one two ∙ ap (λ (t : List ℕ). a ++ t) (sym (behind_spaces-append xs ys))

-- the words of a list with a separator between them are the first, and the others with the separator before each
pub join_with_byte-cons : (c : ℕ) (first : List ℕ) (more : List (List ℕ)) → join_with_byte c (first ∷ more) ≡ first ++ flat_map (λ (word : List ℕ). c ∷ word) more
join_with_byte-cons c first [] = sym (append-nil first)
join_with_byte-cons c first (x ∷ more) = ap (λ (t : List ℕ). first ++ (c ∷ t)) (join_with_byte-cons c x more)

pub line_text-cons : (first : List ℕ) (more : Line) → line_text (first ∷ more) ≡ first ++ (behind_spaces more ++ codes "\n")
unfolding line_text behind_spaces
line_text-cons first more =
    ap (λ (t : List ℕ). t ++ codes "\n") (join_with_byte-cons 32 first more) ∙ append_assoc first (flat_map (λ (word : List ℕ). 32 ∷ word) more) (codes "\n")

-- a first word, the others, and the end of the line
pub line_joins : (a b c d first : List ℕ) (more : Line) → b ≡ a ++ first → c ≡ b ++ behind_spaces more → d ≡ c ++ codes "\n" → d ≡ a ++ line_text (first ∷ more)
line_joins a b c d first more one two three =
    lists_join a b d first (behind_spaces more ++ codes "\n") one (lists_join b c d (behind_spaces more) (codes "\n") two three)
    ∙ ap (λ (t : List ℕ). a ++ t) (sym (line_text-cons first more))

-- a line and more lines
pub lines_join : (a b c : List ℕ) (line : Line) (more : List Line) → b ≡ a ++ line_text line → c ≡ b ++ lines_text more → c ≡ a ++ lines_text (line ∷ more)
unfolding lines_text
lines_join a b c line more one two = lists_join a b c (line_text line) (flat_map line_text more) one two

pub lines_text-append : (xs ys : List Line) → lines_text (xs ++ ys) ≡ lines_text xs ++ lines_text ys
unfolding lines_text
lines_text-append xs ys = flat_map-append line_text xs ys

pub lines_text-nil : lines_text [] ≡ []
unfolding lines_text
lines_text-nil = refl

pub lines_text-one : (line : Line) → lines_text (line ∷ []) ≡ line_text line
unfolding lines_text
lines_text-one line = append-nil (line_text line)

pub no_words : (a : List ℕ) → a ≡ a ++ behind_spaces []
no_words a = sym (append-nil a) ∙ ap (λ (t : List ℕ). a ++ t) (sym behind_spaces-nil)

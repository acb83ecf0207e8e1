-- How rows follow one another, and how loops over lists go on and end.
use Rattle.std.proofs.Common.{◌≡◌, ℕ, ◌+◌, ◌<◌, ◌≤◌, List, [], ◌∷◌, ◌++◌, length, drop, get_or, refl, sym, ap, ◌∙◌, append_assoc, append-nil}
use Rattle.std.specs.Prelude.{Option, Some, None}
use Rattle.std.specs.List.{flat_map}
use Rattle.std.proofs.lemmas.List.{drop_all}
use Rattle.std.proofs.lemmas.Grind.{flat_map-append}
use Rattle.table_text.specs.declared.layout.Style.{Style}
use Rattle.table_text.specs.Members.{Row}
use Rattle.table_text.specs.Rows.{row_text, rows_text}
use Rattle.log_audit.specs.Lones.{told_of}
use Rattle.log_audit.proofs.AppendLoops.{left_at}

pub cons_alike : {A : Type 0} {x y : A} {xs ys : List A} → x ≡ y → xs ≡ ys → (x ∷ xs) ≡ (y ∷ ys)
cons_alike e es = cc

pub rows_text-append : (style : Style) (xs ys : List Row) → rows_text style (xs ++ ys) ≡ rows_text style xs ++ rows_text style ys
unfolding rows_text
rows_text-append style xs ys = flat_map-append (row_text style) xs ys

pub rows_text-nil : (style : Style) → rows_text style [] ≡ []
unfolding rows_text
rows_text-nil style = refl

pub rows_text-one : (style : Style) (row : Row) → rows_text style (row ∷ []) ≡ row_text style row
unfolding rows_text
rows_text-one style row = append-nil (row_text style row)

-- no rows, and one row, after what was there
pub no_rows : (style : Style) (a : List ℕ) → a ≡ a ++ rows_text style []
no_rows style a = sym (append-nil a) ∙ ap (λ (t : List ℕ). a ++ t) (sym (rows_text-nil style))

pub one_row : (style : Style) (a b : List ℕ) (row : Row) → b ≡ a ++ row_text style row → b ≡ a ++ rows_text style (row ∷ [])
one_row style a b row one = one ∙ ap (λ (t : List ℕ). a ++ t) (sym (rows_text-one style row))

-- rows after rows
pub rows_join : (style : Style) (a b c : List ℕ) (xs ys : List Row) → b ≡ a ++ rows_text style xs → c ≡ b ++ rows_text style ys → c ≡ a ++ rows_text style (xs ++ ys)
rows_join style a b c xs ys one two =
    two ∙ (ap (λ (t : List ℕ). t ++ rows_text style ys) one ∙ (append_assoc a (rows_text style xs) (rows_text style ys) ∙ ap (λ (t : List ℕ). a ++ t) (sym (rows_text-append style xs ys))))

-- a block of rows, and then those of what is left
pub block_goes_on : (style : Style) (a b whole : List ℕ) (block more : List Row) → b ≡ a ++ rows_text style block → a ++ rows_text style (block ++ more) ≡ whole → b ++ rows_text style more ≡ whole
block_goes_on style a b whole block more one so_far = rows_join style a b (b ++ rows_text style more) block more one refl ∙ so_far

pub block_ends : (style : Style) (a whole : List ℕ) → a ++ rows_text style [] ≡ whole → a ≡ whole
block_ends style a whole so_far = no_rows style a ∙ so_far

-- loops: the rows of the elements that are left are those of the next one, and of the others
pub rows_go_on : {A : Type 0} (style : Style) (left : List A → List Row) (block more : List Row) (a b whole : List ℕ) (xs : List A) (i : ℕ) (x : A) → i < length xs → x ≡ get_or xs i x
    → left (x ∷ drop (i + 1) xs) ≡ block ++ more → b ≡ a ++ rows_text style block → a ++ rows_text style (left (drop i xs)) ≡ whole → b ++ rows_text style more ≡ whole
rows_go_on style left block more a b whole xs i x lt is split one so_far =
    block_goes_on style a b whole block more one (ap (λ (rows : List Row). a ++ rows_text style rows) (sym (left_at left xs i x lt is ∙ split)) ∙ so_far)

pub rows_are_done : {A : Type 0} (style : Style) (left : List A → List Row) (a whole : List ℕ) (xs : List A) (i : ℕ) → length xs ≤ i → left [] ≡ [] → a ++ rows_text style (left (drop i xs)) ≡ whole → a ≡ whole
rows_are_done style left a whole xs i le none so_far = block_ends style a whole (ap (λ (rows : List Row). a ++ rows_text style rows) (sym (ap left (drop_all i xs le) ∙ none)) ∙ so_far)

-- with several rows for each element
pub blocks_go_on : {A : Type 0} (style : Style) (told : A → List Row) (a b whole : List ℕ) (xs : List A) (i : ℕ) (x : A) → i < length xs → x ≡ get_or xs i x → b ≡ a ++ rows_text style (told x)
    → a ++ rows_text style (flat_map told (drop i xs)) ≡ whole → b ++ rows_text style (flat_map told (drop (i + 1) xs)) ≡ whole
blocks_go_on style told a b whole xs i x lt is one so_far = rows_go_on style (flat_map told) (told x) (flat_map told (drop (i + 1) xs)) a b whole xs i x lt is refl one so_far

pub blocks_are_done : {A : Type 0} (style : Style) (told : A → List Row) (a whole : List ℕ) (xs : List A) (i : ℕ) → length xs ≤ i → a ++ rows_text style (flat_map told (drop i xs)) ≡ whole → a ≡ whole
blocks_are_done style told a whole xs i le so_far = rows_are_done style (flat_map told) a whole xs i le refl so_far

-- nothing is told of what is not there
pub nothing_told : {A : Type 0} (style : Style) (told : A → List Row) (a : List ℕ) (found of : Option A) → found ≡ of → found ≡ None → a ≡ a ++ rows_text style (told_of told of)
nothing_told {A} style told a found of is none = no_rows style a ∙ ap (λ (o : Option A). a ++ rows_text style (told_of told o)) (sym none ∙ is)

pub something_told : {A B : Type 0} (told : A → List B) (found of : Option A) (x : A) → found ≡ of → found ≡ Some x → told_of told of ≡ told x
something_told {A} told found of x is some = ap (told_of told) (sym is ∙ some)

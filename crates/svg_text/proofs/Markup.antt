-- Words make no markup.
use Rattle.std.proofs.Common.{◌≡◌, ℕ, Bool, true, false, List, [], ◌∷◌, ◌++◌, cond, map, refl, sym, ap, ◌∙◌}
use Rattle.std.specs.Prelude.{◌==◌, ◌&&◌, ◌||◌, nat_le, codes, flat_map, if◌then◌else◌}
use Rattle.std.proofs.lemmas.List.Elements.{filter-append}
use Rattle.svg_text.specs.Escaping.{escaped_byte, escaped}
use Rattle.svg_text.specs.Styles.{face_style, anchor_style}
use Rattle.svg_text.specs.Numbers.{start_text}
use Rattle.svg_text.specs.Pieces.{Piece, Line, Box, Words, place_numbers, words_text, piece_text, pieces_text}
use Rattle.svg_text.specs.Picture.{Framed, size_numbers, root_style, view_text, told_text, arrowhead, head_text, picture_text, is_markup, markup, wordless, untitled, WordsAreNoMarkup}

both : (a b x y : List ℕ) → markup a ≡ markup b → markup x ≡ markup y → markup (a ++ x) ≡ markup (b ++ y)
both a b x y front back =
    filter-append is_markup a x ∙ (ap (λ (t : List ℕ). t ++ markup x) front ∙ (ap (λ (t : List ℕ). markup b ++ t) back ∙ sym (filter-append is_markup b y)))

behind : (a x y : List ℕ) → markup x ≡ markup y → markup (a ++ x) ≡ markup (a ++ y)
behind a x y back = both a a x y refl back

plain_byte : (b : ℕ) (p q s : Bool) → (b == 60) ≡ p → (b == 62) ≡ q → (b == 34) ≡ s → p ≡ false → q ≡ false → s ≡ false → markup (b ∷ []) ≡ []
plain_byte b p q s ep eq es np nq ns =
    ap (λ (t : Bool). cond (t || ((b == 62) || (b == 34))) (b ∷ []) []) (ep ∙ np)
    ∙ (ap (λ (t : Bool). cond (t || (b == 34)) (b ∷ []) []) (eq ∙ nq) ∙ ap (λ (t : Bool). cond t (b ∷ []) []) (es ∙ ns))

abbrev spelled : ℕ → Bool → Bool → Bool → Bool → Bool → Bool → List ℕ
spelled b p q r s u v =
    if p then codes "&lt;" else
    if q then codes "&gt;" else
    if r then codes "&amp;" else
    if s then codes "&quot;" else
    if u then codes "&apos;" else
    if v then b ∷ [] else codes "?"

spelled_plain : (b : ℕ) (p q r s u v : Bool) → (b == 60) ≡ p → (b == 62) ≡ q → (b == 34) ≡ s → markup (spelled b p q r s u v) ≡ []
spelled_plain b true q r s u v ep eq es = refl
spelled_plain b false true r s u v ep eq es = refl
spelled_plain b false false true s u v ep eq es = refl
spelled_plain b false false false true u v ep eq es = refl
spelled_plain b false false false false true v ep eq es = refl
spelled_plain b false false false false false true ep eq es = plain_byte b false false false ep eq es refl refl refl
spelled_plain b false false false false false false ep eq es = refl

byte_plain : (b : ℕ) → markup (escaped_byte b) ≡ []
unfolding escaped_byte
byte_plain b = spelled_plain b (b == 60) (b == 62) (b == 38) (b == 34) (b == 39) (nat_le 32 b && nat_le b 126) refl refl refl

bytes_plain : (words : List ℕ) → markup (flat_map escaped_byte words) ≡ []
bytes_plain [] = refl
bytes_plain (b ∷ words) =
    filter-append is_markup (escaped_byte b) (flat_map escaped_byte words) ∙ (ap (λ (t : List ℕ). t ++ markup (flat_map escaped_byte words)) (byte_plain b) ∙ bytes_plain words)

words_plain : (words : List ℕ) → markup (escaped words) ≡ []
unfolding escaped
words_plain words = bytes_plain words

-- any words for any others
same : (words others x y : List ℕ) → markup x ≡ markup y → markup (escaped words ++ x) ≡ markup (escaped others ++ y)
same words others x y back = both (escaped words) (escaped others) x y (words_plain words ∙ sym (words_plain others)) back

piece_same : (piece : Piece) → markup (piece_text piece) ≡ markup (piece_text (wordless piece))
unfolding words_text
piece_same (Line stroke from to) = refl
piece_same (Box fill corner size) = refl
piece_same (Words face anchor at words) =
    let end = codes "</text>\n" in
    behind (start_text (codes "text") (face_style face) (place_numbers at)) (anchor_style anchor ++ (codes ">" ++ (escaped words ++ end))) (anchor_style anchor ++ (codes ">" ++ (escaped [] ++ end)))
    (behind (anchor_style anchor) (codes ">" ++ (escaped words ++ end)) (codes ">" ++ (escaped [] ++ end)) (behind (codes ">") (escaped words ++ end) (escaped [] ++ end) (same words [] end end refl)))

pieces_same : (pieces : List Piece) → markup (flat_map piece_text pieces) ≡ markup (flat_map piece_text (map wordless pieces))
pieces_same [] = refl
pieces_same (piece ∷ more) = both (piece_text piece) (piece_text (wordless piece)) (flat_map piece_text more) (flat_map piece_text (map wordless more)) (piece_same piece) (pieces_same more)

all_same : (pieces : List Piece) → markup (pieces_text pieces) ≡ markup (pieces_text (map wordless pieces))
unfolding pieces_text
all_same pieces = pieces_same pieces

told_same : (title description : List ℕ) → markup (told_text title description) ≡ markup (told_text [] [])
unfolding told_text
told_same title description =
    let between = codes "</title>\n<desc id=\"description\">" in
    let end = codes "</desc>\n" in
    behind (codes "<title id=\"title\">") (escaped title ++ (between ++ (escaped description ++ end))) (escaped [] ++ (between ++ (escaped [] ++ end)))
    (same title [] (between ++ (escaped description ++ end)) (between ++ (escaped [] ++ end))
    (behind between (escaped description ++ end) (escaped [] ++ end) (same description [] end end refl)))

head_same : (f : Framed) → markup (head_text f) ≡ markup (head_text (untitled f))
unfolding head_text
head_same f =
    behind (start_text (codes "svg") root_style (size_numbers f.size)) (view_text f.size ++ (told_text f.title f.description ++ arrowhead)) (view_text f.size ++ (told_text [] [] ++ arrowhead))
    (behind (view_text f.size) (told_text f.title f.description ++ arrowhead) (told_text [] [] ++ arrowhead)
    (both (told_text f.title f.description) (told_text [] []) arrowhead arrowhead (told_same f.title f.description) refl))

pub no_markup : WordsAreNoMarkup
unfolding picture_text
no_markup f pieces =
    let end = codes "</svg>\n" in
    both (head_text f) (head_text (untitled f)) (pieces_text pieces ++ end) (pieces_text (map wordless pieces) ++ end) (head_same f)
    (both (pieces_text pieces) (pieces_text (map wordless pieces)) end end (all_same pieces) refl)

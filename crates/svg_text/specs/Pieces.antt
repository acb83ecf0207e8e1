-- The elements of a picture, and the text of each.
use Rattle.std.specs.Prelude.{ℕ, List, [], ◌∷◌, ◌++◌, codes, flat_map}
use Rattle.svg_text.specs.Escaping.{escaped}
use Rattle.svg_text.specs.Styles.{stroke_style, fill_style, face_style, anchor_style}
use Rattle.svg_text.specs.Numbers.{start_text}
use Rattle.svg_text.specs.declared.styles.Stroke.{Stroke}
use Rattle.svg_text.specs.declared.styles.Fill.{Fill}
use Rattle.svg_text.specs.declared.styles.Face.{Face}
use Rattle.svg_text.specs.declared.styles.Anchor.{Anchor}
use Rattle.svg_text.specs.declared.numbers.Name.TheVariants.{X, Y, X1, Y1, X2, Y2, Width, Height}
use Rattle.svg_text.specs.declared.numbers.Number.{Number}
use Rattle.svg_text.specs.declared.shapes.Point.{Point}
use Rattle.svg_text.specs.declared.shapes.Size.{Size}

abbrev pub line_numbers : Point → Point → List Number
line_numbers from to = record { name = X1; value = from.x } ∷ record { name = Y1; value = from.y } ∷ record { name = X2; value = to.x } ∷ record { name = Y2; value = to.y } ∷ []

abbrev pub box_numbers : Point → Size → List Number
box_numbers corner size =
    record { name = X; value = corner.x } ∷ record { name = Y; value = corner.y } ∷ record { name = Width; value = size.width } ∷ record { name = Height; value = size.height } ∷ []

abbrev pub place_numbers : Point → List Number
place_numbers at = record { name = X; value = at.x } ∷ record { name = Y; value = at.y } ∷ []

unfoldable pub line_text : Stroke → Point → Point → List ℕ
line_text stroke from to = start_text (codes "line") (stroke_style stroke) (line_numbers from to) ++ codes "/>\n"

unfoldable pub box_text : Fill → Point → Size → List ℕ
box_text fill corner size = start_text (codes "rect") (fill_style fill) (box_numbers corner size) ++ codes "/>\n"

unfoldable pub words_text : Face → Anchor → Point → List ℕ → List ℕ
words_text face anchor at words =
    start_text (codes "text") (face_style face) (place_numbers at) ++ (anchor_style anchor ++ (codes ">" ++ (escaped words ++ codes "</text>\n")))

-- an element of a picture
pub data Piece : Type 0 where
  Line : Stroke → (from to : Point) → Piece
  Box : Fill → (corner : Point) → Size → Piece
  Words : Face → Anchor → (at : Point) → (words : List ℕ) → Piece

abbrev pub piece_text : Piece → List ℕ
piece_text (Line stroke from to) = line_text stroke from to
piece_text (Box fill corner size) = box_text fill corner size
piece_text (Words face anchor at words) = words_text face anchor at words

-- some elements after one another
unfoldable pub pieces_text : List Piece → List ℕ
pieces_text pieces = flat_map piece_text pieces

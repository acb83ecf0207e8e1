-- The whole file of a picture.
use Rattle.std.specs.Prelude.{◌≡◌, ℕ, List, [], ◌∷◌, ◌++◌, ◌==◌, ◌||◌, Bool, codes, decimal, filter, map}
use Rattle.svg_text.specs.Escaping.{escaped}
use Rattle.svg_text.specs.Numbers.{start_text}
use Rattle.svg_text.specs.Pieces.{Piece, Line, Box, Words, pieces_text}
use Rattle.svg_text.specs.declared.numbers.Name.TheVariants.{Width, Height}
use Rattle.svg_text.specs.declared.numbers.Number.{Number}
use Rattle.svg_text.specs.declared.shapes.Size.{Size}

-- what frames the elements of a picture: its size, its title and its description
pub record Framed : Type 0 where
  pub size : Size
  pub title : List ℕ
  pub description : List ℕ

abbrev pub size_numbers : Size → List Number
size_numbers size = record { name = Width; value = size.width } ∷ record { name = Height; value = size.height } ∷ []

-- how the root element looks, and what it is to a screen reader
unfoldable pub root_style : List ℕ
root_style = codes " xmlns=\"http://www.w3.org/2000/svg\" role=\"img\" aria-labelledby=\"title description\" font-family=\"monospace\" font-size=\"14\""

-- the part of the picture that is shown: all of it
unfoldable pub view_text : Size → List ℕ
view_text size = codes " viewBox=\"0 0 " ++ (decimal size.width ++ (codes " " ++ (decimal size.height ++ codes "\">\n")))

-- a title and a description
unfoldable pub told_text : List ℕ → List ℕ → List ℕ
told_text title description = codes "<title id=\"title\">" ++ (escaped title ++ (codes "</title>\n<desc id=\"description\">" ++ (escaped description ++ codes "</desc>\n")))

-- the arrowhead that lines end in
unfoldable pub arrowhead : List ℕ
arrowhead =
    codes "<defs><marker id=\"head\" viewBox=\"0 0 10 10\" refX=\"9\" refY=\"5\" markerWidth=\"8\" markerHeight=\"8\" orient=\"auto\">"
    ++ codes "<path d=\"M0 1L10 5L0 9Z\"/></marker></defs>\n"

-- what stands before the elements
unfoldable pub head_text : Framed → List ℕ
head_text f = start_text (codes "svg") root_style (size_numbers f.size) ++ (view_text f.size ++ (told_text f.title f.description ++ arrowhead))

-- the file that has this text of elements in its root element
abbrev pub file_text : Framed → List ℕ → List ℕ
file_text f elements = head_text f ++ (elements ++ codes "</svg>\n")

-- the text of a picture: one root element, its title and description, and all elements after one another
unfoldable pub picture_text : Framed → List Piece → List ℕ
picture_text f pieces = file_text f (pieces_text pieces)

-- a text is that of elements
pub record IsPieces (text : List ℕ) : Type 0 where
  pub pieces : List Piece
  pub is : text ≡ pieces_text pieces

-- a text is that of a picture with this frame
pub record IsPicture (f : Framed) (text : List ℕ) : Type 0 where
  pub pieces : List Piece
  pub is : text ≡ picture_text f pieces

-- the characters that make markup of a text
abbrev pub is_markup : ℕ → Bool
is_markup byte = (byte == 60) || ((byte == 62) || (byte == 34))

abbrev pub markup : List ℕ → List ℕ
markup text = filter is_markup text

-- the same element with no words
abbrev pub wordless : Piece → Piece
wordless (Line stroke from to) = Line stroke from to
wordless (Box fill corner size) = Box fill corner size
wordless (Words face anchor at words) = Words face anchor at []

abbrev pub untitled : Framed → Framed
untitled f = record { size = f.size; title = []; description = [] }

-- no words make markup: a picture has the markup that it has with no words at all
abbrev pub WordsAreNoMarkup : Type 0
WordsAreNoMarkup = (f : Framed) (pieces : List Piece) → markup (picture_text f pieces) ≡ markup (picture_text (untitled f) (map wordless pieces))

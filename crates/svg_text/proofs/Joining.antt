-- How texts follow one another.
use Rattle.std.proofs.Common.{◌≡◌, ℕ, Bool, true, false, List, [], ◌∷◌, ◌++◌, refl, sym, ap, ◌∙◌, append-nil}
use Rattle.std.specs.Prelude.{codes, flat_map, if◌then◌else◌}
use Rattle.std.proofs.lemmas.Grind.{flat_map-append}
use Rattle.input_text.proofs.Joining.{lists_join}
use Rattle.svg_text.specs.Pieces.{Piece, piece_text, pieces_text}
use Rattle.svg_text.specs.Picture.{Framed, head_text, picture_text, IsPieces, IsPicture}

-- several texts, each after the one before
pub three_join : (a b c d x y z : List ℕ) → b ≡ a ++ x → c ≡ b ++ y → d ≡ c ++ z → d ≡ a ++ (x ++ (y ++ z))
three_join a b c d x y z one two three = lists_join a b d x (y ++ z) one (lists_join b c d y z two three)

pub four_join : (a b c d e x y z u : List ℕ) → b ≡ a ++ x → c ≡ b ++ y → d ≡ c ++ z → e ≡ d ++ u → e ≡ a ++ (x ++ (y ++ (z ++ u)))
four_join a b c d e x y z u one two three four = lists_join a b e x (y ++ (z ++ u)) one (three_join b c d e y z u two three four)

pub five_join : (a b c d e f x y z u v : List ℕ) → b ≡ a ++ x → c ≡ b ++ y → d ≡ c ++ z → e ≡ d ++ u → f ≡ e ++ v → f ≡ a ++ (x ++ (y ++ (z ++ (u ++ v))))
five_join a b c d e f x y z u v one two three four five = lists_join a b f x (y ++ (z ++ (u ++ v))) one (four_join b c d e f y z u v two three four five)

-- elements
pub no_pieces : IsPieces []
unfolding pieces_text
no_pieces = record { pieces = []; is = refl }

pub more_pieces : (a b : List ℕ) (piece : Piece) → b ≡ a ++ piece_text piece → IsPieces a → IsPieces b
unfolding pieces_text
more_pieces a b piece is some = record {
  pieces = some.pieces ++ piece ∷ [];
  is = is ∙ (ap (λ (t : List ℕ). t ++ piece_text piece) some.is ∙ sym (flat_map-append piece_text some.pieces (piece ∷ []) ∙ ap (λ (t : List ℕ). flat_map piece_text some.pieces ++ t) (append-nil (piece_text piece))));
}

pub is_picture : (f : Framed) (body text : List ℕ) → IsPieces body → text ≡ head_text f ++ (body ++ codes "</svg>\n") → IsPicture f text
unfolding picture_text
is_picture f body text some is = record {
  pieces = some.pieces;
  is = is ∙ ap (λ (t : List ℕ). head_text f ++ (t ++ codes "</svg>\n")) some.is;
}

-- an element that was appended, or not
pub more_if : (done : Bool) (a b x : List ℕ) (piece : Piece) → b ≡ (if done then a ++ x else a) → x ≡ piece_text piece → IsPieces a → IsPieces b
more_if true a b x piece is text some = more_pieces a b piece (is ∙ ap (λ (t : List ℕ). a ++ t) text) some
more_if false a b x piece is text some = record { pieces = some.pieces; is = is ∙ some.is }

-- Lines that people read, as lists of pieces.
use Rattle.std.specs.Prelude.{ℕ, List, ◌++◌, codes, decimal}
use Rattle.std.specs.List.{flat_map}
use Rattle.claim_model.specs.Node.{Node, Pharmacy, Switch, Payer}
use Rattle.log_audit.specs.Kinds.{number_of}
use Rattle.table_text.specs.Quoting.{json_text}
use Rattle.log_audit.specs.declared.sentences.Manner.{Manner}
use Rattle.log_audit.specs.declared.sentences.Manner.TheVariants.{Line, Member}

-- words as they stand, a number, or a node
pub data Piece : Type 0 where
  Words : List ℕ → Piece
  Number : ℕ → Piece
  Named : Node → Piece

-- the word before the number of a node
abbrev pub node_word : Node → List ℕ
node_word (Pharmacy number) = codes "pharmacy "
node_word (Switch number) = codes "switch "
node_word (Payer number) = codes "payer "

-- a node by its kind and its number
abbrev pub node_text : Node → List ℕ
node_text node = node_word node ++ decimal (number_of node)

abbrev pub piece_text : Piece → List ℕ
piece_text (Words words) = words
piece_text (Number number) = decimal number
piece_text (Named node) = node_text node

-- the pieces, one after another
abbrev pub sentence : List Piece → List ℕ
sentence pieces = flat_map piece_text pieces

-- a line among other lines; or as a member of a list of JSON, on a line of its own and with a comma after it
unfoldable pub told_line : Manner → List ℕ → List ℕ
told_line Line text = text ++ codes "\n"
told_line Member text = codes "\n" ++ (json_text text ++ codes ",")

-- lines, one after another
abbrev pub told_lines : Manner → List (List ℕ) → List ℕ
told_lines manner lines = flat_map (told_line manner) lines

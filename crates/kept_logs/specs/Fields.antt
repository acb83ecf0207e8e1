-- Nodes in a log, and texts as crates above name them.
use Rattle.std.specs.Prelude.{ℕ, zero, suc, List, Option, Some, None}
use Rattle.claim_model.specs.Node.{Node, Pharmacy, Switch, Payer}
use Rattle.codec.specs.Codecs.{Codec, u8, u16, text, both, form}

-- the node of this kind and number, and these of a node
abbrev pub node_of : ℕ × ℕ → Option Node
node_of (zero, number) = Some (Pharmacy number)
node_of (suc zero, number) = Some (Switch number)
node_of (suc (suc zero), number) = Some (Payer number)
node_of (suc (suc (suc kind)), number) = None

abbrev pub kind_and_number : Node → ℕ × ℕ
kind_and_number (Pharmacy number) = (0, number)
kind_and_number (Switch number) = (1, number)
kind_and_number (Payer number) = (2, number)

-- a node by its kind and its number
unfoldable pub node_codec : Codec Node
node_codec = form (both u8 u16) node_of kind_and_number

-- a text after its length of eight bytes; and such a text at the front, and what follows it, None where it is cut off
unfoldable pub text_of : List ℕ → List ℕ
text_of bytes = text.text bytes

unfoldable pub text_at : List ℕ → Option (List ℕ × List ℕ)
text_at bytes = text.at bytes

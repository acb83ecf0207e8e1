-- Texts about a node.
use Rattle.std.specs.Prelude.{ℕ, List, ◌++◌, codes, decimal}
use Rattle.world_setup.specs.declared.node.Node.{Node}
use Rattle.world_setup.specs.declared.node.Node.TheVariants.{Pharmacy, Switch, Payer}

-- a node by its kind and its number
unfoldable pub node_words : Node → List ℕ
node_words (Pharmacy number) = codes "pharmacy " ++ decimal number
node_words (Switch number) = codes "switch " ++ decimal number
node_words (Payer number) = codes "payer " ++ decimal number

-- a node, and words that are true of it
unfoldable pub said_text : Node → List ℕ → List ℕ
said_text node words = node_words node ++ words

-- it does not go over, for this cause, with a hint
unfoldable pub refused_text : Node → List ℕ → List ℕ → List ℕ
refused_text node why hint = said_text node (codes " does not go over: ") ++ (why ++ hint)

-- it does not go over, for the rejection of this entry
unfoldable pub rerouted_text : Node → ℕ → List ℕ
rerouted_text node entry =
    said_text node (codes " does not go over: entry ") ++ (decimal entry ++ codes " was rejected for want of a route, and its request has one now")

-- the line of what is told of a log of this name
unfoldable pub line_text : List ℕ → List ℕ → List ℕ
line_text name told = name ++ (codes ": " ++ (told ++ codes "\n"))

-- a log does not go over, for this cause
unfoldable pub unread_text : List ℕ → List ℕ
unread_text why = codes "does not go over: " ++ why

-- The names of nodes, as schedules, lines of nodes and pictures have them: `ph1` a pharmacy, `sw1` a switch, `pr1` a payer.
use Rattle.std.specs.Prelude.{ℕ, List, ◌++◌, length, take, drop, decimal, nat_le, codes, bytes_eq, Option, Some, None, if◌then◌else◌}
use Rattle.std.specs.Option.{option_map, option_or}
use Rattle.input_text.specs.Options.{◌>>=◌}
use Rattle.input_text.specs.Decimals.{decimal_number}
use Rattle.claim_model.specs.Node as model
use Rattle.world_setup.specs.declared.node.Node.{Node}
use Rattle.world_setup.specs.declared.node.Node.TheVariants.{Pharmacy, Switch, Payer}

-- what stands after these letters, where a word begins with them
abbrev pub behind : List ℕ → List ℕ → Option (List ℕ)
behind letters word = if bytes_eq (take (length letters) word) letters then Some (drop (length letters) word) else None

-- a number over 65,535 is of no node: it is read as 0, which is nobody's number
abbrev pub known_number : ℕ → ℕ
known_number number = if nat_le number 65535 then number else 0

-- the number of a node: 1 to 5 decimal digits
abbrev pub node_number : List ℕ → Option ℕ
node_number digits = option_map known_number (decimal_number 5 digits)

-- the number after these letters
abbrev pub numbered : List ℕ → List ℕ → Option ℕ
numbered letters word = behind letters word >>= node_number

abbrev pub pharmacy_in : List ℕ → Option ℕ
pharmacy_in word = numbered (codes "ph") word

abbrev pub switch_in : List ℕ → Option ℕ
switch_in word = numbered (codes "sw") word

abbrev pub payer_in : List ℕ → Option ℕ
payer_in word = numbered (codes "pr") word

-- a node of any kind
unfoldable pub node_in : List ℕ → Option Node
node_in word = option_or (option_map Pharmacy (pharmacy_in word)) (option_or (option_map Switch (switch_in word)) (option_map Payer (payer_in word)))

-- the name of a node, as the model has it
abbrev pub node_text : model.Node → List ℕ
node_text (model.Pharmacy number) = codes "ph" ++ decimal number
node_text (model.Switch number) = codes "sw" ++ decimal number
node_text (model.Payer number) = codes "pr" ++ decimal number

-- The faults of links that lines of `run` spell.
use Rattle.std.specs.Prelude.{ℕ, ◌==◌, Bool, List, [], ◌∷◌, codes, bytes_eq, Option, Some, None, if◌then◌else◌}
use Rattle.std.specs.List.{slice_split}
use Rattle.input_text.specs.Options.{◌>>=◌}
use Rattle.input_text.specs.Words.{split_word}
use Rattle.world_setup.specs.declared.link.Action.{Action}
use Rattle.world_setup.specs.declared.link.Action.TheVariants.{Deliver, Lose, Twice, Hold}
use Rattle.world_setup.specs.declared.link.LinkFault.{LinkFault}
use Rattle.schedule.specs.Nodes.{node_in}

-- the action that a word names
abbrev pub action_in : List ℕ → Option Action
action_in word =
    if bytes_eq word (codes "deliver") then Some Deliver else
    if bytes_eq word (codes "lose") then Some Lose else
    if bytes_eq word (codes "twice") then Some Twice else
    if bytes_eq word (codes "hold") then Some Hold else None

-- something before a list, where both are there
abbrev pub onto : {A : Type 0} → Option A → Option (List A) → Option (List A)
onto None rest = None
onto (Some first) None = None
onto (Some first) (Some rest) = Some (first ∷ rest)

-- the actions that words name, where each names one
abbrev pub named_actions : List (List ℕ) → Option (List Action)
named_actions [] = Some []
named_actions (word ∷ rest) = onto (action_in word) (named_actions rest)

abbrev pub is_comma : ℕ → Bool
is_comma byte = byte == 44

-- the parts of a text between its commas
abbrev pub comma_parts : List ℕ → List (List ℕ)
comma_parts text = slice_split is_comma text

-- one or more actions joined by commas
abbrev pub actions_in : List ℕ → Option (List Action)
actions_in text = named_actions (comma_parts text)

-- two nodes of any kind, from one to the other, and actions
unfoldable pub link_fault : List ℕ → Option LinkFault
link_fault rest = do
  first ← split_word rest
  from ← node_in first.0
  second ← split_word first.1
  to ← node_in second.0
  actions ← actions_in second.1
  Some (record { from = from; to = to; actions = actions })

-- the fault that a line spells
unfoldable pub fault_of : List ℕ → Option LinkFault
fault_of line = split_word line >>= (λ parts. if bytes_eq parts.0 (codes "fault") then link_fault parts.1 else None)

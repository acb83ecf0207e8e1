-- What is told of a node that changes nothing: how much it has, and which of its entries are open.
use Rattle.std.specs.Prelude.{ℕ, ◌+◌, ◌-◌, List, [], ◌∷◌, ◌++◌, take, drop, codes, decimal, Option, Some, None, option_and_then}
use Rattle.std.specs.List.{flat_map}
use Rattle.claim_model.specs.Journal.{JournalAtRest, Kept}
use Rattle.claim_model.specs.Nodes.{AnyNode}
use Rattle.claim_model.specs.Numbered.{numbered}
use Rattle.node_state.specs.Nodes.{journal_of, size_of}

-- how many entries a pharmacy has, slots a switch, or rows a payer
abbrev pub count_line : ℕ → List ℕ
count_line count = codes "count " ++ (decimal count ++ codes "\n")

-- an entry without an answer, by its number
unfoldable pub entry_line : ℕ → List ℕ
entry_line number = codes "entry " ++ (decimal number ++ codes "\n")

-- the answer to an entry, if it has one
abbrev pub answer_in : List Kept → ℕ → Option (List ℕ)
answer_in entries number = option_and_then (λ (k : Kept). k.answer) (numbered entries number)

-- a number, where its entry has no answer, in front of those after it
abbrev pub open_then : Option (List ℕ) → ℕ → List ℕ → List ℕ
open_then None number more = number ∷ more
open_then (Some answer) number more = more

-- the numbers of the entries without an answer, of entries that are numbered from n on
abbrev pub open_numbers : ℕ → List Kept → List ℕ
open_numbers n [] = []
open_numbers n (k ∷ entries) = open_then k.answer n (open_numbers (n + 1) entries)

-- at most this many of them, the oldest first, after this many entries
abbrev pub open_behind : ℕ → ℕ → List Kept → List ℕ
open_behind passed count entries = take count (open_numbers (passed + 1) (drop passed entries))

-- the same, from the entry of this number on; entries are numbered from 1
abbrev pub open_from : ℕ → ℕ → List Kept → List ℕ
open_from number count entries = open_behind (number - 1) count entries

-- a line for each
unfoldable pub entry_lines : List ℕ → List ℕ
entry_lines numbers = flat_map entry_line numbers

-- what is told after a list: that this was all
abbrev pub end_line : List ℕ
end_line = codes "end\n"

abbrev pub open_in : ℕ → ℕ → Option JournalAtRest → List ℕ
open_in number count None = end_line
open_in number count (Some j) = entry_lines (open_from number count j.entries) ++ end_line

-- the open entries of a pharmacy; another node has none
abbrev pub open_text : ℕ → ℕ → AnyNode → List ℕ
open_text number count state = open_in number count (journal_of state)

abbrev pub count_text : AnyNode → List ℕ
count_text state = count_line (size_of state)

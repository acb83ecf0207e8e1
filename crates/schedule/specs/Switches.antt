-- The switches that a line names one after another: their names joined by commas.
use Rattle.std.specs.Prelude.{ℕ, List, [], ◌∷◌, length, nat_le, Option, Some, None, if◌then◌else◌}
use Rattle.std.specs.Option.{option_map}
use Rattle.input_text.specs.Options.{◌>>=◌}
use Rattle.pharmacy_journal.specs.Ruling.{bytes_of}
use Rattle.schedule.specs.Nodes.{switch_in}
use Rattle.schedule.specs.Faults.{onto, comma_parts}

-- the numbers of the switches that words name, where each names one
abbrev pub named_switches : List (List ℕ) → Option (List ℕ)
named_switches [] = Some []
named_switches (word ∷ rest) = onto (switch_in word) (named_switches rest)

-- 4,096 numbers at most
abbrev pub at_most_4096 : List ℕ → Option (List ℕ)
at_most_4096 numbers = if nat_le (length numbers) 4096 then Some numbers else None

-- one to 4,096 names of switches joined by commas: the numbers of the switches
abbrev pub switch_numbers : List ℕ → Option (List ℕ)
switch_numbers word = named_switches (comma_parts word) >>= at_most_4096

-- the numbers of the switches that a word names, two bytes each, the higher first
abbrev pub switches_in : List ℕ → Option (List ℕ)
switches_in word = option_map bytes_of (switch_numbers word)

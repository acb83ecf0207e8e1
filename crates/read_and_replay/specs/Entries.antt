-- The entries that the lines of an input spell.
use Rattle.std.specs.Prelude.{ℕ, zero, suc, List, Option, Some, None, option_and_then, Result, Ok, Err}
use Rattle.std.specs.Result.{result_ok}
use Rattle.input_text.specs.Options.{◌>>=◌}
use Rattle.input_text.specs.Lines.{numbered_lines}
use Rattle.input_text.specs.Words.{split_word}
use Rattle.input_text.specs.Decimals.{decimal_number}
use Rattle.input_text.specs.Printing.{unprinted}
use Rattle.envelope.specs.Txn.{Txn}
use Rattle.schedule.specs.Reading.{told_lines, spelled_in}
use Rattle.program_io.specs.declared.fault.InputFault.{InputFault}
use Rattle.program_io.specs.declared.fault.InputFault.TheVariants.{Line}

-- a request and the id that it comes under
pub record Entry : Type 0 where
  pub id : Txn
  pub request : List ℕ

-- all lines stand under pharmacy 1, and no number is zero
abbrev pub id_with : ℕ → Option Txn
id_with zero = None
id_with (suc n) = Some (record { pharmacy = 1; number = suc n })

-- the id that a number of 1 to 18 digits stands for
abbrev pub id_in : List ℕ → Option Txn
id_in word = option_and_then id_with (decimal_number 18 word)

-- the entry of these parts
abbrev pub entry_with : Txn → List ℕ → Entry
entry_with id request = record { id = id; request = request }

-- the entry of an id, where there is one
abbrev pub entry_under : Option Txn → List ℕ → Option Entry
entry_under None request = None
entry_under (Some id) request = Some (entry_with id request)

-- the entry that a line spells: a number, one space, and a request in printed bytes
unfoldable pub entry_of : List ℕ → Option Entry
entry_of line = do
  words ← split_word line
  id ← id_in words.0
  request ← result_ok (unprinted words.1)
  Some (record { id = id; request = request })

-- the entries of the lines of an input, in order, or the number of the first line that spells none; skipped lines are counted
abbrev pub entries_in : List ℕ → Result (List Entry) ℕ
entries_in input = spelled_in entry_of (told_lines (numbered_lines (record { number = 1; bytes = input })))

-- what lines spell, or the line that is bad
abbrev pub by_line : {A : Type 0} → Result A ℕ → Result A InputFault
by_line (Ok all) = Ok all
by_line (Err number) = Err (Line number)

-- the entries of an input, or what is bad in it
abbrev pub entries_of : List ℕ → Result (List Entry) InputFault
entries_of input = by_line (entries_in input)

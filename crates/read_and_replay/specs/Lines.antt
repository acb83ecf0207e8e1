-- The lines that `read` writes.
use Rattle.std.specs.Prelude.{ℕ, List, [], ◌∷◌, ◌++◌, Result, Ok, Err, codes, decimal}
use Rattle.input_text.specs.Printing.{printed}
use Rattle.bin_routes.specs.Table.{RouteMaps}
use Rattle.claim_model.specs.declared.refusal.Refusal.{Refusal}
use Rattle.claim_model.specs.Refusal.{refusal_name}
use Rattle.claim_model.specs.Rows.{Book}
use Rattle.claim_model.specs.Book.{Answered, answered, unadvised}
use Rattle.claim_model.specs.Bytes.{bytes_with}
use Rattle.program_io.specs.declared.fault.InputFault.{InputFault}
use Rattle.read_and_replay.specs.Entries.{Entry, entries_of}
use Rattle.read_and_replay.specs.Sample.{sample_routes, opening_book}

-- what stands after the number: the answer in printed bytes, or the name of the refusal
abbrev pub told : Result Answered Refusal → List ℕ
told (Ok answer) = codes " " ++ printed answer.bytes
told (Err refusal) = codes " refused " ++ refusal_name refusal

-- the line of a request: its number without leading zeros, and what the book said
unfoldable pub line_of : ℕ → Result Answered Refusal → List ℕ
line_of number said = decimal number ++ (told said ++ codes "\n")

-- the book after a request; a refusal changes nothing
abbrev pub book_after : Book → Result Answered Refusal → Book
book_after book (Ok answer) = answer.book
book_after book (Err refusal) = book

-- what the book says to a request
abbrev pub said_to : RouteMaps → Book → Entry → Result Answered Refusal
said_to maps book e = answered (bytes_with maps) book unadvised e.id e.request

-- the line of an entry, by what this book says to it
abbrev pub entry_line : RouteMaps → Book → Entry → List ℕ
entry_line maps book e = line_of e.id.number (said_to maps book e)

-- the lines of requests, one after another over the book as the earlier ones left it
abbrev pub answer_lines : RouteMaps → Book → List Entry → List ℕ
answer_lines maps book [] = []
answer_lines maps book (e ∷ more) = entry_line maps book e ++ answer_lines maps (book_after book (said_to maps book e)) more

-- what stands in an output with the lines of these entries after what it had, or the line that spells none
abbrev pub lines_behind : RouteMaps → Book → List ℕ → Result (List Entry) ℕ → Result (List ℕ) ℕ
lines_behind maps book front (Ok entries) = Ok (front ++ answer_lines maps book entries)
lines_behind maps book front (Err number) = Err number

-- the lines for the entries of an input
abbrev pub lines_for : Result (List Entry) InputFault → Result (List ℕ) InputFault
lines_for (Ok entries) = Ok (answer_lines sample_routes opening_book entries)
lines_for (Err why) = Err why

-- the output for an input: a line for each entry, or the first line that spells none
unfoldable pub output_of : List ℕ → Result (List ℕ) InputFault
output_of input = lines_for (entries_of input)

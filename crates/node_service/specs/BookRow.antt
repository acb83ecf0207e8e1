-- What is told of a row of a payer's book: its lines as a report has them.
use Rattle.std.specs.Prelude.{ℕ, List, ◌++◌, codes, Option, Some, None}
use Rattle.claim_model.specs.Context.{Context}
use Rattle.claim_model.specs.Numbered.{numbered}
use Rattle.claim_model.specs.Rows.{Row, Book}
use Rattle.claim_model.specs.Nodes.{AnyNode}
use Rattle.node_state.specs.Nodes.{book_of}
use Rattle.world_report.specs.Words.{lines_text}
use Rattle.world_report.specs.BookRows.{row_lines}
use Rattle.node_service.specs.Listing.{end_line}

-- the lines of a row of this book, one for each transaction of its request, and that these were all
abbrev pub row_in : Context → Book → Row → List ℕ
row_in ctx b row = lines_text (row_lines ctx b.rows row) ++ end_line

abbrev pub row_found : Context → Book → Option Row → List ℕ
row_found ctx b (Some row) = row_in ctx b row
row_found ctx b None = codes "none\n"

-- the row of a number, from 1; there may be none
abbrev pub row_of_book : Context → ℕ → Book → List ℕ
row_of_book ctx number b = row_found ctx b (numbered b.rows number)

abbrev pub row_by : Context → ℕ → Option Book → List ℕ
row_by ctx number (Some b) = row_of_book ctx number b
row_by ctx number None = codes "none\n"

-- the row of a number in a payer's book; another node has none
abbrev pub row_text : Context → ℕ → AnyNode → List ℕ
row_text ctx number state = row_by ctx number (book_of state)

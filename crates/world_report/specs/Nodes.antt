-- The lines of the nodes of a world: for each its head, and then what its journal, table or book has.
use Rattle.std.specs.Prelude.{ℕ, ◌+◌, Bool, List, [], ◌∷◌, ◌++◌, length, map, codes}
use Rattle.std.specs.List.{flat_map}
use Rattle.claim_model.specs.Context.{Context}
use Rattle.claim_model.specs.Counted.{counted}
use Rattle.claim_model.specs.Held.{journal_in, book_in}
use Rattle.claim_model.specs.Journal.{Journal, JournalAtRest}
use Rattle.claim_model.specs.Node.{Power}
use Rattle.claim_model.specs.Rows.{Book, Row}
use Rattle.claim_model.specs.Table.{Table}
use Rattle.claim_model.specs.World.{World}
use Rattle.pharmacy_journal.specs.Listing.{listed}
use Rattle.switch_node.specs.declared.table.InFlight.{InFlight}
use Rattle.node_state.specs.Sends.{is_up, in_flight_at}
use Rattle.world_report.specs.Words.{Line}
use Rattle.world_report.specs.Rulings.{paid_line}
use Rattle.world_report.specs.Places.{entry_lines, flight_line}
use Rattle.world_report.specs.BookRows.{row_lines}
use Rattle.world_report.specs.Heads.{head_line}

-- the entries of a journal in order of their numbers, and then the payments that it counts
abbrev pub told_lines : Context → JournalAtRest → List Line
told_lines ctx j = flat_map entry_lines (listed j) ++ map paid_line (counted ctx j)

-- a pharmacy: its head, and what is told of its journal
abbrev pub journal_lines : Context → ℕ → Bool → JournalAtRest → List Line
journal_lines ctx number up j = head_line (codes "pharmacy") number up (codes "entries") (length j.entries) ∷ told_lines ctx j

abbrev pub pharmacy_lines : Context → ℕ → Power Journal JournalAtRest → List Line
pharmacy_lines ctx number node = journal_lines ctx number (is_up node) (journal_in node)

-- a switch: the requests in flight, oldest first. A stopped switch has none
abbrev pub in_flight_line : InFlight → Line
in_flight_line f = flight_line f.id f.answered

abbrev pub table_lines : ℕ → Bool → List InFlight → List Line
table_lines number up table = head_line (codes "switch") number up (codes "entries") (length table) ∷ map in_flight_line table

abbrev pub switch_lines : ℕ → Power Table ℕ → List Line
switch_lines number node = table_lines number (is_up node) (in_flight_at node)

-- a payer: the rows of its book, oldest first
abbrev pub book_lines : Context → ℕ → Bool → List Row → List Line
book_lines ctx number up rows = head_line (codes "payer") number up (codes "rows") (length rows) ∷ flat_map (row_lines ctx rows) rows

abbrev pub payer_lines : Context → ℕ → Power Book Book → List Line
payer_lines ctx number node = book_lines ctx number (is_up node) (book_in node).rows

-- the lines of nodes that are numbered from here on
abbrev pub lines_from : {A : Type 0} → (ℕ → A → List Line) → ℕ → List A → List Line
lines_from told number [] = []
lines_from told number (node ∷ more) = told number node ++ lines_from told (number + 1) more

-- all nodes: the pharmacies, then the switches, then the payers
unfoldable pub world_lines : Context → World → List Line
world_lines ctx w = lines_from (pharmacy_lines ctx) 1 w.pharmacies ++ (lines_from switch_lines 1 w.switches ++ lines_from (payer_lines ctx) 1 w.payers)

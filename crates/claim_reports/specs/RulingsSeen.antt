-- Rulings as the code holds them.
use Rattle.std.specs.Prelude.{◌≡◌, ◌++◌, ℕ, List, Option, Some, map}
use Rattle.csv.specs.Records.{fields_of}
use Rattle.claim_reports.specs.declared.rulings.Line.{Line}
use Rattle.claim_reports.specs.declared.rulings.Rulings.{Rulings}
use Rattle.claim_reports.specs.declared.ledger.Move.{Move}
use Rattle.claim_reports.specs.declared.rulings.Remittance.{Remittance}
use Rattle.claim_reports.specs.declared.rulings.RulingColumns.{RulingColumns}
use Rattle.claim_reports.specs.Rulings.{Placed, Read, Ruling, numbered, read_own, read_row}

abbrev pub line_seen : Line → Ruling
line_seen l = record { number = l.ruling; row = fields_of l.row.record.now; moves = l.moves }

abbrev pub lines_seen : List Line → List Ruling
lines_seen lines = map line_seen lines

abbrev pub read_seen : Rulings → Read
read_seen r = record { rulings = lines_seen r.lines.items; up_to = r.up_to }

-- a row more is read; one of the payer is
abbrev pub ReadsRow : RulingColumns → Remittance → List (List ℕ) → Rulings → Rulings → Type 0
ReadsRow c asked row old new = read_row c asked (read_seen old) row ≡ Some (read_seen new)

abbrev pub ReadsOwn : RulingColumns → ℕ → List (List ℕ) → Rulings → Rulings → Type 0
ReadsOwn c pharmacy row old new = read_own c pharmacy (read_seen old) row ≡ Some (read_seen new)

-- a ruling of this number is added, where it moves something
abbrev pub AddsRuling : List Line → List Line → ℕ → List (List ℕ) → Option Move → Type 0
AddsRuling old new number row moves = lines_seen new ≡ lines_seen old ++ numbered number row moves

-- the same with their places
abbrev pub line_placed : Line → Placed
line_placed l = record { table = l.row.table; at = l.row.number; ruling = line_seen l }

abbrev pub lines_placed : List Line → List Placed
lines_placed lines = map line_placed lines

abbrev pub AddsPlaced : List Line → List Line → List Placed → Type 0
AddsPlaced old new more = lines_placed new ≡ lines_placed old ++ more

use Rattle.std.proofs.Common.{◌≡◌, ◌+◌, ◌++◌, [], map, drop}
use Rattle.csv.specs.Records.{fields_of}
use Rattle.claim_reports.specs.Rulings.{placed_from, read_rows, rulings_bad}
use Rattle.claim_reports.specs.RulingsSeen.{lines_placed, read_seen}
use Rattle.claim_reports.proofs.rulings.rulings_in.Given as goal

-- what is read of all rows is what is read of those that are left after the others, in which nothing is wrong
abbrev pub invariant-loop-place : goal.invariant-loop-place
invariant-loop-place l = record {
  read :
      read_rows l.columns l.asked (record { rulings = []; up_to = 0 }) (map fields_of l.record-items)
      ≡ read_rows l.columns l.asked (read_seen l.rulings) (map fields_of (drop l.place l.record-items));
  placed :
      placed_from l.table.number l.columns l.asked 0 1 (map fields_of l.record-items)
      ≡ lines_placed l.rulings.lines.items ++ placed_from l.table.number l.columns l.asked l.rulings.up_to (l.place + 1) (map fields_of (drop l.place l.record-items));
  good :
      rulings_bad l.table.number l.columns l.asked 0 1 (map fields_of l.record-items)
      ≡ rulings_bad l.table.number l.columns l.asked l.rulings.up_to (l.place + 1) (map fields_of (drop l.place l.record-items));
}

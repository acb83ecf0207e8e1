use Rattle.std.proofs.Common.{ℕ, map}
use Rattle.std.specs.Global.{Vec}
use Rattle.csv.specs.Records.{fields_of}
use Rattle.claim_reports.specs.RulingsSeen.{lines_seen}
use Rattle.claim_reports.proofs.Remittances.{summed_is}
use Rattle.claim_reports.proofs.Telling.{refuses_same}
use Rattle.claim_reports.proofs.WrongRemittances as wrong
use Rattle.claim_reports.proofs.remitting.remittance_sums.Goals as goal

pub returns-clause-made : goal.returns-clause-made
returns-clause-made c =
    summed_is (λ (text : Vec ℕ). text.items) c.sums_text.result c.args.rows.now c.args.asked.now (map fields_of c.in_ok-table.table.records.items) c.in_ok-columns.columns (lines_seen c.in_ok-rulings.rulings.lines.items) c.in_ok-rulings.rulings.up_to
    c.in_ok-before.before.items c.in_ok-moves.moves.items (lines_seen c.in_ok-lines.lines.items) _ c.in_ok-table.ensures.read c.in_ok-columns.ensures.are c.in_ok-rulings.ensures.read
    (rw c.as_slice.ensures.value at c.in_ok-before.ensures) (rw c.as_slice-2.ensures.value at c.in_ok-lines.ensures.read) (rw c.as_slice-3.ensures.value at c.in_ok-moves.ensures)
    (λ i. record { whose = c.number.ensures i; pharmacy = c.args.asked.now.pharmacy; first = c.number-2.ensures i; last = c.number-3.ensures i })
    (rw (c.as_slice-4.ensures.value, c.as_slice-5.ensures.value) at c.sums_text.ensures.made)

pub returns-clause-refuses : goal.returns-clause-refuses
returns-clause-refuses c =
    refuses_same c.sums_text.result _ _
    (wrong.summed_is c.args.rows.now c.args.asked.now c.in_ok-table.table.number (map fields_of c.in_ok-table.table.records.items) c.in_ok-columns.columns c.in_ok-rulings.rulings.lines.items (lines_seen c.in_ok-lines.lines.items) c.in_ok-before.before.items c.in_ok-moves.moves.items
    (record {
      are = c.in_ok-table.ensures.all;
      even = c.in_ok-table.ensures.refuses;
      number = c.in_ok-table.ensures.number;
      columns_are = c.in_ok-columns.ensures.are;
      there = c.in_ok-columns.ensures.refuses;
      good = c.in_ok-rulings.ensures.refuses;
      placed = c.in_ok-rulings.ensures.placed;
    }) (rw c.as_slice.ensures.value at c.in_ok-before.ensures) (rw c.as_slice-2.ensures.value at c.in_ok-lines.ensures.read) (rw c.as_slice-3.ensures.value at c.in_ok-moves.ensures))
    (rw (c.as_slice-4.ensures.value, c.as_slice-5.ensures.value) at c.sums_text.ensures.refuses)

use Rattle.std.proofs.Common.{map}
use Rattle.csv.specs.Records.{fields_of}
use Rattle.claim_reports.proofs.Remittances.{remitted_is}
use Rattle.claim_reports.proofs.Telling.{refuses_same}
use Rattle.claim_reports.proofs.WrongRemittances as wrong
use Rattle.claim_reports.proofs.remitting.remittance_lines.Goals as goal

pub returns-clause-refuses : goal.returns-clause-refuses
returns-clause-refuses c =
    refuses_same c.lines_text.result _ _
    (wrong.remitted_is c.args.rows.now c.args.asked.now c.in_ok-table.table.number (map fields_of c.in_ok-table.table.records.items) c.in_ok-columns.columns c.in_ok-rulings.rulings.lines.items c.in_ok-lines.lines.items c.in_ok-before.before.items
    (record {
      are = c.in_ok-table.ensures.all;
      even = c.in_ok-table.ensures.refuses;
      number = c.in_ok-table.ensures.number;
      columns_are = c.in_ok-columns.ensures.are;
      there = c.in_ok-columns.ensures.refuses;
      good = c.in_ok-rulings.ensures.refuses;
      placed = c.in_ok-rulings.ensures.placed;
    }) (rw c.as_slice.ensures.value at c.in_ok-before.ensures) (rw c.as_slice-2.ensures.value at c.in_ok-lines.ensures.placed))
    (rw (c.as_slice-3.ensures.value, c.as_slice-4.ensures.value) at c.lines_text.ensures.refuses)

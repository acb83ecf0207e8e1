use Rattle.std.proofs.Common.{◌≡◌, ◌+◌, [], arith, length}
use Rattle.std.specs.Prelude.{codes}
use Rattle.table_text.specs.Rows.{head_text}
use Rattle.claim_reports.specs.Statement.{line_names}
use Rattle.claim_reports.specs.RulingsSeen.{line_seen, lines_seen}
use Rattle.claim_reports.proofs.Remittances.{lines_none, lines_next}
use Rattle.claim_reports.proofs.Telling.{passed}
use Rattle.claim_reports.proofs.WrongLines.{lines_begin, lines_good}
use Rattle.claim_reports.proofs.remitting.lines_text.Goals as goal

pub loop-line-init : goal.loop-line-init
loop-line-init c = record {
  lines =
      rw (c.in_ok-put_line_names.ensures, c.new-out.ensures.items)
      (lines_none c.args.columns.now c.args.asked.now c.args.before.now (lines_seen c.args.lines.now) (head_text (line_names (codes "ruling"))) c.take_all.new.self (c.in_ok-take_all.ensures.takes [] c.new-ledger.ensures).is);
  number = omega arith;
  good = lines_begin c.args.columns.now c.args.before.now c.args.lines.now;
}

pub loop-line-preserved : goal.loop-line-preserved
loop-line-preserved c =
    let lt = c.loop-line-test.true in
    let at = c.loop-line.invariant.number in
    let number : c.loop-line.passed + 1 ≡ length c.args.before.now + c.loop-line.line-index + 1 = omega arith in
    let last : length c.args.before.now + c.loop-line.line-index + 1 + 1 ≡ length c.args.before.now + (c.loop-line.line-index + 1) + 1 = omega arith in
    record {
      lines =
          lines_next line_seen c.args.columns.now c.args.asked.now c.args.before.now c.args.lines.now c.loop-line.line-index _ (head_text (line_names (codes "ruling"))) c.loop-line.out.items c.put_line.new.out.items
          c.loop-line.ledger c.take_all-in-loop-line.new.self c.in_ok-moved.moved lt
          (rw c.line-item.is at (c.in_ok-moved.ensures.takes _ c.loop-line.invariant.lines.is)) (rw c.line-item.is at c.in_ok-put_line.ensures.adds) c.loop-line.invariant.lines;
      number = let one = c.saturating_add-passed.ensures in omega arith;
      good =
          rw (← last)
          (lines_good c.args.columns.now c.args.before.now (length c.args.before.now + c.loop-line.line-index + 1) c.loop-line.line-index c.args.lines.now _ _ lt
          (rw (c.line-item.is, number) at (c.in_ok-moved.ensures.refuses _ c.loop-line.invariant.lines.is (omega arith))) (rw c.line-item.is at c.in_ok-put_line.ensures.refuses) c.loop-line.invariant.good);
    }

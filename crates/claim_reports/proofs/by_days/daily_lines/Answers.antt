use Rattle.std.proofs.Common.{ℕ}
use Rattle.std.specs.Global.{Vec}
use Rattle.claim_reports.proofs.Dated.{lined_is}
use Rattle.claim_reports.proofs.by_days.daily_lines.Goals as goal

pub returns-clause-made : goal.returns-clause-made
returns-clause-made c =
    lined_is (λ (text : Vec ℕ). text.items) c.lines_text.result c.args.rows.now c.args.asked.now c.in_ok-rulings.rulings.items c.in_ok-kept.kept.items c.in_ok-before.before.items c.in_ok-rulings.ensures.read
    (rw c.as_slice.ensures.value at c.in_ok-before.ensures) (rw c.as_slice-2.ensures.value at c.in_ok-kept.ensures)
    (rw (c.as_slice-3.ensures.value, c.as_slice-4.ensures.value) at c.lines_text.ensures.made)

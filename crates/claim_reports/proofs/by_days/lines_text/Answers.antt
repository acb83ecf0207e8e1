use Rattle.std.proofs.Common.{◌++◌, ◌∙◌, ℕ, List, ap}
use Rattle.std.specs.Prelude.{codes}
use Rattle.table_text.specs.Rows.{head_text}
use Rattle.claim_reports.specs.Daily.{daily_lines, moves_of}
use Rattle.claim_reports.specs.Statement.{line_names}
use Rattle.claim_reports.proofs.by_days.lines_text.Goals as goal

pub loop-ruling-init : goal.loop-ruling-init
loop-ruling-init c =
    ap (λ (t : List ℕ). t ++ daily_lines c.args.pharmacy (c.args.before.now ++ moves_of c.args.rulings.now) c.args.rulings.now)
    (c.in_ok-put_line_names.ensures ∙ ap (λ (t : List ℕ). t ++ head_text (line_names (codes "ruled_on"))) c.new-out.ensures.items)

use Rattle.std.proofs.Common.{◌≡◌, ◌++◌, ℕ, List, ap, sym, ◌∙◌}
use Rattle.std.specs.List.{list_any}
use Rattle.std.specs.Str.Lines.{lines}
use Rattle.input_text.specs.Lines.{LinesLeft, numbered_lines}
use Rattle.schedule.specs.Division.{ended_lines, is_divider, schedule_lines, settings_lines}
use Rattle.schedule.proofs.Fronts.{texts, texts-numbered, behind}
use Rattle.schedule.proofs.division.front.Goals as goal

pub loop-line-init : goal.loop-line-init
loop-line-init c =
    let all : texts (numbered_lines c.new-lines.result) ≡ lines c.args.input.now =
    ap (λ (left : LinesLeft). texts (numbered_lines left)) c.new-lines.ensures ∙ texts-numbered 1 (lines c.args.input.now) in record {
      written = ap (λ (ls : List (List ℕ)). c.args.settings.now.items ++ ended_lines (settings_lines ls)) all;
      schedule = ap schedule_lines all;
      divided = ap (list_any is_divider) all;
    }

pub returns-then-eq-clause-schedule : goal.returns-then-eq-clause-schedule
returns-then-eq-clause-schedule c =
    let left = c.next.new.self in
    ap lines c.remainder.ensures
    ∙ (sym (texts-numbered left.number (lines left.bytes))
    ∙ (behind (numbered_lines c.loop-line.lines) (c.in-Some.line.number, c.in-Some.line.text.now) (numbered_lines left) c.in-Some.ensures.steps (sym c.eq.ensures ∙ c.if-eq.true) ∙ c.loop-line.invariant.schedule))

use Rattle.std.proofs.Common.{ℕ, List, true, subst, ap, ◌∙◌}
use Rattle.message_parts.specs.declared.dissecting.Carried.{Carried}
use Rattle.message_parts.specs.declared.part.PartKind.{PartKind}
use Rattle.message_parts.specs.Added.{Tells}
use Rattle.message_parts.specs.AtRest.{rule_rows, each_told, rule_told, switch_count, switch_told, head_told}
use Rattle.message_parts.proofs.AtRest.{on_ok, rule}
use Rattle.message_parts.proofs.journals.cut_rule.Goals as goal

pub returns-clause-told : goal.returns-clause-told
unfolding rule_rows
returns-clause-told c =
    on_ok ((x : List Carried) → Tells (each_told switch_told c.switch_count-count.result) true c.cut_marks.new.cutter c.cut_switches.new.cutter x x)
    ((x : List Carried) → Tells rule_told true c.args.cutter.now c.cut_switches.new.cutter x x) c.cut_switches.result
    (λ last x. rule c.switch_count-count.result c.args.cutter.now c.cut_marks.new.cutter c.cut_switches.new.cutter x
    (c.switch_count-count.ensures ∙ ap switch_count c.left.ensures.left) (subst (λ (rows : List (PartKind × ℕ)). Tells (head_told rows) true c.args.cutter.now c.cut_marks.new.cutter x x) c.as_slice.ensures (c.in_ok-cut_marks.ensures.told x)) (last x)) c.cut_switches.ensures.told

use Rattle.std.proofs.Common.{ℕ, List, true, subst, ap, ◌∙◌}
use Rattle.message_parts.specs.declared.part.PartKind.{PartKind}
use Rattle.message_parts.specs.Added.{Tells, TellsAll}
use Rattle.message_parts.specs.AtRest.{journal_rows, count_at, each_told, entry_told, has_rule, stray_told, journal_told, head_told}
use Rattle.message_parts.proofs.AtRest.{on_ok, journal}
use Rattle.message_parts.proofs.journals.cut_journal.Goals as goal

pub returns-clause-told : goal.returns-clause-told
unfolding journal_rows
returns-clause-told c =
    on_ok (TellsAll (each_told entry_told c.count_at-count.result stray_told) c.cut_ruled.new.cutter c.cut_entries.new.cutter c.args.carried.now.items c.cut_entries.new.carried.items)
    (TellsAll journal_told c.args.cutter.now c.cut_entries.new.cutter c.args.carried.now.items c.cut_entries.new.carried.items) c.cut_entries.result
    (journal c.count_at-count.result c.has_rule-ruled.result c.args.cutter.now c.cut_marks.new.cutter c.cut_ruled.new.cutter c.cut_entries.new.cutter
    c.args.carried.now.items c.cut_entries.new.carried.items
    (c.count_at-count.ensures ∙ ap (count_at 5) c.left.ensures.left) (c.has_rule-ruled.ensures ∙ ap has_rule c.left-2.ensures.left)
    (subst (λ (rows : List (PartKind × ℕ)). Tells (head_told rows) true c.args.cutter.now c.cut_marks.new.cutter c.args.carried.now.items c.args.carried.now.items) c.as_slice.ensures (c.in_ok-cut_marks.ensures.told c.args.carried.now.items)) (c.in_ok-cut_ruled.ensures.told c.args.carried.now.items)) c.cut_entries.ensures.told

use Rattle.std.proofs.Common.{map, sym, ◌∙◌}
use Rattle.log_audit.specs.Waits.{is_held, has_next}
use Rattle.log_audit.specs.WaitsSeen.{progress_seen}
use Rattle.log_audit.proofs.AnyAndAll.{any_seen, all_seen, both_hold, one_fails}
use Rattle.log_audit.proofs.judging.waiting.is_stuck.Goals as goal

pub returns-then-all_held : goal.returns-then-all_held
returns-then-all_held c =
    let lines = c.args.lines.now in
    both_hold _ _ c.any_next.result (sym (c.all_held.ensures ∙ all_seen progress_seen (is_held (map progress_seen lines)) lines) ∙ c.if-all_held.true) (c.any_next.ensures ∙ any_seen progress_seen has_next lines)

pub returns-else-all_held : goal.returns-else-all_held
returns-else-all_held c =
    let lines = c.args.lines.now in
    one_fails _ _ c.all_held.result c.if-all_held.false (sym (c.all_held.ensures ∙ all_seen progress_seen (is_held (map progress_seen lines)) lines) ∙ c.if-all_held.false)

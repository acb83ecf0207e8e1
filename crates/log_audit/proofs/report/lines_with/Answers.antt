use Rattle.std.proofs.Common.{◌++◌, List, [], ℕ, ap, ◌∙◌}
use Rattle.std.specs.Prelude.{codes}
use Rattle.input_text.proofs.Joining.{lists_join}
use Rattle.node_log.specs.LogSeen.{logs_seen}
use Rattle.log_audit.specs.Telling.{log_lines}
use Rattle.log_audit.proofs.report.lines_with.Goals as goal

pub returns : goal.returns
returns c =
    let audited = c.args.audited.now in
    let logs = log_lines (logs_seen audited.logs.items) audited.torn.items in
    let first = (rw (c.as_slice.ensures.value, c.as_slice-2.ensures.value) at c.in_ok-put_logs.ensures) ∙ ap (λ (t : List ℕ). t ++ logs) c.new-text.ensures.items in
    lists_join [] c.put_logs.new.text.items c.extend_from_slice-2.new.self.items logs (codes "no legal run\n" ++ c.args.why.now) first
    (lists_join c.put_logs.new.text.items c.extend_from_slice.new.self.items c.extend_from_slice-2.new.self.items (codes "no legal run\n") c.args.why.now
    c.in_ok-extend_from_slice.ensures.items c.in_ok-extend_from_slice-2.ensures.items)

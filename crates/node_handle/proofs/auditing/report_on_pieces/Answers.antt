use Rattle.std.proofs.Common.{map}
use Rattle.node_handle.proofs.Judging.{reported}
use Rattle.node_handle.proofs.auditing.report_on_pieces.Goals as goal

pub returns-in-Ok-clause-judged : goal.returns-in-Ok-clause-judged
returns-in-Ok-clause-judged c =
    reported c.args.settings.now (map (λ bytes. bytes.items) c.args.logs.items) c.args.style c.in-Ok.audited c.in-Ok.ensures.read c.in-Ok.ensures.named c.reported.result
    c.reported.ensures.judged c.reported.ensures.text

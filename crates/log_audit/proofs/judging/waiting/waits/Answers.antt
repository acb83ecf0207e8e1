use Rattle.std.proofs.Common.{ap, ◌∙◌}
use Rattle.std.specs.Prelude.{not}
use Rattle.world_setup.specs.Seen.{node_seen}
use Rattle.log_audit.specs.Waits.{sent_before}
use Rattle.log_audit.specs.WaitsSeen.{progress_seen}
use Rattle.log_audit.proofs.AnyAndAll.{any_seen}
use Rattle.log_audit.proofs.judging.waiting.waits.Goals as goal

pub returns-in-Take : goal.returns-in-Take
returns-in-Take c = rw c.in-Take.is (ap not (c.was_sent.ensures ∙ any_seen progress_seen (sent_before (node_seen c.in-Take.from) (node_seen c.args.node) c.in-Take.bytes) c.args.lines.now))

pub returns-in-Adjudicate : goal.returns-in-Adjudicate
returns-in-Adjudicate c = rw c.in-Adjudicate.is (ap not (c.was_sent-in-Adjudicate.ensures ∙ any_seen progress_seen (sent_before (node_seen c.in-Adjudicate.from) (node_seen c.args.node) c.in-Adjudicate.bytes) c.args.lines.now))

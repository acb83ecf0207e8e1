use Rattle.std.proofs.Common.{◌∙◌}
use Rattle.std.proofs.lemmas.Result.{on_ok_weaker}
use Rattle.input_text.proofs.Joining.{lists_join}
use Rattle.world_setup.specs.Seen.{node_seen}
use Rattle.log_audit.specs.Waits.{sent_ever}
use Rattle.log_audit.specs.WaitsSeen.{progress_seen}
use Rattle.log_audit.proofs.AnyAndAll.{any_seen}
use Rattle.log_audit.proofs.judging.waiting.put_taken.Goals as goal

pub returns : goal.returns
returns c = λ routes.
    let sent = c.is_sent.ensures ∙ any_seen progress_seen (sent_ever (node_seen c.args.from) (node_seen c.args.node) c.args.bytes.now) c.args.lines.now in
    let sender = rw sent at c.put_sender.ensures in
    on_ok_weaker c.put_sender.result
    (λ last. (lists_join c.args.line.now.items c.put_packet.new.line.items c.put_sender.new.line.items _ _ (rw c.as_slice.ensures at (c.in_ok-put_packet.ensures routes)) last))
    sender

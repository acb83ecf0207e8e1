use Rattle.std.proofs.Common.{◌∙◌}
use Rattle.world_setup.specs.Seen.{node_seen, sent_seen}
use Rattle.log_audit.specs.Waits.{is_packet}
use Rattle.log_audit.proofs.AnyAndAll.{any_seen}
use Rattle.log_audit.proofs.judging.waiting.is_among.Goals as goal

pub returns : goal.returns
returns c = c.is_any.ensures ∙ any_seen sent_seen (is_packet (node_seen c.args.to) c.args.bytes.now) c.args.sent.now

use Rattle.log_audit.proofs.Running.{one_more}
use Rattle.log_audit.proofs.tables.senders.note.Goals as goal

pub loop-preserved : goal.loop-preserved
loop-preserved c = one_more c.loop.senders.items c.push.new.self.items _ c.args.number _ c.loop.counter c.loop-test.true c.in_ok-push.ensures.items c.loop.invariant

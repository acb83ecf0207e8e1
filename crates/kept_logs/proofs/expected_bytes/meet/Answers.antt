use Rattle.std.proofs.Common.{arith}
use Rattle.kept_logs.proofs.Meeting.{differs, torn, whole}
use Rattle.kept_logs.proofs.expected_bytes.meet.Goals as goal

pub returns-then-ne : goal.returns-then-ne
returns-then-ne c = differs c.args.wanted.now c.args.bytes.now c.min-common.result c.ne.result (omega (arith, c.min-common.ensures)) (omega (arith, c.min-common.ensures)) c.ne.ensures c.if-ne.true

pub returns-then-common-wanted : goal.returns-then-common-wanted
returns-then-common-wanted c = torn c.args.wanted.now c.args.bytes.now c.min-common.result c.ne.result c.if-common-wanted.true (omega (arith, c.min-common.ensures, c.if-common-wanted.true)) c.ne.ensures c.if-ne.false

pub returns-else-common-wanted : goal.returns-else-common-wanted
returns-else-common-wanted c = whole c.args.wanted.now c.args.bytes.now c.min-common.result c.ne.result (omega (arith, c.min-common.ensures, c.if-common-wanted.false)) (omega (arith, c.min-common.ensures)) c.ne.ensures c.if-ne.false

use Rattle.std.proofs.Common.{append-nil, sym}
use Rattle.log_audit.specs.AloneSeen.{lone_seen}
use Rattle.log_audit.specs.Lones.{is_behind}
use Rattle.log_audit.proofs.AnyAndAll.{any_seen}
use Rattle.log_audit.proofs.alone.object.put_behind.Goals as goal

pub returns-then-some_behind : goal.returns-then-some_behind
returns-then-some_behind g c = rw (← any_seen lone_seen is_behind c.args.lones.now, ← c.some_behind.ensures, c.if-some_behind.true) c.put_behind_list.ensures

pub returns-else-some_behind : goal.returns-else-some_behind
returns-else-some_behind g c = rw (← any_seen lone_seen is_behind c.args.lones.now, ← c.some_behind.ensures, c.if-some_behind.false) (sym (append-nil c.args.out.now))

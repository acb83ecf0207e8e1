use Rattle.std.proofs.Common.{map, drop}
use Rattle.world_setup.specs.Seen.{sent_seen}
use Rattle.codec.proofs.Loops.{Puts}
use Rattle.kept_logs.specs.Records.{sent_codec}
use Rattle.kept_logs.proofs.records.put_sents.Given as goal

abbrev pub invariant-loop-one : goal.invariant-loop-one
invariant-loop-one l = Puts sent_codec l.fn.out.items l.out.items (map sent_seen l.sent) (map sent_seen (drop l.one-index l.sent))

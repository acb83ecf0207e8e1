use Rattle.std.proofs.Common.{◌≡◌, ◌-◌, ◌≤◌, map}
use Rattle.world_setup.specs.Seen.{sent_seen}
use Rattle.codec.specs.Codecs.{times}
use Rattle.codec.proofs.Loops.{after}
use Rattle.kept_logs.specs.Records.{sent_codec}
use Rattle.kept_logs.proofs.records.take_sents.Given as goal

-- what was taken and then what is left is all
abbrev pub invariant-loop : goal.invariant-loop
invariant-loop l = record {
  in_count : l.counter ≤ l.fn.count;
  same : times sent_codec l.fn.count l.fn.bytes ≡ after (map sent_seen l.all.items) (times sent_codec (l.fn.count - l.counter) l.rest);
}

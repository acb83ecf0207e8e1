use Rattle.std.proofs.Common.{◌≡◌, ◌-◌, ◌≤◌}
use Rattle.codec.specs.Codecs.{times}
use Rattle.codec.proofs.Loops.{after}
use Rattle.kept_logs.specs.Rests.{reference_codec}
use Rattle.kept_logs.proofs.referring.take_each.Given as goal

-- what was taken and then what is left is all
abbrev pub invariant-loop : goal.invariant-loop
invariant-loop l = record {
  in_count : l.counter ≤ l.fn.count;
  same : times reference_codec l.fn.count l.fn.bytes ≡ after l.all.items (times reference_codec (l.fn.count - l.counter) l.rest);
}

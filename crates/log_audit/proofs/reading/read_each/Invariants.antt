use Rattle.std.proofs.Common.{◌≡◌, ◌++◌, length, map}
use Rattle.std.specs.Vec.Iter.{into_iter_items, into_iter_len}
use Rattle.node_log.specs.LogSeen.{logs_seen}
use Rattle.log_audit.specs.Given.{AreLogs, Given, given_of, read_given, rests_seen, torn_given, turned_given}
use Rattle.log_audit.proofs.reading.read_each.Given as goal

-- what was handed in so far is the logs so far, with their torn ends and what they begin with
abbrev pub invariant-loop-given : goal.invariant-loop-given
invariant-loop-given l = record {
  all : l.yielded ++ into_iter_items l.given-iterator ≡ into_iter_items l.initial.given-iterator;
  left : into_iter_len l.given-iterator ≡ length (into_iter_items l.given-iterator);
  logs : AreLogs (read_given (turned_given l.digests)) (given_of l.yielded) (logs_seen l.read.logs.items);
  torn : l.read.torn.items ≡ map (torn_given (turned_given l.digests)) (given_of l.yielded);
  rests : rests_seen l.rests.items ≡ map (λ (g : Given). g.rest) (given_of l.yielded);
}

use Rattle.std.proofs.Common.{◌≡◌, ◌++◌, length, map}
use Rattle.std.specs.List.{AllByRecursion}
use Rattle.std.specs.Vec.Iter.{into_iter_items, into_iter_len}
use Rattle.node_log.specs.LogSeen.{logs_seen}
use Rattle.switch_logs.specs.MadeLogs.{FitsUnder, log_of}
use Rattle.switch_logs.proofs.unlogged.Unlogged.into_logs.Given as goal

-- the logs of the switches so far, which fit them
abbrev pub invariant-loop-switch : goal.invariant-loop-switch
invariant-loop-switch l = record {
  all : l.yielded ++ into_iter_items l.switch-iterator ≡ into_iter_items l.initial.switch-iterator;
  left : into_iter_len l.switch-iterator ≡ length (into_iter_items l.switch-iterator);
  logs : logs_seen l.logs.items ≡ map log_of l.yielded;
  fit : AllByRecursion FitsUnder l.yielded;
}

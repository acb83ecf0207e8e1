use Rattle.std.proofs.Common.{◌≡◌, ◌++◌, length}
use Rattle.std.specs.Vec.Iter.{into_iter_items, into_iter_len}
use Rattle.log_audit.specs.Given.{bytes_of, given_of, opened}
use Rattle.log_audit.proofs.reading.opened.Given as goal

-- the logs so far, and then those that are left
abbrev pub invariant-loop-log : goal.invariant-loop-log
invariant-loop-log l = record {
  all : given_of l.given.items ++ opened (bytes_of (into_iter_items l.log-iterator)) ≡ opened (bytes_of (into_iter_items l.initial.log-iterator));
  left : into_iter_len l.log-iterator ≡ length (into_iter_items l.log-iterator);
}

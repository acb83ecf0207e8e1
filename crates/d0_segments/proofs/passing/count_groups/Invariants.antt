use Rattle.std.proofs.Common.{◌≡◌, ◌+◌, ◌≤◌, true, length}
use Rattle.d0_segments.specs.Separators.{ends_here}
use Rattle.d0_segments.specs.Faults.{count_groups}
use Rattle.d0_segments.specs.Taking.{fault_in}
use Rattle.d0_segments.proofs.passing.count_groups.Given as goal

abbrev pub invariant-loop-rest : goal.invariant-loop-rest
invariant-loop-rest l = record {
  fault : fault_in l.fn.from ≡ fault_in l.rest;
  count : count_groups l.fn.from.bytes.now ≡ l.found + count_groups l.rest.bytes.now;
  ends : ends_here l.rest.bytes.now ≡ true;
  short : l.found + length l.rest.bytes.now ≤ length l.fn.from.bytes.now;
}

abbrev pub decreases-loop-rest : goal.decreases-loop-rest
decreases-loop-rest l = length l.rest.bytes.now

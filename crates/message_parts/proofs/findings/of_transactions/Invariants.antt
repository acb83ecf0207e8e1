use Rattle.std.proofs.Common.{◌≡◌, ◌≤◌, ◌+◌, ◌-◌, ◌++◌, length, drop}
use Rattle.d0_segments.specs.Pieces.{shared_of, groups_of}
use Rattle.message_parts.specs.Findings.{findings_seen, order_findings}
use Rattle.message_parts.proofs.findings.of_transactions.Given as goal

-- what is found, and then what is left, is all
abbrev pub invariant-loop-place : goal.invariant-loop-place
invariant-loop-place l = record {
  within : l.place ≤ length (groups_of l.framed.body.bytes.now);
  all : findings_seen l.findings.items ++ order_findings l.framed.header (shared_of l.framed.body.bytes.now) (l.place + 1) (drop l.place (groups_of l.framed.body.bytes.now))
      ≡ order_findings l.framed.header (shared_of l.framed.body.bytes.now) 1 (groups_of l.framed.body.bytes.now);
}

abbrev pub decreases-loop-place : goal.decreases-loop-place
decreases-loop-place l = l.count - l.place

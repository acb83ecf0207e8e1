use Rattle.std.proofs.Common.{◌≡◌, ◌+◌, ◌≤◌, drop}
use Rattle.world_core.specs.Parts.{context_of}
use Rattle.log_audit.specs.Ledger.{count_standing}
use Rattle.log_audit.proofs.report.ledger.standing_of.Given as goal

-- those so far, and those of the payments that are left; at most as many as were passed
abbrev pub invariant-loop-payment : goal.invariant-loop-payment
invariant-loop-payment l = record {
  all : l.count + count_standing (context_of l.world) l.world.world (drop l.payment-index l.paid) ≡ count_standing (context_of l.world) l.world.world l.paid;
  few : l.count ≤ l.payment-index;
}

use Rattle.std.proofs.Common.{◌≡◌, ◌++◌, drop}
use Rattle.log_audit.specs.Alone.{ticks_after, submitted_at}
use Rattle.log_audit.proofs.alone.ages.Ages.of.Given as goal

-- the counts so far, and then those of the calls that are left
abbrev pub invariant-loop-one : goal.invariant-loop-one
invariant-loop-one l = record {
  at : l.ages.at.items ++ submitted_at l.ages.ticks (drop l.one-index l.records) ≡ submitted_at 0 l.records;
  ticks : ticks_after l.ages.ticks (drop l.one-index l.records) ≡ ticks_after 0 l.records;
}

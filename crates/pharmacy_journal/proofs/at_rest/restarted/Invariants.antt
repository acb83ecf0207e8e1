use Rattle.std.proofs.Common.{◌≡◌, ◌-◌, ◌<◌, map, take}
use Rattle.pharmacy_journal.specs.Retry.{phases_of}
use Rattle.pharmacy_journal.specs.Settings.{rule_of}
use Rattle.pharmacy_journal.specs.Resting.{restarted_phase}
use Rattle.pharmacy_journal.proofs.at_rest.restarted.Given as goal

abbrev pub invariant-loop-slot : goal.invariant-loop-slot
invariant-loop-slot l = record {
  timetable : l.timetable ≡ record { rule = rule_of l.rule; phases = map (restarted_phase (rule_of l.rule)) (take l.slot-index l.slots) };
  phase : l.phase ≡ phases_of (rule_of l.rule) - l.rule.again;
  on_circle : l.phase < phases_of (rule_of l.rule);
}

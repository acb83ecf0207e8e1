use Rattle.std.proofs.Common.{◌≡◌, length}
use Rattle.schedule.specs.Faults.{actions_in}
use Rattle.schedule.proofs.Commas.{before}
use Rattle.schedule.proofs.link_faults.actions_in.Given as goal

-- the actions so far, and then those of what is left
abbrev pub invariant-loop-word : goal.invariant-loop-word
invariant-loop-word l = actions_in l.text ≡ before l.actions (actions_in l.rest)

abbrev pub decreases-loop-word : goal.decreases-loop-word
decreases-loop-word l = length l.rest

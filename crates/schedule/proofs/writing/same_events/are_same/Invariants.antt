use Rattle.std.proofs.Common.{◌≡◌, take}
use Rattle.schedule.proofs.writing.same_events.are_same.Given as goal

-- what was compared is the same
abbrev pub invariant-loop-place : goal.invariant-loop-place
invariant-loop-place l = take l.place l.events ≡ take l.place l.others

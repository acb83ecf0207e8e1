use Rattle.std.proofs.Common.{take}
use Rattle.growing_logs.specs.Judging.{AreJudged}
use Rattle.growing_logs.proofs.judging.judge_all.Given as goal

-- those before this place were judged
abbrev pub invariant-loop-place : goal.invariant-loop-place
invariant-loop-place g l = AreJudged l.grown l.old l.new (take l.place l.names) (g.L.Logs.found l.logs) l.fates.items l.lines.items

use Rattle.std.proofs.Common.{◌≡◌, ◌++◌, drop}
use Rattle.claim_reports.specs.Rulings.{moves_before}
use Rattle.claim_reports.specs.RulingsSeen.{lines_seen}
use Rattle.claim_reports.proofs.rulings.moves_before.Given as goal

-- what those so far moved, and then those that are left
abbrev pub invariant-loop-line : goal.invariant-loop-line
invariant-loop-line l = l.moves.items ++ moves_before l.after (lines_seen (drop l.line-index l.lines)) ≡ moves_before l.after (lines_seen l.lines)

use Rattle.std.proofs.Common.{◌≡◌, ◌++◌, drop, map}
use Rattle.claim_reports.specs.Rulings.{Ruling}
use Rattle.claim_reports.specs.RulingsSeen.{lines_seen}
use Rattle.claim_reports.proofs.rulings.moves_of.Given as goal

-- what those so far move, and then those that are left
abbrev pub invariant-loop-line : goal.invariant-loop-line
invariant-loop-line l = l.moves.items ++ map (λ (r : Ruling). r.moves) (lines_seen (drop l.line-index l.lines)) ≡ map (λ (r : Ruling). r.moves) (lines_seen l.lines)

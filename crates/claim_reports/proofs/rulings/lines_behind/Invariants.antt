use Rattle.std.proofs.Common.{◌≡◌, ◌++◌, drop}
use Rattle.claim_reports.specs.Rulings.{placed_behind, rulings_behind}
use Rattle.claim_reports.specs.RulingsSeen.{lines_placed, lines_seen}
use Rattle.claim_reports.proofs.rulings.lines_behind.Given as goal

-- those so far, and then those of the rulings that are left
abbrev pub invariant-loop-line : goal.invariant-loop-line
invariant-loop-line l = record {
  read : lines_seen l.behind.items ++ rulings_behind l.after (lines_seen (drop l.line-index l.lines)) ≡ rulings_behind l.after (lines_seen l.lines);
  placed : lines_placed l.behind.items ++ placed_behind l.after (lines_placed (drop l.line-index l.lines)) ≡ placed_behind l.after (lines_placed l.lines);
}

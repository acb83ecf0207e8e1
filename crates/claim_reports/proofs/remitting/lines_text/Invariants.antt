use Rattle.std.proofs.Common.{◌≡◌, ◌+◌, drop, length, map, take}
use Rattle.std.specs.Prelude.{codes}
use Rattle.table_text.specs.Rows.{head_text}
use Rattle.claim_reports.specs.Remitted.{lines_cause}
use Rattle.claim_reports.specs.Rulings.{Ruling}
use Rattle.claim_reports.specs.RulingsSeen.{lines_placed, lines_seen}
use Rattle.claim_reports.specs.Statement.{line_names}
use Rattle.claim_reports.proofs.Remittances.{LinesSoFar}
use Rattle.claim_reports.proofs.WrongLines.{moved_by}
use Rattle.claim_reports.proofs.remitting.lines_text.Given as goal

-- the lines so far, and a ledger after their rulings, of which none is wrong
abbrev pub invariant-loop-line : goal.invariant-loop-line
invariant-loop-line l = record {
  lines :
      LinesSoFar l.columns l.asked l.before (map (λ (r : Ruling). r.moves) (lines_seen (take l.line-index l.lines))) (lines_seen l.lines) (lines_seen (drop l.line-index l.lines)) (head_text (line_names (codes "ruling"))) l.out.items l.ledger;
  number : l.passed ≡ length l.before + l.line-index;
  good :
      lines_cause l.columns l.before (length l.before + 1) (lines_placed l.lines)
      ≡ lines_cause l.columns (moved_by l.before l.line-index l.lines) (length l.before + l.line-index + 1) (lines_placed (drop l.line-index l.lines));
}

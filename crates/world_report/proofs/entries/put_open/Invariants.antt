use Rattle.std.proofs.Common.{◌≡◌, ◌+◌, ◌-◌, ◌++◌, ◌∷◌, [], replicate}
use Rattle.std.specs.Prelude.{decimal, codes}
use Rattle.world_report.specs.Words.{lines_text}
use Rattle.world_report.specs.Places.{place_lines}
use Rattle.world_report.proofs.entries.put_open.Given as goal

-- the lines so far, and then those of the places that are left
abbrev pub invariant-loop-passed : goal.invariant-loop-passed
invariant-loop-passed l =
    l.out.items ++ lines_text (place_lines (decimal l.number) l.count l.code (l.passed + 1) (replicate (l.count - l.passed) (codes "open" ∷ [])))
    ≡ l.initial.out.items ++ lines_text (place_lines (decimal l.number) l.count l.code 1 (replicate l.count (codes "open" ∷ [])))

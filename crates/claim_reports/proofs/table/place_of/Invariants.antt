use Rattle.std.proofs.Common.{◌≡◌, ℕ, List, drop}
use Rattle.std.specs.Prelude.{bytes_eq}
use Rattle.std.specs.List.{position_from}
use Rattle.csv.specs.Records.{fields_of}
use Rattle.claim_reports.proofs.table.place_of.Given as goal

-- it is the first of those that are left, if of any
abbrev pub invariant-loop-place : goal.invariant-loop-place
invariant-loop-place l =
    position_from (λ (field : List ℕ). bytes_eq field l.name) 0 (fields_of l.names)
    ≡ position_from (λ (field : List ℕ). bytes_eq field l.name) l.place (drop l.place (fields_of l.names))

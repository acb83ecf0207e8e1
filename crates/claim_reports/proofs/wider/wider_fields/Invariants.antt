use Rattle.std.proofs.Common.{◌≡◌, map, take}
use Rattle.csv.specs.Records.{fields_of}
use Rattle.claim_reports.proofs.wider.wider_fields.Given as goal

-- the fields so far
abbrev pub invariant-loop-place : goal.invariant-loop-place
invariant-loop-place l = map (λ f. f.now) l.fields.items ≡ take l.place (fields_of l.row)

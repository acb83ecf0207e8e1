use Rattle.std.proofs.Common.{◌≡◌, ◌++◌, drop}
use Rattle.std.specs.List.{flat_map}
use Rattle.claim_reports.specs.Digits.{part_text}
use Rattle.claim_reports.proofs.clock.parts_text.Given as goal

-- the texts so far, and then those of the parts that are left
abbrev pub invariant-loop-part : goal.invariant-loop-part
invariant-loop-part l = l.text.items ++ flat_map part_text (drop l.part-index l.parts) ≡ flat_map part_text l.parts

use Rattle.std.proofs.Common.{◌≡◌, ◌++◌, drop}
use Rattle.std.specs.List.{flat_map}
use Rattle.claim_reports.specs.Shelves.{behind_comma}
use Rattle.claim_reports.proofs.books.put_behind.Given as goal

-- the texts so far, and then those that are left
abbrev pub invariant-loop-span : goal.invariant-loop-span
invariant-loop-span l = l.out.items ++ flat_map behind_comma (drop l.span-index l.spans) ≡ l.initial.out.items ++ flat_map behind_comma l.spans

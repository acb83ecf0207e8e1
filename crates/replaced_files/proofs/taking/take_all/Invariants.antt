use Rattle.std.proofs.Common.{◌≡◌}
use Rattle.replaced_files.specs.Plans.{all_taken}
use Rattle.replaced_files.proofs.taking.take_all.Given as goal

-- those before this place were taken
abbrev pub invariant-loop-place : goal.invariant-loop-place
invariant-loop-place g l = g.F.Files.deeds l.files ≡ all_taken l.place (g.F.Files.deeds l.fn.files)

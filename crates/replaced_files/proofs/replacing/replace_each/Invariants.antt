use Rattle.replaced_files.proofs.Each.{IsBehind}
use Rattle.replaced_files.proofs.replacing.replace_each.Given as goal

-- those before this place were replaced
abbrev pub invariant-loop-place : goal.invariant-loop-place
invariant-loop-place g l = IsBehind l.fates l.place (g.F.Files.deeds l.fn.files) (g.F.Files.deeds l.files)

use Rattle.std.proofs.Common.{◌≡◌, ◌++◌, take, map}
use Rattle.log_folder.specs.declared.telling.Line.TheVariants.{Undamaged}
use Rattle.log_folder.proofs.repairing.put_runs.Given as goal

abbrev pub invariant-loop-run : goal.invariant-loop-run
invariant-loop-run l = l.told.items ≡ l.fn.told.items ++ map Undamaged (take l.run-index l.runs)

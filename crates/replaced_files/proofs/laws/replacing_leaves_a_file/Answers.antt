-- The old or the new, at each moment of the plan.
use Rattle.replaced_files.proofs.Dying.{one_or_the_other}
use Rattle.replaced_files.proofs.laws.replacing_leaves_a_file.Goals as goal

pub returns : goal.returns
returns c = one_or_the_other

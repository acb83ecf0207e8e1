use Rattle.table_text.proofs.Separating.{separated_lists}
use Rattle.table_text.proofs.laws.lists_are_separated.Goals as goal

pub returns : goal.returns
returns c = separated_lists

use Rattle.claim_model.proofs.GoingOn.{run_append}
use Rattle.world_core.proofs.laws.runs_add_up.Goals as goal

pub returns : goal.returns
returns c = run_append

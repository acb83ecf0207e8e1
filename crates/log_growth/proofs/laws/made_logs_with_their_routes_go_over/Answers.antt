-- The log is made under the new settings.
use Rattle.log_growth.proofs.MadeOver.{never_refused_with_routes}
use Rattle.log_growth.proofs.laws.made_logs_with_their_routes_go_over.Goals as goal

pub returns : goal.returns
returns c = never_refused_with_routes

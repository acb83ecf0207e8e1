-- Logs and how many of their calls were made, as the model sees them.
use Rattle.node_log.specs.LogSeen.{log_seen}
use Rattle.log_audit.specs.Waits as seen
use Rattle.log_audit.specs.declared.judging.waiting.Progress.{Progress}

abbrev pub progress_seen : Progress → seen.Progress
progress_seen p = record { log = log_seen p.log.now; made = p.made }

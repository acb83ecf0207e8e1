use Rattle.std.proofs.Common.{◌≡◌, ◌++◌, drop, map}
use Rattle.node_log.specs.LogSeen.{logs_seen}
use Rattle.claimdump.specs.Files.{file_seen, log_file}
use Rattle.claimdump.proofs.putting.put_log_files.Given as goal

-- the files so far, and then those of the logs that are left
abbrev pub invariant-loop-log : goal.invariant-loop-log
invariant-loop-log l = map file_seen l.files.items ++ map (log_file l.digest) (logs_seen (drop l.log-index l.logs)) ≡ map file_seen l.initial.files.items ++ map (log_file l.digest) (logs_seen l.logs)

use Rattle.std.proofs.Common.{◌≡◌, ℕ, ◌<◌, ◌≤◌, None}
use Rattle.kept_logs.specs.Digests.{version_seen}
use Rattle.log_folder.specs.Undamaged.{behind_record}
use Rattle.log_folder.proofs.undamaged.run_at.Given as goal

abbrev pub invariant-loop-number : goal.invariant-loop-number
invariant-loop-number l = (number : ℕ) → l.wanted ≤ number → number < l.number → behind_record (version_seen l.version) number l.rest ≡ None

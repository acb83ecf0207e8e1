use Rattle.std.proofs.Common.{◌≡◌, ◌+◌, ◌-◌, length}
use Rattle.kept_logs.specs.Digests.{version_seen}
use Rattle.kept_logs.specs.Logs.{behind, calls_in}
use Rattle.kept_logs.proofs.kept.read_records.Given as goal

-- what was read and then what is left is all
abbrev pub invariant-loop-place : goal.invariant-loop-place
invariant-loop-place l =
    calls_in (version_seen l.fn.version) l.fn.total 1 (length l.bytes) l.bytes ≡ behind l.calls.items (calls_in (version_seen l.fn.version) l.fn.total (l.place + 1) (length l.bytes - l.place) l.rest)

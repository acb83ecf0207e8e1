use Rattle.std.proofs.Common.{◌+◌, map, drop}
use Rattle.kept_logs.specs.Digests.{version_seen}
use Rattle.kept_logs.specs.Stamps.{plain}
use Rattle.kept_logs.proofs.Loops.{PutsCalls}
use Rattle.kept_logs.proofs.logs.put_records.Given as goal

abbrev pub invariant-loop-place : goal.invariant-loop-place
invariant-loop-place l = PutsCalls (version_seen l.fn.version) l.fn.text.items l.text.items (map plain l.records) (l.place + 1) (map plain (drop l.place l.records))

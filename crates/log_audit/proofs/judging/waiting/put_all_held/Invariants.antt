use Rattle.std.proofs.Common.{◌≡◌, ◌++◌, drop, map}
use Rattle.std.specs.List.{flat_map}
use Rattle.bin_routes.specs.Table.{RouteMaps}
use Rattle.claim_model.specs.Bytes.{bytes_with}
use Rattle.log_audit.specs.Sentences.{told_lines}
use Rattle.log_audit.specs.Waits.{held_lines}
use Rattle.log_audit.specs.WaitsSeen.{progress_seen}
use Rattle.log_audit.proofs.judging.waiting.put_all_held.Given as goal

-- the lines so far, and then those on the logs that are left
abbrev pub invariant-loop-line : goal.invariant-loop-line
invariant-loop-line l =
    (routes : RouteMaps) → l.out.items ++ told_lines l.manner (flat_map (held_lines (bytes_with routes) (map progress_seen l.lines)) (map progress_seen (drop l.line-index l.lines)))
    ≡ l.initial.out.items ++ told_lines l.manner (flat_map (held_lines (bytes_with routes) (map progress_seen l.lines)) (map progress_seen l.lines))

use Rattle.std.proofs.Common.{◌≡◌, ◌++◌, drop}
use Rattle.std.specs.List.{flat_map}
use Rattle.bin_routes.specs.Table.{RouteMaps}
use Rattle.claim_model.specs.Bytes.{bytes_with}
use Rattle.log_audit.specs.AloneSeen.{lones_seen}
use Rattle.log_audit.specs.LoneTelling.{lone_text}
use Rattle.log_audit.proofs.alone.lines.put_lones.Given as goal

-- the lines so far, and then those of the logs that are left
abbrev pub invariant-loop-lone : goal.invariant-loop-lone
invariant-loop-lone l =
    (routes : RouteMaps) → l.out.items ++ flat_map (lone_text (bytes_with routes) l.pharmacies) (lones_seen (drop l.lone-index l.lones))
    ≡ l.initial.out.items ++ flat_map (lone_text (bytes_with routes) l.pharmacies) (lones_seen l.lones)

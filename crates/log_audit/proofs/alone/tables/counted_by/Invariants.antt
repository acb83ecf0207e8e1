use Rattle.std.proofs.Common.{◌≡◌, ◌||◌, drop}
use Rattle.std.specs.List.{flat_map}
use Rattle.bin_routes.specs.Table.{RouteMaps}
use Rattle.claim_model.specs.Words.{Auth}
use Rattle.claim_model.specs.Bytes.{bytes_with}
use Rattle.pharmacy_journal.specs.Counting.{has_auth}
use Rattle.log_audit.specs.AloneSeen.{lones_seen}
use Rattle.log_audit.specs.Lones.{counted_in, is_counted}
use Rattle.log_audit.specs.Tables.{names_auth}
use Rattle.log_audit.proofs.alone.tables.counted_by.Given as goal

-- the authorizations so far and those of the logs that are left are all
abbrev pub invariant-loop-lone : goal.invariant-loop-lone
invariant-loop-lone l =
    (routes : RouteMaps) (a : Auth) → (has_auth l.auths.keys a || names_auth (flat_map (counted_in (bytes_with routes)) (lones_seen (drop l.lone-index l.lones))) a)
    ≡ is_counted (bytes_with routes) (lones_seen l.lones) a

use Rattle.std.proofs.Common.{◌≡◌, drop, length}
use Rattle.std.specs.List.{list_all}
use Rattle.node_log.specs.LogSeen.{logs_seen}
use Rattle.days_audit.specs.Lines.{is_party}
use Rattle.days_audit.proofs.naming.are_parties.Given as goal

abbrev pub invariant-loop-log : goal.invariant-loop-log
invariant-loop-log l =
    list_all (λ log. is_party (length l.settings.pharmacies.items) (length l.settings.payers.items) log.node) (logs_seen (drop l.log-index l.logs))
    ≡ list_all (λ log. is_party (length l.settings.pharmacies.items) (length l.settings.payers.items) log.node) (logs_seen l.logs)

use Rattle.std.proofs.Common.{◌≡◌, ◌+◌, ◌++◌, drop, map}
use Rattle.bin_routes.specs.Table.{RouteMaps}
use Rattle.claim_model.specs.Bytes.{bytes_with}
use Rattle.world_setup.specs.Seen.{packet_seen}
use Rattle.table_text.specs.Rows.{rows_text}
use Rattle.log_audit.specs.Payments.{told_from}
use Rattle.log_audit.specs.Packets.{packet_told}
use Rattle.log_audit.proofs.tables.packets.put_packets.Given as goal

-- the rows so far, and then those of the packets that are left
abbrev pub invariant-loop-place : goal.invariant-loop-place
invariant-loop-place g l =
    (routes : RouteMaps) → l.out ++ rows_text l.style (told_from (packet_told (bytes_with routes) l.senders) (l.place + 1) (map packet_seen (drop l.place l.packets)))
    ≡ l.initial.out ++ rows_text l.style (told_from (packet_told (bytes_with routes) l.senders) 1 (map packet_seen l.packets))

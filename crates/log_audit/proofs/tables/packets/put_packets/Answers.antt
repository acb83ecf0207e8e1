use Rattle.std.proofs.Common.{◌≡◌, ℕ, ◌+◌, List, map, refl, add-one}
use Rattle.std.specs.Prelude.{slice_get}
use Rattle.claim_model.specs.Bytes.{bytes_with}
use Rattle.claim_model.specs.Numbered.{numbered}
use Rattle.world_setup.specs.Seen.{packet_seen}
use Rattle.log_audit.specs.Packets.{packet_told}
use Rattle.log_audit.specs.Payments.{told_from}
use Rattle.log_audit.proofs.Pieces.{piece_put}
use Rattle.log_audit.proofs.Joining.{rows_go_on, rows_are_done}
use Rattle.log_audit.proofs.tables.packets.put_packets.Goals as goal

at_place : (senders : List ℕ) (place : ℕ) → slice_get senders place ≡ numbered senders (place + 1)
at_place senders place = rw (add-one place) refl

pub loop-place-preserved : goal.loop-place-preserved
loop-place-preserved g c = λ routes.
    rows_go_on c.args.style (λ packets. told_from (packet_told (bytes_with routes) c.args.senders.now) (c.loop-place.place + 1) (map packet_seen packets)) _ _ c.loop-place.out c.put.new.self _ c.args.packets.now c.loop-place.place c.index-packets-place.result
    c.loop-place-test.true c.index-packets-place.is refl (piece_put c.loop-place.out c.put.new.self c.clear.new.self.items c.put_sent.new.out.items c.as_slice.result.now _ c.clear.ensures.items (rw (c.sender_at.ensures, at_place c.args.senders.now c.loop-place.place) at c.in_ok-put_sent.ensures routes) c.as_slice.ensures.value c.in_ok-put.ensures) (c.loop-place.invariant routes)

pub returns : goal.returns
returns g c = λ routes.
    rows_are_done c.args.style (λ packets. told_from (packet_told (bytes_with routes) c.args.senders.now) (c.loop-place.place + 1) (map packet_seen packets)) c.loop-place.out _ c.args.packets.now c.loop-place.place c.loop-place-test.false refl (c.loop-place.invariant routes)

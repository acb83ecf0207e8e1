use Rattle.std.proofs.Common.{length}
use Rattle.world_setup.specs.Seen.{node_seen}
use Rattle.log_audit.specs.Kinds.{number_of}
use Rattle.log_audit.specs.Lones.{open_rows}
use Rattle.log_audit.proofs.Pieces.{piece_put}
use Rattle.log_audit.proofs.Joining.{blocks_go_on, blocks_are_done}
use Rattle.log_audit.proofs.alone.tables.put_open_entries.Goals as goal

pub loop-entry-preserved : goal.loop-entry-preserved
loop-entry-preserved g c =
    let told = open_rows (length c.args.entries.now) (number_of (node_seen c.args.log.now.node)) c.args.log.now.calls.items in
    blocks_go_on c.args.style told c.loop-entry.out c.put.new.self _ c.args.entries.now c.loop-entry.entry-index c.entry-item.result c.loop-entry-test.true c.entry-item.is
    (piece_put c.loop-entry.out c.put.new.self c.clear.new.self.items c.put_if_open.new.out.items c.as_slice.result.now _ c.clear.ensures.items (rw (c.number_of-number.ensures, c.node.ensures, c.age.ensures, c.entries_before-before.ensures, c.number.ensures, c.in_ok-ages.ensures.at, c.in_ok-ages.ensures.ticks, c.records.ensures) at c.in_ok-put_if_open.ensures) c.as_slice.ensures.value c.in_ok-put.ensures)
    c.loop-entry.invariant

pub returns : goal.returns
returns g c =
    blocks_are_done c.args.style (open_rows (length c.args.entries.now) (number_of (node_seen c.args.log.now.node)) c.args.log.now.calls.items) c.loop-entry.out _ c.args.entries.now c.loop-entry.entry-index c.loop-entry-test.false c.loop-entry.invariant

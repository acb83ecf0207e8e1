use Rattle.std.proofs.Common.{◌≡◌, refl}
use Rattle.log_audit.specs.Entries.{count_named, entry_rows}
use Rattle.log_audit.proofs.Pieces.{piece_put}
use Rattle.log_audit.proofs.Joining.{one_row, rows_go_on, rows_are_done}
use Rattle.log_audit.proofs.tables.entries.put_entries.Goals as goal

pub loop-entry-preserved : goal.loop-entry-preserved
loop-entry-preserved g c =
    let count : c.count_named.result ≡ count_named c.entry-item.result.rulings c.loop-entry.left.now = rw c.rulings.ensures at c.count_named.ensures.value in
    let filled = rw (c.split_at.ensures.front, count) at c.in_ok-put_entry.ensures in
    let one = piece_put c.loop-entry.out c.put.new.self c.clear.new.self.items c.put_entry.new.out.items c.as_slice.result.now _ c.clear.ensures.items filled c.as_slice.ensures.value c.in_ok-put.ensures in
    rw (c.split_at.ensures.back, count)
    (rows_go_on c.args.style (λ entries. entry_rows c.args.pharmacy entries c.loop-entry.left.now) _ _ c.loop-entry.out c.put.new.self _ c.args.entries.now c.loop-entry.entry-index c.entry-item.result
    c.loop-entry-test.true c.entry-item.is refl (one_row c.args.style c.loop-entry.out c.put.new.self _ one) c.loop-entry.invariant)

pub returns : goal.returns
returns g c = rows_are_done c.args.style (λ entries. entry_rows c.args.pharmacy entries c.loop-entry.left.now) c.loop-entry.out _ c.args.entries.now c.loop-entry.entry-index c.loop-entry-test.false refl c.loop-entry.invariant

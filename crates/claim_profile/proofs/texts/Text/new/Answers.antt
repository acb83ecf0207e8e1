use Rattle.std.proofs.Common.{arith, ◌≤◌, length}
use Rattle.claim_profile.proofs.Room.{length-in_room, drop-in_room}
use Rattle.claim_profile.proofs.texts.Text.new.Goals as goal

pub invariant_of-result : goal.invariant_of-result
invariant_of-result g c =
    let fits : length c.args.bytes.now ≤ g.row.N = omega arith in
    rw c.copy_from_slice.ensures.after (fits, length-in_room g.row.N 0 c.args.bytes.now fits, drop-in_room g.row.N 0 c.args.bytes.now)

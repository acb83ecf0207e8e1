-- At first all keys are left, and each request takes one step.
use Rattle.std.proofs.Common.{◌∙◌}
use Rattle.rejected_rows.specs.Keys.{keys_in}
use Rattle.rejected_rows.proofs.EachOnce.{next_request, none_yet}
use Rattle.rejected_rows.proofs.keys.keys_of.Goals as goal

pub loop-key-init : goal.loop-key-init
loop-key-init c = rw c.new-keys.ensures.items (none_yet (keys_in c.args.rejected.now))

pub loop-key-preserved : goal.loop-key-preserved
loop-key-preserved c =
    rw c.in_ok-put_key.ensures
    (next_request c.loop-key.keys.items c.args.rejected.now c.loop-key.key-index c.loop-key-item.result c.loop-key-test.true c.loop-key-item.is ∙ c.loop-key.invariant)

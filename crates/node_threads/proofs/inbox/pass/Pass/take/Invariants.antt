use Rattle.std.proofs.Common.{◌≡◌}
use Rattle.crossbeam_channel.specs.Claims.{view, IsSeatAt}
use Rattle.crossbeam_channel.specs.Ends.{sends_on, receives_on}
use Rattle.node_threads.proofs.inbox.pass.Pass.take.Given as goal

abbrev pub invariant-loop : goal.invariant-loop
invariant-loop g l = (view l.self-inside.seat ≡ l.fn.self) × IsSeatAt (sends_on l.self-inside.sender) l.self-inside.seat × (receives_on l.self-inside.receiver ≡ sends_on l.self-inside.sender)

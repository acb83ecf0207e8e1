-- A node and a call that is asked of it, its texts lent.
use Rattle.std.specs.Prelude.{ℕ, List}
use Rattle.std.specs.Borrow.{Bor}
use Rattle.claim_model.specs.Nodes as model
use Rattle.world_setup.specs.declared.node.Node.{Node}
use Rattle.world_setup.specs.declared.call.Call.{Call}
use Rattle.world_setup.specs.Seen.{node_seen, lent_seen}

abbrev pub asked_of : Node × Call (Bor (List ℕ)) → model.Asked
asked_of x = record { node = node_seen x.0; call = lent_seen x.1 }

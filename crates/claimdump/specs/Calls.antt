-- A node and a call that is asked of it.
use Rattle.std.specs.Prelude.{ℕ, List, Option}
use Rattle.claim_model.specs.Node.{Pharmacy, Payer, Submit, Revise, OfPlan, OfRule}
use Rattle.claim_model.specs.Words.{SetPrice}
use Rattle.claim_model.specs.Node as model_node
use Rattle.claim_model.specs.Nodes as model
use Rattle.claim_model.specs.World as world
use Rattle.pharmacy_journal.specs.Ruling.{rule_in}
use Rattle.world_setup.specs.declared.node.Node.{Node}
use Rattle.world_setup.specs.declared.call.Call.{Call}
use Rattle.world_setup.specs.Seen.{node_seen, call_seen}

abbrev pub asked_of : Node × Call (List ℕ) → model.Asked
asked_of x = record { node = node_seen x.0; call = call_seen x.1 }

abbrev pub submitted : ℕ → List ℕ → model.Asked
submitted pharmacy text = record { node = Pharmacy pharmacy; call = Submit text }

abbrev pub priced : ℕ → List ℕ → Option ℕ → model.Asked
priced payer product price = record { node = Payer payer; call = Revise (OfPlan (SetPrice product price)) }

abbrev pub ruled : ℕ → List ℕ → ℕ → ℕ → model.Asked
ruled pharmacy nodes again tries = record { node = Pharmacy pharmacy; call = Revise (OfRule (rule_in nodes again tries)) }

-- a packet, as its node sent it
abbrev pub sent_as : world.Packet → model_node.Sent
sent_as p = record { to = p.to; bytes = p.bytes }

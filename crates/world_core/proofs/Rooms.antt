-- What a call sends fits the room that its event had.
use Rattle.std.proofs.Common.{ℕ, ◌≤◌, Option, Some, None, arith}
use Rattle.claim_model.specs.Numbered.{numbered}
use Rattle.claim_model.specs.Node.{Pharmacy, Switch, Payer, Call, Submit, Tick, Take, Stop, Start, Revise, Adjudicate}
use Rattle.world_core.specs.NodeLists.{NodeLists}
use Rattle.node_state.specs.Sends.{most_sent}
use Rattle.world_core.specs.Room.{most_of, room_asked}

one_at_most : {A : Type 0} (o : Option A) → most_of (λ _. 1) o ≤ 1
one_at_most None = omega arith
one_at_most (Some a) = omega arith

pub pharmacy_room : (nodes : NodeLists) (n : ℕ) (call : Call) → most_of (λ node. most_sent node call) (numbered nodes.pharmacies n) ≤ room_asked nodes (Pharmacy n) call
pharmacy_room nodes n (Submit text) = one_at_most (numbered nodes.pharmacies n)
pharmacy_room nodes n Tick = omega arith
pharmacy_room nodes n (Take from bytes) = one_at_most (numbered nodes.pharmacies n)
pharmacy_room nodes n Stop = one_at_most (numbered nodes.pharmacies n)
pharmacy_room nodes n Start = one_at_most (numbered nodes.pharmacies n)
pharmacy_room nodes n (Revise change) = one_at_most (numbered nodes.pharmacies n)
pharmacy_room nodes n (Adjudicate from bytes advice) = one_at_most (numbered nodes.pharmacies n)

pub switch_room : (nodes : NodeLists) (n : ℕ) (call : Call) → most_of (λ _. 1) (numbered nodes.switches n) ≤ room_asked nodes (Switch n) call
switch_room nodes n (Submit text) = one_at_most (numbered nodes.switches n)
switch_room nodes n Tick = one_at_most (numbered nodes.switches n)
switch_room nodes n (Take from bytes) = one_at_most (numbered nodes.switches n)
switch_room nodes n Stop = one_at_most (numbered nodes.switches n)
switch_room nodes n Start = one_at_most (numbered nodes.switches n)
switch_room nodes n (Revise change) = one_at_most (numbered nodes.switches n)
switch_room nodes n (Adjudicate from bytes advice) = one_at_most (numbered nodes.switches n)

pub payer_room : (nodes : NodeLists) (n : ℕ) (call : Call) → most_of (λ _. 1) (numbered nodes.payers n) ≤ room_asked nodes (Payer n) call
payer_room nodes n (Submit text) = one_at_most (numbered nodes.payers n)
payer_room nodes n Tick = one_at_most (numbered nodes.payers n)
payer_room nodes n (Take from bytes) = one_at_most (numbered nodes.payers n)
payer_room nodes n Stop = one_at_most (numbered nodes.payers n)
payer_room nodes n Start = one_at_most (numbered nodes.payers n)
payer_room nodes n (Revise change) = one_at_most (numbered nodes.payers n)
payer_room nodes n (Adjudicate from bytes advice) = one_at_most (numbered nodes.payers n)

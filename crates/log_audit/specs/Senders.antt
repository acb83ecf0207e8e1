-- Which event sent each packet of a run.
use Rattle.std.specs.Prelude.{ℕ, ◌+◌, ◌-◌, List, [], ◌∷◌, ◌++◌, length, replicate}
use Rattle.claim_model.specs.Context.{Context}
use Rattle.claim_model.specs.World.{World, Event, step, world_after}

-- the number of an event, for each packet that a world has more than before
abbrev pub sent_by : ℕ → World → World → List ℕ
sent_by number before after = replicate (length after.packets - length before.packets) number

-- for each packet that events send, the number of its event, from one on
abbrev pub senders_from : Context → World → ℕ → List Event → List ℕ
senders_from ctx w number [] = []
senders_from ctx w number (event ∷ events) =
    sent_by number w (world_after w (step ctx w event)) ++ senders_from ctx (world_after w (step ctx w event)) (number + 1) events

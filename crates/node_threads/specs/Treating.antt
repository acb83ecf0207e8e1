-- What a link does to its packets.
use Rattle.std.specs.Prelude.{◌≡◌, ◌⊎◌, List, [], ◌∷◌, ◌++◌, drop, Option, Some, None, option_to_list}
use Rattle.world_setup.specs.declared.call.Packet.{Packet}
use Rattle.world_setup.specs.declared.link.Action.{Action}
use Rattle.world_setup.specs.declared.link.Action.TheVariants.{Deliver, Lose, Twice, Hold}

-- the actions for the packets to come, and the packet that is held
pub record Treating : Type 0 where
  pub left : List Action
  pub kept : Option Packet

-- the next packet takes the first action that is left; past the list it arrives
abbrev pub next_action : List Action → Action
next_action [] = Deliver
next_action (action ∷ left) = action

-- what arrives of a packet at once
abbrev pub arriving : Action → Packet → List Packet
arriving Deliver packet = packet ∷ []
arriving Lose packet = []
arriving Twice packet = packet ∷ packet ∷ []
arriving Hold packet = []

-- what is held of a packet
abbrev pub held_back : Action → Packet → Option Packet
held_back Deliver packet = None
held_back Lose packet = None
held_back Twice packet = None
held_back Hold packet = Some packet

-- the link after a packet
abbrev pub after_packet : Treating → Packet → Treating
after_packet t packet = record { left = drop 1 t.left; kept = held_back (next_action t.left) packet }

-- what arrives when a packet is treated: what its action lets through, and then the packet that was held until now. Where memory for a
-- second copy is refused, the packet arrives once
abbrev pub Arrives : Treating → Packet → List Packet → Type 0
Arrives t packet all =
    (all ≡ arriving (next_action t.left) packet ++ option_to_list t.kept)
    ⊎ ((next_action t.left ≡ Twice) × (all ≡ packet ∷ option_to_list t.kept))

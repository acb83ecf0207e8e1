-- What the marks of a run tell of its packets and its deliveries.
use Rattle.std.specs.Prelude.{◌≡◌, ℕ, List, [], ◌∷◌, ◌++◌, map, filter_map, Option, Some, None}
use Rattle.claim_model.specs.Context.{Context}
use Rattle.claim_model.specs.Node.{Node, Outcome, Done, Refused}
use Rattle.claim_model.specs.Settings.{WorldSettings, opening}
use Rattle.claim_model.specs.World.{World, Packet, Event, Delivery, Submission, Ticking, Stopping, Starting, Revising, Adjudication, step, world_after, run}
use Rattle.run_picture.specs.Marks.{Mark, Submitted, Ticked, Arrived, Stopped, Started, Revised, Sent, Turned, marks_from}

-- who sent a packet to whom
abbrev pub Way : Type 0
Way = Node × Node

abbrev pub way : Packet → Way
way p = (p.from, p.to)

-- the packet that a mark tells as sent
abbrev pub sending : Mark → Option Way
sending (Sent event packet from to) = Some (from, to)
sending (Submitted event pharmacy) = None
sending (Ticked event pharmacy) = None
sending (Arrived event packet) = None
sending (Stopped event node) = None
sending (Started event node) = None
sending (Revised event node) = None
sending (Turned event name) = None

-- the number of the packet whose arrow ends at a mark
abbrev pub arrow : Mark → Option ℕ
arrow (Arrived event packet) = Some packet
arrow (Submitted event pharmacy) = None
arrow (Ticked event pharmacy) = None
arrow (Stopped event node) = None
arrow (Started event node) = None
arrow (Revised event node) = None
arrow (Sent event packet from to) = None
arrow (Turned event name) = None

-- the packet that an event delivered, with an advice or without, where it was made
abbrev pub delivered_by : Event → Outcome World → List ℕ
delivered_by (Delivery packet) (Done next sent) = packet ∷ []
delivered_by (Delivery packet) (Refused why) = []
delivered_by (Submission n text) o = []
delivered_by (Ticking n) o = []
delivered_by (Stopping node) o = []
delivered_by (Starting node) o = []
delivered_by (Revising n change) o = []
delivered_by (Adjudication packet advice) (Done next sent) = packet ∷ []
delivered_by (Adjudication packet advice) (Refused why) = []

-- the packets of the deliveries that a run makes, in order; one that is delivered twice stands there twice
abbrev pub deliveries : Context → World → List Event → List ℕ
deliveries ctx w [] = []
deliveries ctx w (event ∷ events) = delivered_by event (step ctx w event) ++ deliveries ctx (world_after w (step ctx w event)) events

-- the marks of a run tell each packet of the world once, in order, with its sender and its addressee
abbrev pub TellsEachPacket : Type 0
TellsEachPacket = (ctx : Context) (settings : WorldSettings) (events : List Event)
    → filter_map sending (marks_from ctx (opening settings) 1 events) ≡ map way (run ctx (opening settings) events).packets

-- the arrows of a run are the deliveries that it makes
abbrev pub ArrowsAreDeliveries : Type 0
ArrowsAreDeliveries = (ctx : Context) (w : World) (number : ℕ) (events : List Event) → filter_map arrow (marks_from ctx w number events) ≡ deliveries ctx w events

-- The packets of a run, each as a row.
use Rattle.std.specs.Prelude.{ℕ, List, [], ◌∷◌, codes, Option, Some, None, Result, Ok, Err}
use Rattle.claim_model.specs.Words.{Kind, Request, Response, Envelope, EnvelopeFault}
use Rattle.claim_model.specs.Context.{Context}
use Rattle.claim_model.specs.Numbered.{numbered}
use Rattle.claim_model.specs.World.{Packet}
use Rattle.table_text.specs.Members.{Row}
use Rattle.log_audit.specs.Kinds.{number_member, text_member, optional_member, node_member}
use Rattle.log_audit.specs.Payments.{told_from}
use Rattle.log_audit.specs.declared.tables.packets.Carried.{Carried}

-- what a packet carries: the word for its kind, and of which transaction it is
pub record Load : Type 0 where
  pub kind : List ℕ
  pub pharmacy : Option ℕ
  pub number : Option ℕ

abbrev pub carried_seen : Carried → Load
carried_seen c = record { kind = c.kind.now; pharmacy = c.pharmacy; number = c.number }

abbrev pub kind_word : Kind → List ℕ
kind_word Request = codes "request"
kind_word Response = codes "answer"

-- what an envelope carries; nothing, where the bytes are none
abbrev pub load_of : Result Envelope EnvelopeFault → Load
load_of (Ok e) = record { kind = kind_word e.kind; pharmacy = Some e.id.pharmacy; number = Some e.id.number }
load_of (Err fault) = record { kind = []; pharmacy = None; number = None }

-- the row of a packet with this load, by its number and by that of the event that sent it
unfoldable pub loaded_row : ℕ → ℕ → Packet → Load → Row
loaded_row number event p load =
    number_member (codes "packet") number ∷
    number_member (codes "event") event ∷
    node_member (codes "from") p.from ∷
    node_member (codes "to") p.to ∷
    text_member (codes "carries") load.kind ∷
    optional_member (codes "pharmacy") load.pharmacy ∷
    optional_member (codes "number") load.number ∷
    text_member (codes "bytes") p.bytes ∷ []

-- the row of a packet, by its number and by that of the event that sent it
abbrev pub packet_row : Context → ℕ → ℕ → Packet → Row
packet_row ctx number event p = loaded_row number event p (load_of (ctx.read_envelope p.bytes))

abbrev pub sent_row : Context → ℕ → Packet → Option ℕ → List Row
sent_row ctx number p None = []
sent_row ctx number p (Some event) = packet_row ctx number event p ∷ []

-- the row of a packet by its number, where the event that sent it is among these, in order of packets
abbrev pub packet_told : Context → List ℕ → ℕ → Packet → List Row
packet_told ctx senders number p = sent_row ctx number p (numbered senders number)

-- the rows of packets, each with the event that sent it
abbrev pub packet_rows : Context → List Packet → List ℕ → List Row
packet_rows ctx packets senders = told_from (packet_told ctx senders) 1 packets

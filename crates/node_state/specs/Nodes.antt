-- What is read of a node of any kind.
use Rattle.std.specs.Prelude.{ℕ, Bool, true, false, not, nat_eq, List, length, Option, None, Some, option_and_then, option_map}
use Rattle.claim_model.specs.Words.{TxnId}
use Rattle.claim_model.specs.Context.{Context}
use Rattle.claim_model.specs.Numbered.{numbered}
use Rattle.claim_model.specs.Journal.{PharmacySettings, Journal, JournalAtRest, Kept}
use Rattle.claim_model.specs.Table.{Table}
use Rattle.claim_model.specs.Rows.{Book}
use Rattle.claim_model.specs.Book.{row_of}
use Rattle.claim_model.specs.Node.{Power, Up, AtRest}
use Rattle.claim_model.specs.Held.{journal_in, book_in, held_in_table, row_answer}
pub use Rattle.claim_model.specs.Nodes.{AnyNode, OfPharmacy, OfSwitch, OfPayer, as_node, node_step, node_at}
use Rattle.claim_model.specs.Settings.{is_empty}
use Rattle.pharmacy_journal.specs.Idle.{is_idle}

-- how many entries a pharmacy has; 0 of another node
abbrev pub entries_of : AnyNode → ℕ
entries_of (OfPharmacy node) = length (journal_in node).entries
entries_of (OfSwitch node) = 0
entries_of (OfPayer node) = 0

-- how many slots the table of a switch has; a stopped one has none
abbrev pub slots_in : Power Table ℕ → ℕ
slots_in (Up t) = length t.entries
slots_in (AtRest cap) = 0

-- the cap of a switch, up or at rest; none of another node
abbrev pub cap_at : Power Table ℕ → ℕ
cap_at (Up t) = t.cap
cap_at (AtRest cap) = cap

abbrev pub switch_cap : AnyNode → Option ℕ
switch_cap (OfPharmacy node) = None
switch_cap (OfSwitch node) = Some (cap_at node)
switch_cap (OfPayer node) = None

-- how many entries a pharmacy's journal has, slots a switch's table, or rows a payer's book
abbrev pub size_of : AnyNode → ℕ
size_of (OfPharmacy node) = length (journal_in node).entries
size_of (OfSwitch node) = slots_in node
size_of (OfPayer node) = length (book_in node).rows

-- a pharmacy is up, and no entry of it is open
abbrev pub is_idle_pharmacy : Power Journal JournalAtRest → Bool
is_idle_pharmacy (Up j) = is_idle j
is_idle_pharmacy (AtRest j) = false

-- the same of any node: one at rest, a switch and a payer refuse a tick
abbrev pub is_idle_node : AnyNode → Bool
is_idle_node (OfPharmacy node) = is_idle_pharmacy node
is_idle_node (OfSwitch node) = false
is_idle_node (OfPayer node) = false

-- the book of a payer; none of another node
abbrev pub book_of : AnyNode → Option Book
book_of (OfPharmacy node) = None
book_of (OfSwitch node) = None
book_of (OfPayer node) = Some (book_in node)

-- the journal of a pharmacy; none of another node
abbrev pub journal_of : AnyNode → Option JournalAtRest
journal_of (OfPharmacy node) = Some (journal_in node)
journal_of (OfSwitch node) = None
journal_of (OfPayer node) = None

-- the request of this number in a journal
abbrev pub request_in : JournalAtRest → ℕ → Option (List ℕ)
request_in j number = option_map (λ (k : Kept). k.request) (numbered j.entries number)

-- the request of a pharmacy's entry; none of another node
abbrev pub request_of : AnyNode → ℕ → Option (List ℕ)
request_of (OfPharmacy node) number = request_in (journal_in node) number
request_of (OfSwitch node) number = None
request_of (OfPayer node) number = None

-- the answer that a journal holds for an id of its own
abbrev pub held_in_journal : TxnId → JournalAtRest → Option (List ℕ)
held_in_journal id j = elim (nat_eq j.number id.pharmacy) [ true ↦ option_and_then (λ (k : Kept). k.answer) (numbered j.entries id.number) | false ↦ None ]

-- the answer that a book holds for an id
abbrev pub held_in_book : Context → TxnId → Book → Option (List ℕ)
held_in_book ctx id b = option_and_then (row_answer ctx) (row_of id b.rows)

-- the answer that a node holds for an id: in its journal, for its own ids only, in its table or in its book
abbrev pub held_of : Context → AnyNode → TxnId → Option (List ℕ)
held_of ctx (OfPharmacy node) id = held_in_journal id (journal_in node)
held_of ctx (OfSwitch node) id = held_in_table id node
held_of ctx (OfPayer node) id = held_in_book ctx id (book_in node)

-- a pharmacy that tries some switch
abbrev pub has_node : PharmacySettings → Bool
has_node s = not (is_empty s.nodes)

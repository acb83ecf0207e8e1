-- What the nodes of a world hold for an id, and what was decided for it.
use Rattle.std.specs.Prelude.{ℕ, true, false, nat_eq, List, Option, Some, None, option_and_then, option_map}
use Rattle.claim_model.specs.Words.{TxnId, RequestHeader, ResponseHeader, Answer, Ruling}
use Rattle.claim_model.specs.Context.{Context}
use Rattle.claim_model.specs.Readable.{readable, payer_for, rejection, answer_text}
use Rattle.claim_model.specs.Rows.{Row, Book}
use Rattle.claim_model.specs.Book.{row_of}
use Rattle.claim_model.specs.Numbered.{numbered}
use Rattle.claim_model.specs.Journal.{Journal, JournalAtRest, Kept, stopped}
use Rattle.claim_model.specs.Table.{Table, slot_of}
use Rattle.claim_model.specs.Node.{Node, Pharmacy, Switch, Payer, Power, Up, AtRest}
use Rattle.claim_model.specs.World.{World}

-- a pharmacy's journal, up or at rest, without its phases
abbrev pub journal_in : Power Journal JournalAtRest → JournalAtRest
journal_in (Up j) = stopped j
journal_in (AtRest j) = j

-- a payer's book, up or at rest
abbrev pub book_in : Power Book Book → Book
book_in (Up b) = b
book_in (AtRest b) = b

abbrev pub journal_at : World → ℕ → Option JournalAtRest
journal_at w n = option_map journal_in (numbered w.pharmacies n)

abbrev pub book_at : World → ℕ → Option Book
book_at w n = option_map book_in (numbered w.payers n)

-- a pharmacy's entry of an id
abbrev pub entry_of : World → TxnId → Option Kept
entry_of w id = option_and_then (λ (j : JournalAtRest). numbered j.entries id.number) (journal_at w id.pharmacy)

-- the request of an id: what its pharmacy's journal has under its number
abbrev pub asked : World → TxnId → Option (List ℕ)
asked w id = option_map (λ (k : Kept). k.request) (entry_of w id)

-- the row of an id in a payer's book
abbrev pub row_at : World → ℕ → TxnId → Option Row
row_at w payer id = option_and_then (λ (b : Book). row_of id b.rows) (book_at w payer)

-- the answer of a row
abbrev pub row_answer : Context → Row → Option (List ℕ)
row_answer ctx row = option_map (λ h. answer_text ctx h row) (readable ctx row.request)

abbrev pub decided_by : Context → World → TxnId → RequestHeader → Option ℕ → Option (List ℕ)
decided_by ctx w id h None = Some (rejection ctx h)
decided_by ctx w id h (Some payer) = option_and_then (row_answer ctx) (row_at w payer id)

abbrev pub decided_for : Context → World → TxnId → Option RequestHeader → Option (List ℕ)
decided_for ctx w id None = None
decided_for ctx w id (Some h) = decided_by ctx w id h (payer_for ctx id h)

-- what was decided for an id: the answer of its row in the book of the payer to which its request is routed, or the fixed rejection
unfoldable pub decided : Context → World → TxnId → Option (List ℕ)
decided ctx w id = decided_for ctx w id (option_and_then (readable ctx) (asked w id))

abbrev pub held_in_table : TxnId → Power Table ℕ → Option (List ℕ)
held_in_table id (Up t) = option_and_then (λ slot. slot.answer) (slot_of id t.entries)
held_in_table id (AtRest cap) = None

abbrev pub held_by : Context → World → TxnId → Node → Option (List ℕ)
held_by ctx w id (Pharmacy n) = elim (nat_eq n id.pharmacy) [ true ↦ option_and_then (λ (k : Kept). k.answer) (entry_of w id) | false ↦ None ]
held_by ctx w id (Switch n) = option_and_then (held_in_table id) (numbered w.switches n)
held_by ctx w id (Payer n) = option_and_then (row_answer ctx) (row_at w n id)

-- the answer that a node holds for an id: in its journal, for its own ids only, in its table or in its book. A stopped switch holds none
unfoldable pub held : Context → World → Node → TxnId → Option (List ℕ)
held ctx w node id = held_by ctx w id node

-- the answer of one transaction, by its place from 1: the header, and the ruling of that group
abbrev pub held_place : Context → World → Node → TxnId → ℕ → Option (ResponseHeader × Ruling)
held_place ctx w node id place =
    option_and_then (λ (a : Answer). option_map (λ (r : Ruling). (a.header, r)) (numbered a.rulings place))
    (option_and_then ctx.read_answer (held ctx w node id))

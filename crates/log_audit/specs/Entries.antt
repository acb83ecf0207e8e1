-- The entries of a journal, each as a row.
use Rattle.std.specs.Prelude.{ℕ, ◌+◌, Bool, false, cond, List, [], ◌∷◌, length, take, drop, codes}
use Rattle.claim_model.specs.Words.{Auth, Ruling, Paid, Duplicate, Reversed, Rejected}
use Rattle.claim_model.specs.Counted.{Counted}
use Rattle.claim_model.specs.Payments.{same_auth}
use Rattle.pharmacy_journal.specs.Listing.{Listed}
use Rattle.table_text.specs.Members.{Row}
use Rattle.log_audit.specs.Kinds.{kind_word, number_member, text_member}
use Rattle.log_audit.specs.Ledger.{counted_total, in_cents}

-- a ruling names the payment of an authorization as paid, now or before
abbrev pub names : Ruling → Auth → Bool
names (Paid named prescription amounts) auth = same_auth named auth
names (Duplicate named prescription amounts) auth = same_auth named auth
names (Reversed named prescription) auth = false
names (Rejected rejects) auth = false

-- how many of some payments, from the first on, rulings name in this order
abbrev pub count_named : List Ruling → List Counted → ℕ
count_named [] cs = 0
count_named (ruling ∷ more) [] = 0
count_named (ruling ∷ more) (c ∷ cs) = cond (names ruling c.auth) (count_named more cs + 1) (count_named more (c ∷ cs))

-- whether an entry has its answer, by the rulings of it
abbrev pub state_word : List Ruling → List ℕ
state_word [] = codes "open"
state_word (ruling ∷ more) = codes "answered"

-- the row of an entry that named these counted payments first
unfoldable pub entry_row : ℕ → Listed → List Counted → Row
entry_row pharmacy e own =
    number_member (codes "pharmacy") pharmacy ∷
    number_member (codes "number") e.number ∷
    text_member (codes "kind") (kind_word e.code) ∷
    number_member (codes "transactions") e.count ∷
    text_member (codes "state") (state_word e.rulings) ∷
    number_member (codes "counted_payments") (length own) ∷
    number_member (codes "counted_cents") (in_cents (counted_total own)) ∷ []

-- the rows of entries. The payments that the pharmacy counts come in the order in which entries named them first, so each entry takes
-- from the front those that it names
abbrev pub entry_rows : ℕ → List Listed → List Counted → List Row
entry_rows pharmacy [] cs = []
entry_rows pharmacy (e ∷ more) cs =
    entry_row pharmacy e (take (count_named e.rulings cs) cs) ∷ entry_rows pharmacy more (drop (count_named e.rulings cs) cs)

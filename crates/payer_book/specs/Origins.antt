-- Where the payments of a book were ruled.
use Rattle.std.specs.Prelude.{ℕ, ◌+◌, cond, List, [], ◌∷◌, map, Option, Some, None}
use Rattle.carried_fields.specs.Repeating.{Repeated}
use Rattle.claim_model.specs.Words.{TxnId, Ruling}
use Rattle.claim_model.specs.Ruled.{Ruled}
use Rattle.claim_model.specs.Payments as model
use Rattle.claim_model.specs.Rows.{Row, BookSettings, Book, ruled_rows}
use Rattle.claim_model.specs.Book.{carries_more, repeated_by}
use Rattle.payer_book.specs.declared.book.origins.Origin.{Origin}
use Rattle.payer_book.specs.declared.ruling.changes.Change.{Change}
use Rattle.payer_book.specs.declared.ruling.changes.Change.TheVariants.{Pays, Reverses as ReversesPayment, Keeps}
use Rattle.payer_book.specs.Books.{reading}

-- where a payment was ruled
abbrev pub origin_of : model.Payment → Origin
origin_of p = record { id = p.id; place = p.place }

-- where each payment of some rulings was
abbrev pub origins_in : List Ruled → List Origin
origins_in rs = map origin_of (model.payments rs)

-- the same of a book's rows, where its answers carry anything
abbrev pub origins_of : BookSettings → List Row → List Origin
origins_of s rows = cond (carries_more s) (origins_in (ruled_rows reading rows)) []

-- where the payments among the changes of a request are ruled, from a place on
abbrev pub origins_by : TxnId → ℕ → List Change → List Origin
origins_by id place [] = []
origins_by id place (Pays s ∷ changes) = record { id = id; place = place } ∷ origins_by id (place + 1) changes
origins_by id place (ReversesPayment auth ∷ changes) = origins_by id (place + 1) changes
origins_by id place (Keeps ∷ changes) = origins_by id (place + 1) changes

-- what rulings repeat of the answers of a book
abbrev pub repeated_in : Book → List Ruling → List (Option Repeated)
repeated_in b rulings = map (repeated_by reading b.rows) rulings

-- a text that is given, else another one
abbrev pub given_or : Option (List ℕ) → (other : List ℕ) → List ℕ
given_or None other = other
given_or (Some text) other = text

-- the text of which an answer to a request with these rulings carries: the one that is given; where none is, what the rulings repeat
abbrev pub text_said : Book → List ℕ → List Ruling → Option (List ℕ) → List ℕ
text_said b request rulings said = given_or said (reading.repeated request rulings (repeated_in b rulings))

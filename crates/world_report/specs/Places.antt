-- The lines of entries and rows: one for each place of the request.
use Rattle.std.specs.Prelude.{ℕ, ◌+◌, ◌==◌, Bool, cond, List, [], ◌∷◌, ◌++◌, map, replicate, codes, decimal}
use Rattle.claim_model.specs.Words.{TxnId, Ruling, Paid, Duplicate, Reversed, Rejected}
use Rattle.pharmacy_journal.specs.Listing.{Listed}
use Rattle.world_report.specs.declared.places.Place.{Place}
use Rattle.world_report.specs.Words.{Line}
use Rattle.world_report.specs.Rulings.{ruling_words}

-- what names a place after the number of its request: nothing where the request has one transaction, else `/` and the place from 1
abbrev pub place_mark : ℕ → ℕ → List ℕ
place_mark count place = cond (count == 1) [] (codes "/" ++ decimal place)

-- the line of one place: number and place, the code of the request, and what is told of the place
abbrev pub place_line : List ℕ → ℕ → ℕ → List ℕ → Line → Line
place_line name count place code words = (name ++ place_mark count place) ∷ code ∷ words

-- the same of a place with the code of its request
abbrev pub told_at : List ℕ → Place → Line → Line
told_at name place words = place_line name place.count place.number place.code words

-- the lines of places from one on, each with what is told of it
abbrev pub place_lines : List ℕ → ℕ → List ℕ → ℕ → List Line → List Line
place_lines name count code place [] = []
place_lines name count code place (words ∷ more) = place_line name count place code words ∷ place_lines name count code (place + 1) more

-- what is told of this many places without an answer
abbrev pub open_places : ℕ → List Line
open_places count = replicate count (codes "open" ∷ [])

-- what is told of the places of an entry: `open`, or each its ruling
abbrev pub told_places : ℕ → List Ruling → List Line
told_places count [] = open_places count
told_places count (ruling ∷ more) = map ruling_words (ruling ∷ more)

-- a line for each place of an entry, with these words of each
abbrev pub places_told : Listed → List Line → List Line
places_told e words = place_lines (decimal e.number) e.count e.code 1 words

-- the lines of an entry of a journal
abbrev pub entry_lines : Listed → List Line
entry_lines e = places_told e (told_places e.count e.rulings)

-- a transaction as it is printed: the pharmacy, a point, and its number there
abbrev pub txn_name : TxnId → List ℕ
txn_name id = decimal id.pharmacy ++ (codes "." ++ decimal id.number)

-- whether the answer came to a request in flight
abbrev pub flight_word : Bool → List ℕ
flight_word answered = cond answered (codes "answered") (codes "open")

-- the line of a request in flight
abbrev pub flight_line : TxnId → Bool → Line
flight_line id answered = txn_name id ∷ flight_word answered ∷ []

abbrev pub standing_word : Bool → List ℕ
standing_word reversed = cond reversed (codes "reversed") (codes "standing")

-- whether a payment stands; nothing after another ruling
abbrev pub standing_words : Ruling → Bool → Line
standing_words (Paid auth prescription amounts) reversed = standing_word reversed ∷ []
standing_words (Duplicate auth prescription amounts) reversed = []
standing_words (Reversed auth prescription) reversed = []
standing_words (Rejected rejects) reversed = []

-- what is told of a place of a row: its ruling, and of a payment whether it was reversed
abbrev pub row_words : Ruling → Bool → Line
row_words ruling reversed = ruling_words ruling ++ standing_words ruling reversed

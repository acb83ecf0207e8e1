-- What is told of each entry of a journal.
use Rattle.std.specs.Prelude.{ℕ, ◌+◌, List, [], ◌∷◌, ◌++◌, Option, Some, None}
use Rattle.claim_model.specs.Words.{RequestHeader, Ruling}
use Rattle.claim_model.specs.Journal.{Kept, JournalAtRest}
use Rattle.pharmacy_journal.specs.Reading.{header_of}
use Rattle.pharmacy_journal.specs.Counting.{rulings_told}

-- an entry's number, the code and the count of its request, and the rulings of its answer
pub record Listed : Type 0 where
  pub number : ℕ
  pub code : List ℕ
  pub count : ℕ
  pub rulings : List Ruling

-- no rulings, where it is open
abbrev pub rulings_of : Option (List ℕ) → List Ruling
rulings_of None = []
rulings_of (Some answer) = rulings_told answer

abbrev pub listed_by : ℕ → Option (List ℕ) → Option RequestHeader → List Listed
listed_by number answer None = []
listed_by number answer (Some h) = record { number = number; code = h.code; count = h.count; rulings = rulings_of answer } ∷ []

-- an entry as it is told; nothing where its request has no header
abbrev pub listed_as : ℕ → Kept → List Listed
listed_as number k = listed_by number k.answer (header_of k.request)

abbrev pub listed_from : ℕ → List Kept → List Listed
listed_from number [] = []
listed_from number (k ∷ entries) = listed_as number k ++ listed_from (number + 1) entries

-- all entries, in order of numbers
unfoldable pub listed : JournalAtRest → List Listed
listed j = listed_from 1 j.entries

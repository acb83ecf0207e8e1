-- The members of each sentence of the table, in which the places of facts are marked.
use Rattle.std.specs.Prelude.{ℕ, List, [], ◌∷◌, Bool, true, false, ◌&&◌, ◌==◌, nat_le, if◌then◌else◌}
use Rattle.std.specs.List.{list_all}
use Rattle.message_words.specs.declared.sentences.TheConstants.{BILLING, BOOK, CARRIES_ANSWER, CARRIES_REQUEST, DUPLICATE, JOURNAL, NOT_CARRIED, NOT_FRAMED, NOT_FRAMED_AT, NO_ANSWER, NO_ENVELOPE, NO_RECORD, NO_RECORD_AT, OTHER_COUNT, OTHER_LENGTH, PAID, REJECTED_NOTHING, REJECTED_ONE, REJECTED_SEVERAL, REJECTION, REVERSAL, REVERSAL_OF_ONE, REVERSED}
use Rattle.message_words.specs.Encoded.{is_letter}
use Rattle.message_words.specs.Facts.{Sentence, of_row}

-- all sentences
abbrev pub sentences : List Sentence
sentences =
    of_row NOT_CARRIED ∷ of_row BILLING ∷ of_row REVERSAL ∷ of_row REVERSAL_OF_ONE
    ∷ of_row REJECTED_NOTHING ∷ of_row REJECTED_ONE ∷ of_row REJECTED_SEVERAL
    ∷ of_row PAID ∷ of_row DUPLICATE ∷ of_row REVERSED ∷ of_row REJECTION ∷ of_row NO_ANSWER
    ∷ of_row NOT_FRAMED ∷ of_row NOT_FRAMED_AT ∷ of_row OTHER_COUNT
    ∷ of_row CARRIES_REQUEST ∷ of_row CARRIES_ANSWER ∷ of_row NO_ENVELOPE ∷ of_row OTHER_LENGTH
    ∷ of_row BOOK ∷ of_row JOURNAL ∷ of_row NO_RECORD ∷ of_row NO_RECORD_AT ∷ []

-- where in members a byte stands
pub data Within : Type 0 where
  Between : Within
  AfterComma : Within
  InKey : Within
  AfterKey : Within
  AfterColon : Within
  InWord : Within
  AfterMark : Within
  Nowhere : Within

-- where the next byte stands: a member is a comma, a key between quotation marks, a colon, and a word between quotation
-- marks or the mark of a fact; between members a fact may stand that is members itself
abbrev pub follows : Within → ℕ → Within
follows Between byte = if byte == 44 then AfterComma else (if byte == 36 then AfterMark else Nowhere)
follows AfterComma byte = if byte == 34 then InKey else Nowhere
follows InKey byte = if byte == 34 then AfterKey else (if is_letter byte then InKey else Nowhere)
follows AfterKey byte = if byte == 58 then AfterColon else Nowhere
follows AfterColon byte = if byte == 34 then InWord else (if byte == 36 then AfterMark else Nowhere)
follows InWord byte = if byte == 34 then Between else (if is_letter byte then InWord else Nowhere)
follows AfterMark byte = if nat_le 48 byte && nat_le byte 57 then Between else Nowhere
follows Nowhere byte = Nowhere

abbrev pub end_of : Within → List ℕ → Within
end_of within [] = within
end_of within (byte ∷ more) = end_of (follows within byte) more

abbrev pub is_between : Within → Bool
is_between Between = true
is_between _ = false

-- a text is members, each after a comma
abbrev pub are_members : List ℕ → Bool
are_members text = is_between (end_of Between text)

-- a sentence has members, and a name of letters that stand for themselves
abbrev pub is_well_formed : Sentence → Bool
is_well_formed s = are_members s.json && list_all is_letter s.name

-- What a row keeps beside its request and its rulings.
use Rattle.std.specs.Prelude.{◌≡◌, ℕ, ◌≤◌, Bool, cond, List, [], length, Some}
use Rattle.claim_model.specs.Words.{RequestHeader, Ruling, AcceptedStatus}
use Rattle.claim_profile.specs.Readable.{readable_header}
use Rattle.carried_fields.specs.Carrying.{carrying_text}
use Rattle.envelope.specs.Envelope.{longest_payload}
use Rattle.payer_book.specs.declared.book.held_rulings.Held.{Held}
use Rattle.payer_book.specs.declared.book.held_rulings.Held.TheVariants.{One, Several}

-- a request and its answer
pub record BothTexts : Type 0 where
  pub request : List ℕ
  pub answer : List ℕ

-- the rulings, wherever they stand
abbrev pub rulings_in : Held → List Ruling
rulings_in (One ruling) = ruling
rulings_in (Several rulings) = rulings.items

-- the answer to a readable request with these rulings, and with what is carried beside them: header status A, and one group for each ruling; it
-- fits an envelope
pub record IsAnswered (request : List ℕ) (rulings : List Ruling) (carried answer : List ℕ) : Type 0 where
  pub header : RequestHeader
  pub reads : readable_header request ≡ Some header
  pub text : answer ≡ carrying_text header AcceptedStatus rulings carried
  pub short : length answer ≤ longest_payload

-- what is carried, where it is known whether an answer carries anything: the answer itself stands for it
abbrev pub carried_of : Bool → List ℕ → List ℕ
carried_of carries answer = cond carries answer []

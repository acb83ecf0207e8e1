-- How bytes are read and written, which the model takes as it is: every definition and theorem is for any such reading.
use Rattle.std.specs.Prelude.{ℕ, List, Option, Result}
use Rattle.carried_fields.specs.Repeating.{Repeated}
use Rattle.claim_model.specs.Words.{RequestHeader, Order, Code, Plan, Claim, Amounts, PlanFault, Status, Ruling, Answer, Envelope, EnvelopeFault, RouteKey, Change}

pub record Context : Type 0 where
  -- the header of a text that is framed as a request; none where the framing refuses it
  pub header : List ℕ → Option RequestHeader
  -- what each group of such a text asks for, in order: a claim or a reversal, or the codes that reject the group
  pub orders : List ℕ → List (Result Order (List Code))
  -- the payer of a request, by its number, and by its BIN, its PCN, and its provider with the qualifier, by the one route table
  pub route : ℕ → RouteKey → Option ℕ
  -- how many switches there are
  pub switches : ℕ
  -- what a plan pays for a claim; none where the product is not on the plan
  pub price : Plan → Claim → Option Amounts
  -- the plan with a new price for a product, or without the product
  pub reprice : Plan → Change → Result Plan PlanFault
  -- the text of an answer to a request with this header, with what it carries beside the rulings
  pub answer : RequestHeader → Status → List Ruling → List ℕ → List ℕ
  -- what an answer to a request with these rulings carries of the text of an advice
  pub carried : List ℕ → List Ruling → List ℕ → List ℕ
  -- what the answer to a request with these rulings would be, did each of its places say what it repeats of an answer before
  pub repeated : List ℕ → List Ruling → List (Option Repeated) → List ℕ
  -- the answer that a text spells; none where the text is no answer
  pub read_answer : List ℕ → Option Answer
  -- the answer that a text of a payer's own system spells, whose authorization numbers are not those of a book
  pub read_advice : List ℕ → Option Answer
  -- the bytes of an envelope
  pub envelope : Envelope → List ℕ
  -- the envelope that bytes are, or what is wrong with them
  pub read_envelope : List ℕ → Result Envelope EnvelopeFault

-- What a journal was told, and the payments that it counts, without numbers and places.
use Rattle.std.specs.Prelude.{ℕ, Bool, not, List, [], ◌∷◌, ◌++◌, map, filter, Option, Some, None, Result, Ok, Err, if◌then◌else◌}
use Rattle.std.specs.List.{list_any, filter_map}
use Rattle.d0_segments.specs.declared.framed.Framed.{Framed}
use Rattle.d0_segments.specs.FramedParts.{framed_parts}
use Rattle.d0_segments.specs.Framing.{request_kind, transmission_of}
use Rattle.claim_model.specs.Words.{RequestHeader, Auth, Fill, Order, Bills, Reverses, Code, Ruling, Paid, Duplicate, Reversed, Rejected}
use Rattle.claim_model.specs.Bytes.{orders_in}
use Rattle.claim_model.specs.Readable.{rulings_in}
use Rattle.claim_model.specs.Payments.{same_auth, auth_reversed, is_auth}
use Rattle.claim_model.specs.Counted.{Counted, firsts}
use Rattle.claim_model.specs.Journal.{Kept}
use Rattle.pharmacy_journal.specs.Reading.{reading_of}

-- one group of a request: the fill that it bills, if it reads as a claim, and what was ruled on it
pub record Outcome : Type 0 where
  pub fill : Option Fill
  pub ruling : Ruling

-- the fill of a claim
abbrev pub fill_billed : Result Order (List Code) → Option Fill
fill_billed (Ok (Bills c)) = Some c.fill
fill_billed (Ok (Reverses v)) = None
fill_billed (Err codes) = None

-- groups and rulings by their places
abbrev pub outcomes_between : List (Option Fill) → List Ruling → List Outcome
outcomes_between (fill ∷ fills) (ruling ∷ rulings) = record { fill = fill; ruling = ruling } ∷ outcomes_between fills rulings
outcomes_between (fill ∷ fills) [] = []
outcomes_between [] rulings = []

-- the same of a request that was framed
abbrev pub outcomes_framed : {header : _} → Framed RequestHeader header → List Ruling → List Outcome
outcomes_framed framed rulings = outcomes_between (map fill_billed (orders_in (Some (framed_parts framed)))) rulings

-- the fills that a request bills, by its groups
abbrev pub fills_in : List ℕ → List (Option Fill)
fills_in request = map fill_billed (orders_in (transmission_of request_kind request))

-- its groups, with these rulings
abbrev pub outcomes_by : List ℕ → List Ruling → List Outcome
outcomes_by request rulings = outcomes_between (fills_in request) rulings

-- the rulings of an answer
abbrev pub rulings_told : List ℕ → List Ruling
rulings_told answer = rulings_in (reading_of answer)

abbrev pub outcomes_of : List ℕ → Option (List ℕ) → List Outcome
outcomes_of request None = []
outcomes_of request (Some answer) = outcomes_by request (rulings_told answer)

-- all that a journal was told
abbrev pub outcomes : List Kept → List Outcome
outcomes [] = []
outcomes (k ∷ entries) = outcomes_of k.request k.answer ++ outcomes entries

abbrev pub payment_of : Option Fill → Ruling → Option Counted
payment_of (Some fill) (Paid auth prescription amounts) = Some (record { auth = auth; fill = fill; amounts = amounts })
payment_of (Some fill) (Duplicate auth prescription amounts) = Some (record { auth = auth; fill = fill; amounts = amounts })
payment_of (Some fill) (Reversed auth prescription) = None
payment_of (Some fill) (Rejected codes) = None
payment_of None ruling = None

-- the payment that is named
abbrev pub named_in : Outcome → Option Counted
named_in o = payment_of o.fill o.ruling

-- the payment with that authorization is reversed
abbrev pub outcome_reverses : Auth → Outcome → Bool
outcome_reverses auth o = is_auth auth (auth_reversed o.ruling)

-- one of these is the authorization
abbrev pub has_auth : List Auth → Auth → Bool
has_auth auths auth = list_any (λ a. same_auth a auth) auths

-- the payments, with this one where its authorization is not among these
abbrev pub with_first : List Auth → List Counted → Counted → List Counted
with_first auths payments c = if has_auth auths c.auth then payments else payments ++ c ∷ []

-- those that are not among these
abbrev pub without : List Auth → List Counted → List Counted
without auths payments = filter (λ c. not (has_auth auths c.auth)) payments

-- the payments that are named, the first of each, without those that are reversed
unfoldable pub counted_in : List Outcome → List Counted
counted_in os = filter (λ c. not (list_any (outcome_reverses c.auth) os)) (firsts (filter_map named_in os))

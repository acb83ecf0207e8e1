-- One request at a payer.
use Rattle.std.specs.Prelude.{ℕ, Bool, true, cond, ◌&&◌, nat_le, nat_lt, List, [], ◌∷◌, ◌++◌, length, map, Option, Some, None, option_map, option_and_then, Result, Ok, Err, find, bytes_eq}
use Rattle.std.specs.List.{list_all}
use Rattle.carried_fields.specs.Repeating.{Repeated}
use Rattle.claim_profile.specs.Authorization.{largest_serial}
use Rattle.claim_model.specs.Words.{TxnId, Advice, RequestHeader, Ruling, Paid, Duplicate, Reversed, Rejected}
use Rattle.claim_model.specs.Context.{Context}
use Rattle.claim_model.specs.Readable.{readable, payer_for, is_payer, answer_text, same_id}
use Rattle.claim_model.specs.Refusal.{Refusal, Unreadable, NotOurs, NumberReused, BookFull, SerialsUsedUp, NotAdvised}
use Rattle.claim_model.specs.Rows.{Row, BookSettings, Book, ruled_rows}
use Rattle.claim_model.specs.Payments.{Payment, payment_of}
use Rattle.claim_model.specs.Judgement.{rulings_from, all_advised}

-- the greatest serial of an authorization
abbrev pub last_serial : ℕ
last_serial = largest_serial

abbrev pub serial_fits : Ruling → Bool
serial_fits (Paid auth prescription amounts) = nat_le auth.serial last_serial
serial_fits (Duplicate auth prescription amounts) = true
serial_fits (Reversed auth prescription) = true
serial_fits (Rejected codes) = true

-- the row of an id
abbrev pub row_of : TxnId → List Row → Option Row
row_of id rows = find (λ row. same_id row.id id) rows

-- whether a payer's answers carry what an advice says beside its rulings, and duplicates what their payments' answers do: one that asks, where
-- its settings say so
abbrev pub carries_more : BookSettings → Bool
carries_more s = s.asks && s.carries

-- the answer of a row
abbrev pub row_text : Context → Row → Option (List ℕ)
row_text ctx row = option_map (λ h. answer_text ctx h row) (ctx.header row.request)

-- where a payment was answered: the answer of its row, and its place there
abbrev pub answered_at : Context → List Row → Option Payment → Option Repeated
answered_at ctx rows None = None
answered_at ctx rows (Some p) = option_map (λ text. record { answer = text; place = p.place }) (option_and_then (row_text ctx) (row_of p.id rows))

-- where the payment that a duplicate names was answered; a ruling that names no payment before it repeats nothing
abbrev pub repeated_by : Context → List Row → Ruling → Option Repeated
repeated_by ctx rows (Paid auth prescription amounts) = None
repeated_by ctx rows (Duplicate auth prescription amounts) = answered_at ctx rows (payment_of auth (ruled_rows ctx rows))
repeated_by ctx rows (Reversed auth prescription) = None
repeated_by ctx rows (Rejected codes) = None

-- the first text, or where it has no byte the other one
abbrev pub or_else : (text other : List ℕ) → List ℕ
or_else [] other = other
or_else (byte ∷ text) other = byte ∷ text

-- what there is to be carried beside these rulings: what the advice says; without one, what the answers to the payments said that are repeated
abbrev pub to_carry : Context → Book → Advice → List ℕ → List Ruling → List ℕ
to_carry ctx b advice request rulings = or_else advice.text (ctx.repeated request rulings (map (repeated_by ctx b.rows) rulings))

-- what the answer to a request with these rulings carries of it
abbrev pub carried_by : Context → Book → Advice → List ℕ → List Ruling → List ℕ
carried_by ctx b advice request rulings = cond (carries_more b.settings) (ctx.carried request rulings (to_carry ctx b advice request rulings)) []

abbrev pub row_with : Context → Book → Advice → TxnId → List ℕ → List Ruling → Row
row_with ctx b advice id request rulings = record { id = id; request = request; rulings = rulings; carried = carried_by ctx b advice request rulings }

-- the row that a new request gets with an advice
abbrev pub new_row : Context → Book → Advice → TxnId → List ℕ → Row
new_row ctx b advice id request = row_with ctx b advice id request (rulings_from ctx b advice (ruled_rows ctx b.rows) id 1 (ctx.orders request))

-- a new request has a verdict on each of its claims that is to be priced, and a consent to each of its reversals that is asked about
abbrev pub has_verdicts : Context → Book → Advice → TxnId → List ℕ → Bool
has_verdicts ctx b advice id request = all_advised ctx b advice (ruled_rows ctx b.rows) id 1 (ctx.orders request)

-- the book after a request, its answer, and whether that answer had been kept
pub record Answered : Type 0 where
  pub book : Book
  pub bytes : List ℕ
  pub kept : Bool

abbrev pub entered_row : Context → Book → RequestHeader → Bool → Row → Result Answered Refusal
entered_row ctx b h advised row =
    cond (list_all serial_fits row.rulings)
    (cond advised
    (Ok (record { book = record { payer = b.payer; settings = b.settings; plan = b.plan; rows = b.rows ++ row ∷ [] }; bytes = answer_text ctx h row; kept = Bool.false }))
    (Err NotAdvised))
    (Err SerialsUsedUp)

-- a known id with its request gets its row's answer again; a new one gets a row
abbrev pub answered_by : Context → Book → Advice → TxnId → List ℕ → RequestHeader → Option Row → Result Answered Refusal
answered_by ctx b advice id request h (Some row) =
    cond (bytes_eq row.request request) (Ok (record { book = b; bytes = answer_text ctx h row; kept = true })) (Err NumberReused)
answered_by ctx b advice id request h None =
    cond (nat_lt (length b.rows) b.settings.cap) (entered_row ctx b h (has_verdicts ctx b advice id request) (new_row ctx b advice id request)) (Err BookFull)

abbrev pub answered_readable : Context → Book → Advice → TxnId → List ℕ → Option RequestHeader → Result Answered Refusal
answered_readable ctx b advice id request None = Err Unreadable
answered_readable ctx b advice id request (Some h) = cond (is_payer b.payer (payer_for ctx id h)) (answered_by ctx b advice id request h (row_of id b.rows)) (Err NotOurs)

-- a request at a payer, with an advice: Unreadable, NotOurs, NumberReused, the kept answer, BookFull, SerialsUsedUp,
-- NotAdvised where the payer asks and the advice has no verdict on a claim that is to be priced, or no consent to a reversal that is asked about,
-- or a new row
unfoldable pub answered : Context → Book → Advice → TxnId → List ℕ → Result Answered Refusal
answered ctx b advice id request = answered_readable ctx b advice id request (readable ctx request)

-- without an advice
abbrev pub unadvised : Advice
unadvised = record { rulings = []; text = [] }

-- Which requests a payer or a switch takes, where they are routed, and which answers fit them.
use Rattle.std.specs.Prelude.{ℕ, Bool, true, false, cond, ◌&&◌, ◌==◌, nat_le, List, [], ◌∷◌, length, replicate, Option, Some, None, is_some, bytes_eq, option_and_then}
use Rattle.envelope.specs.Envelope.{longest_payload}
use Rattle.claim_profile.specs.declared.transaction.TransactionCode.TheVariants.{Billing, Reversal}
use Rattle.claim_profile.specs.Transaction.{code_bytes, transaction_code}
use Rattle.claim_model.specs.Words.{TxnId, RequestHeader, Answer, Ruling, Rejected, BadBin, AcceptedStatus, RejectedStatus, Envelope, Request, Response, RouteKey}
use Rattle.claim_model.specs.Context.{Context}
use Rattle.claim_model.specs.Rows.{Row}

-- "D0"
abbrev pub version_d0 : List ℕ
version_d0 = 68 ∷ 48 ∷ []

-- the code of a billing
abbrev pub billing_code : List ℕ
billing_code = code_bytes Billing

-- the code of a reversal
abbrev pub reversal_code : List ℕ
reversal_code = code_bytes Reversal

abbrev pub has_version : RequestHeader → Bool
has_version h = bytes_eq h.version version_d0

-- whether it is of a kind that is carried
abbrev pub has_code : RequestHeader → Bool
has_code h = is_some (transaction_code h.code)

-- no payload of an envelope is longer
abbrev pub longest : ℕ
longest = longest_payload

abbrev pub if_carried : RequestHeader → Option RequestHeader
if_carried h = cond (has_version h && has_code h) (Some h) None

-- the header of a readable request: framed, of version D0, of a kind that is carried, and at most 32,768 bytes
unfoldable pub readable : Context → List ℕ → Option RequestHeader
readable ctx text = cond (nat_le (length text) longest) (option_and_then if_carried (ctx.header text)) None

-- what a route may look at in a header
abbrev pub route_key : RequestHeader → RouteKey
route_key h = record { bin = h.bin; pcn = h.pcn; qualifier = h.qualifier; provider = h.provider }

-- the payer to which the request of an id is routed
abbrev pub payer_for : Context → TxnId → RequestHeader → Option ℕ
payer_for ctx id h = ctx.route id.number (route_key h)

abbrev pub is_payer : ℕ → Option ℕ → Bool
is_payer payer None = false
is_payer payer (Some p) = p == payer

-- a payer's answer: header status A, the rulings of a row, and what it carries
abbrev pub answer_text : Context → RequestHeader → Row → List ℕ
answer_text ctx h row = ctx.answer h AcceptedStatus row.rulings row.carried

-- the fixed rejection of a request that has no route: header status R, and code 01 for each transaction
abbrev pub rejection : Context → RequestHeader → List ℕ
rejection ctx h = ctx.answer h RejectedStatus (replicate h.count (Rejected (BadBin ∷ []))) []

abbrev pub fits : Option RequestHeader → Option Answer → Bool
fits (Some h) (Some a) = bytes_eq a.header.code h.code && (a.header.count == h.count)
fits (Some h) None = false
fits None (Some a) = false
fits None None = false

-- an answer settles a request where it reads as an answer with the request's code and count
abbrev pub settles : Context → List ℕ → List ℕ → Bool
settles ctx request answer = fits (ctx.header request) (ctx.read_answer answer)

-- the rulings of an answer; none where the text is no answer
abbrev pub rulings_in : Option Answer → List Ruling
rulings_in None = []
rulings_in (Some a) = a.rulings

abbrev pub same_id : TxnId → TxnId → Bool
same_id a b = (a.pharmacy == b.pharmacy) && (a.number == b.number)

abbrev pub request_envelope : TxnId → List ℕ → Envelope
request_envelope id request = record { kind = Request; id = id; payload = request }

abbrev pub answer_envelope : TxnId → List ℕ → Envelope
answer_envelope id answer = record { kind = Response; id = id; payload = answer }

abbrev pub is_request : Envelope → Bool
is_request e = elim e.kind [ Request ↦ true | Response ↦ false ]

-- Requests that have a route, and answers of switches to those that have none.
use Rattle.std.specs.Prelude.{ℕ, ◌==◌, Bool, false, is_some, List, slice_get, Option, Some, None}
use Rattle.claim_model.specs.Words.{RequestHeader, TxnId}
use Rattle.claim_model.specs.Context.{Context}
use Rattle.claim_model.specs.Readable.{readable, payer_for}

abbrev pub has_payer : Context → TxnId → Option RequestHeader → Bool
has_payer ctx id (Some h) = is_some (payer_for ctx id h)
has_payer ctx id None = false

-- the request of an id is readable and has a route: what answers it is a payer's
abbrev pub is_routed : Context → TxnId → List ℕ → Bool
is_routed ctx id request = has_payer ctx id (readable ctx request)

abbrev pub is_status : Option ℕ → Bool
is_status (Some byte) = byte == 82
is_status None = false

-- an answer has the status R (501-F1, its sixth byte): a switch's rejection, where a payer's answer has A
abbrev pub is_rejected : List ℕ → Bool
is_rejected answer = is_status (slice_get answer 5)

-- What is vouched for, whoever carried it: the request that was submitted under its id, or the answer that was decided for it.
use Rattle.std.specs.Prelude.{◌≡◌, ⊤, List, ℕ, Some}
use Rattle.claim_model.specs.Words.{TxnId, Kind, Request, Response, Envelope}
use Rattle.claim_model.specs.Context.{Context}
use Rattle.claim_model.specs.Laws.{IsEnvelope}
use Rattle.claim_model.specs.Node.{Call, Submit, Tick, Take, Stop, Start, Revise, Adjudicate}
use Rattle.claim_model.specs.World.{World}
use Rattle.claim_model.specs.Held.{asked, decided}

-- an envelope says what was submitted, or what was decided
abbrev pub Says : Context → World → TxnId → List ℕ → Kind → Type 0
Says ctx w id payload Request = asked w id ≡ Some payload
Says ctx w id payload Response = decided ctx w id ≡ Some payload

-- bytes that some node may have sent
pub record Carries (ctx : Context) (w : World) (bytes : List ℕ) : Type 0 where
  pub envelope : Envelope
  pub fits : IsEnvelope envelope
  pub spells : bytes ≡ ctx.envelope envelope
  pub says : Says ctx w envelope.id envelope.payload envelope.kind

-- a world vouches for a call: bytes that are taken say what was submitted or decided there. An advice is not looked at: the payer's own system gave it
abbrev pub IsVouched : Context → World → Call → Type 0
IsVouched ctx w (Take from bytes) = Carries ctx w bytes
IsVouched ctx w (Submit text) = ⊤
IsVouched ctx w Tick = ⊤
IsVouched ctx w Stop = ⊤
IsVouched ctx w Start = ⊤
IsVouched ctx w (Revise change) = ⊤
IsVouched ctx w (Adjudicate from bytes advice) = Carries ctx w bytes

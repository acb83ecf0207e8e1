-- The packet that takes an answer back.
use Rattle.std.specs.Prelude.{◌≡◌, ℕ, Bool, List, [], ◌∷◌, Result, Ok, IfOk}
use Rattle.bin_routes.specs.Table.{RouteMaps}
use Rattle.claim_model.specs.Words.{Advice, TxnId}
use Rattle.claim_model.specs.Context.{Context}
use Rattle.claim_model.specs.Bytes.{bytes_with}
use Rattle.claim_model.specs.declared.refusal.Fault.{Fault}
use Rattle.claim_model.specs.Readable.{answer_envelope}
use Rattle.claim_model.specs.Rows.{Book}
use Rattle.claim_model.specs.Book.{answered}
use Rattle.claim_model.specs.Node.{Node, Up, Done, after_answer}

-- the request of an id is answered with some bytes, which leave the book like this, and the packet is the envelope of an answer that has
-- that id and these bytes
pub record IsPosted (ctx : Context) (b : Book) (advice : Advice) (id : TxnId) (request : List ℕ) (after : Book) (packet : List ℕ) : Type 0 where
  pub bytes : List ℕ
  pub kept : Bool
  pub ruled : answered ctx b advice id request ≡ Ok (record { book = after; bytes = bytes; kept = kept })
  pub text : packet ≡ ctx.envelope (answer_envelope id bytes)

-- a payer's step that takes this request ends with this book, and sends the packet to where the request came from
abbrev pub SendsBack : RouteMaps → Book → Advice → TxnId → List ℕ → Book → Result (List ℕ) Fault → Type 0
SendsBack routes old advice id request new result =
    IfOk result (λ packet. (from : Node)
    → after_answer (bytes_with routes) from id (answered (bytes_with routes) old advice id request) ≡ Done (Up new) (record { to = from; bytes = packet } ∷ []))

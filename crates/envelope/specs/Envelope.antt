-- What an envelope has, and its text.
use Rattle.std.specs.Prelude.{◌≡◌, ℕ, ◌+◌, ◌≤◌, List, [], ◌∷◌, ◌++◌, length, codes}
use Rattle.std.specs.Int.{w16, w32, w64, to_be_bytes}
use Rattle.envelope.specs.declared.opening.Kind.{Kind}
use Rattle.envelope.specs.declared.opening.Kind.TheVariants.{Request, Answer}
use Rattle.envelope.specs.Txn.{Txn, IsTxn}

-- an envelope that was read: what it spells, and where in memory its payload stands
pub record Opened : Type 0 where
  pub kind : Kind
  pub id : Txn
  pub payload : List ℕ
  pub place : ℕ × ℕ

-- an envelope of these parts whose head begins at this place in memory
abbrev pub opened_at : ℕ × ℕ → Kind → Txn → List ℕ → Opened
opened_at place kind id payload = record { kind = kind; id = id; payload = payload; place = (place.0, place.1 + 18) }

-- the most bytes of a payload
abbrev pub longest_payload : ℕ
longest_payload = 32768

-- a kind's byte
abbrev pub kind_byte : Kind → ℕ
kind_byte Request = 1
kind_byte Answer = 2

-- the head of an envelope with this many bytes of payload
unfoldable pub envelope_head : Kind → Txn → ℕ → List ℕ
envelope_head kind id len =
    codes "PS" ++ (1 ∷ kind_byte kind ∷ []) ++ to_be_bytes w16 id.pharmacy ++ to_be_bytes w64 id.number ++ to_be_bytes w32 len

-- the text of an envelope
unfoldable pub envelope_text : Kind → Txn → List ℕ → List ℕ
envelope_text kind id payload = envelope_head kind id (length payload) ++ payload

-- bytes at a place in memory are the text of this envelope, whose payload stands after the head
pub record IsTextOf (place : ℕ × ℕ) (bytes : List ℕ) (e : Opened) : Type 0 where
  pub text : bytes ≡ envelope_text e.kind e.id e.payload
  pub id : IsTxn e.id
  pub short : length e.payload ≤ longest_payload
  pub stands : e.place ≡ (place.0, place.1 + 18)

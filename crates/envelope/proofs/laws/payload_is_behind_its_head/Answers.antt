use Rattle.std.proofs.Common.{◌≡◌, ℕ, ◌≤◌, List, length, drop, refl, arith}
use Rattle.envelope.specs.declared.opening.Kind.{Kind}
use Rattle.envelope.specs.declared.opening.Kind.TheVariants.{Request, Answer}
use Rattle.envelope.specs.Txn.{Txn}
use Rattle.envelope.specs.Envelope.{envelope_head, envelope_text}
use Rattle.envelope.proofs.laws.payload_is_behind_its_head.Goals as goal

behind : (kind : Kind) (id : Txn) (payload : List ℕ) → (drop 18 (envelope_text kind id payload) ≡ payload) × (18 ≤ length (envelope_text kind id payload))
unfolding envelope_text envelope_head
behind Request id payload = (refl, omega arith)
behind Answer id payload = (refl, omega arith)

pub returns : goal.returns
returns c = behind

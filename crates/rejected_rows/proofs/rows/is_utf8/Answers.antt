-- Bytes are no text where a reader of texts refuses them.
use Rattle.std.proofs.Common.{◌≡◌, ℕ, Bool, true, false, List, refl}
use Rattle.std.specs.Str.{IsUtf8, is_utf8}
use Rattle.std.proofs.lemmas.Str.{IsUtf8-from_is_utf8, is_utf8-from_IsUtf8}
use Rattle.rejected_rows.proofs.rows.is_utf8.Goals as goal

by_answer : (bytes : List ℕ) (b : Bool) → is_utf8 bytes ≡ b → (IsUtf8 bytes → ⊥) → false ≡ is_utf8 bytes
by_answer bytes true is never = absurd (never (IsUtf8-from_is_utf8 bytes is))
by_answer bytes false is never = rw is refl

pub returns-in-Ok : goal.returns-in-Ok
returns-in-Ok c = rw (is_utf8-from_IsUtf8 c.args.bytes.now c.in-Ok.ensures.cases.1) refl

pub returns-in-Err : goal.returns-in-Err
returns-in-Err c = by_answer c.args.bytes.now (is_utf8 c.args.bytes.now) refl c.in-Err.ensures.cases.0

-- What bytes are as an envelope, wherever they stand in memory.
use Rattle.std.proofs.Common.{◌≡◌, ℕ, Bool, true, false, cond, not, List, length, drop, Option, Some, None, Result, refl}
use Rattle.std.specs.Prelude.{◌||◌, codes, slice_index, nat_lt, nat_eq, ◌==◌}
use Rattle.std.specs.List.{starts_with}
use Rattle.envelope.specs.Envelope.{Opened}
use Rattle.envelope.specs.Opening.{pharmacy_in, number_in, said_in, kind_of, opened_of, envelope_of}
use Rattle.claim_model.specs.Words.{Kind, EnvelopeFault}
use Rattle.claim_model.specs.Bytes.{envelope_in}

-- a choice between alike values
either : (b : Bool) (x x' y y' : Result Opened EnvelopeFault) → envelope_in x ≡ envelope_in x' → envelope_in y ≡ envelope_in y' → envelope_in (cond b x y) ≡ envelope_in (cond b x' y')
either true x x' y y' first second = first
either false x x' y y' first second = second

opened_alike : (p q : ℕ × ℕ) (bytes : List ℕ) (kind : Option Kind) → envelope_in (opened_of p bytes kind) ≡ envelope_in (opened_of q bytes kind)
unfolding opened_of
opened_alike p q bytes None = refl
opened_alike p q bytes (Some kind) =
    either ((pharmacy_in bytes == 0) || (number_in bytes == 0)) _ _ _ _ refl
    (either (not (said_in bytes == length (drop 18 bytes))) _ _ _ _ refl
    (either (nat_lt 32768 (length (drop 18 bytes))) _ _ _ _ refl refl))

pub envelope_alike : (p q : ℕ × ℕ) (bytes : List ℕ) → envelope_in (envelope_of p bytes) ≡ envelope_in (envelope_of q bytes)
unfolding envelope_of
envelope_alike p q bytes =
    either (nat_lt (length bytes) 18) _ _ _ _ refl
    (either (not (starts_with nat_eq bytes (codes "PS"))) _ _ _ _ refl
    (either (not (slice_index bytes 2 == 1)) _ _ _ _ refl
    (opened_alike p q bytes (kind_of (slice_index bytes 3)))))

-- What is said of an envelope does not hang on where it stands in memory.
use Rattle.std.proofs.Common.{◌≡◌, ℕ, ◌+◌, ◌||◌, ◌==◌, not, nat_eq, nat_lt, Bool, true, false, List, length, drop, codes, Option, None, Some, Result, Ok, Err, refl, if◌then◌else◌}
use Rattle.std.specs.Prelude.{slice_index}
use Rattle.std.specs.List.{starts_with}
use Rattle.envelope.specs.declared.opening.Kind.{Kind}
use Rattle.envelope.specs.declared.opening.EnvelopeFault.{EnvelopeFault}
use Rattle.envelope.specs.declared.opening.EnvelopeFault.TheVariants as faults
use Rattle.envelope.specs.Envelope.{Opened, longest_payload}
use Rattle.envelope.specs.Opening.{envelope_of, opened_of, kind_of, pharmacy_in, number_in, said_in}
use Rattle.message_words.specs.FaultWords.{opened_said}

either_way : (b : Bool) (x y x' y' : Result Opened EnvelopeFault) → opened_said x ≡ opened_said x' → opened_said y ≡ opened_said y'
    → opened_said (if b then x else y) ≡ opened_said (if b then x' else y')
either_way true x y x' y' first second = first
either_way false x y x' y' first second = second

opened_anywhere : (p q : ℕ × ℕ) (bytes : List ℕ) (kind : Option Kind) → opened_said (opened_of p bytes kind) ≡ opened_said (opened_of q bytes kind)
unfolding opened_of
opened_anywhere p q bytes None = refl
opened_anywhere p q bytes (Some kind) =
    let ok : ℕ × ℕ → Result Opened EnvelopeFault = λ place. Ok (record {
      kind = kind;
      id = record { pharmacy = pharmacy_in bytes; number = number_in bytes };
      payload = drop 18 bytes;
      place = (place.0, place.1 + 18);
    }) in
    let long : ℕ × ℕ → Result Opened EnvelopeFault = λ place. if nat_lt longest_payload (length (drop 18 bytes)) then Err faults.TooLong else ok place in
    let sized : ℕ × ℕ → Result Opened EnvelopeFault = λ place. if not (said_in bytes == length (drop 18 bytes)) then Err (faults.Length (said_in bytes) (length (drop 18 bytes))) else long place in
    either_way ((pharmacy_in bytes == 0) || (number_in bytes == 0)) (Err faults.ZeroNumber) (sized p) (Err faults.ZeroNumber) (sized q) refl
    (either_way (not (said_in bytes == length (drop 18 bytes))) (Err (faults.Length (said_in bytes) (length (drop 18 bytes)))) (long p) (Err (faults.Length (said_in bytes) (length (drop 18 bytes)))) (long q) refl
    (either_way (nat_lt longest_payload (length (drop 18 bytes))) (Err faults.TooLong) (ok p) (Err faults.TooLong) (ok q) refl refl))

pub anywhere : (p q : ℕ × ℕ) (bytes : List ℕ) → opened_said (envelope_of p bytes) ≡ opened_said (envelope_of q bytes)
unfolding envelope_of
anywhere p q bytes =
    let last : ℕ × ℕ → Result Opened EnvelopeFault = λ place. opened_of place bytes (kind_of (slice_index bytes 3)) in
    let versioned : ℕ × ℕ → Result Opened EnvelopeFault = λ place. if not (slice_index bytes 2 == 1) then Err faults.Version else last place in
    let named : ℕ × ℕ → Result Opened EnvelopeFault = λ place. if not (starts_with nat_eq bytes (codes "PS")) then Err faults.NotEnvelope else versioned place in
    either_way (nat_lt (length bytes) 18) (Err faults.Short) (named p) (Err faults.Short) (named q) refl
    (either_way (not (starts_with nat_eq bytes (codes "PS"))) (Err faults.NotEnvelope) (versioned p) (Err faults.NotEnvelope) (versioned q) refl
    (either_way (not (slice_index bytes 2 == 1)) (Err faults.Version) (last p) (Err faults.Version) (last q) refl
    (opened_anywhere p q bytes (kind_of (slice_index bytes 3)))))

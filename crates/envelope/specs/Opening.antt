-- What bytes are as an envelope, or the first fault that stands.
use Rattle.std.specs.Prelude.{ℕ, ◌+◌, not, ◌||◌, List, length, take, drop, slice_index, codes, Option, Some, None, Result, Ok, Err, nat_eq, nat_lt, ◌==◌, if◌then◌else◌}
use Rattle.std.specs.List.{starts_with}
use Rattle.std.specs.Int.{w16, w32, w64, from_be_bytes}
use Rattle.envelope.specs.declared.opening.Kind.{Kind}
use Rattle.envelope.specs.declared.opening.Kind.TheVariants.{Request, Answer}
use Rattle.envelope.specs.declared.opening.EnvelopeFault.{EnvelopeFault}
use Rattle.envelope.specs.declared.opening.EnvelopeFault.TheVariants as faults
use Rattle.envelope.specs.Envelope.{Opened, longest_payload}

-- the numbers in a head
abbrev pub pharmacy_in : List ℕ → ℕ
pharmacy_in bytes = from_be_bytes w16 (take 2 (drop 4 bytes))

abbrev pub number_in : List ℕ → ℕ
number_in bytes = from_be_bytes w64 (take 8 (drop 6 bytes))

abbrev pub said_in : List ℕ → ℕ
said_in bytes = from_be_bytes w32 (take 4 (drop 14 bytes))

-- the kind that a byte stands for
abbrev pub kind_of : ℕ → Option Kind
kind_of byte = if byte == 1 then Some Request else (if byte == 2 then Some Answer else None)

-- bytes of a head and a payload that begin as an envelope of a known kind
unfoldable pub opened_of : ℕ × ℕ → List ℕ → Option Kind → Result Opened EnvelopeFault
opened_of place bytes None = Err faults.Kind
opened_of place bytes (Some kind) =
    if (pharmacy_in bytes == 0) || (number_in bytes == 0) then Err faults.ZeroNumber
    else (if not (said_in bytes == length (drop 18 bytes)) then Err (faults.Length (said_in bytes) (length (drop 18 bytes)))
    else (if nat_lt longest_payload (length (drop 18 bytes)) then Err faults.TooLong
    else Ok (record {
      kind = kind;
      id = record { pharmacy = pharmacy_in bytes; number = number_in bytes };
      payload = drop 18 bytes;
      place = (place.0, place.1 + 18);
    })))

-- what bytes at a place in memory are as an envelope, or their first fault
unfoldable pub envelope_of : ℕ × ℕ → List ℕ → Result Opened EnvelopeFault
envelope_of place bytes =
    if nat_lt (length bytes) 18 then Err faults.Short
    else (if not (starts_with nat_eq bytes (codes "PS")) then Err faults.NotEnvelope
    else (if not (slice_index bytes 2 == 1) then Err faults.Version
    else opened_of place bytes (kind_of (slice_index bytes 3))))

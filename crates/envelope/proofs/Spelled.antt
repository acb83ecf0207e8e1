-- An envelope's text opens as that envelope.
use Rattle.std.proofs.Common.{◌≡◌, ℕ, ◌+◌, ◌<◌, ◌≤◌, ◌==◌, true, false, List, length, slice_index, drop, nat_eq, nat_lt, codes, Some, Ok, refl, ◌∙◌, arith}
use Rattle.std.proofs.lemmas.Bool.Decides.{nat_tests}
use Rattle.std.proofs.lemmas.Nat.{from_be_bytes-to_be_bytes_2, from_be_bytes-to_be_bytes_4, from_be_bytes-to_be_bytes_8}
use Rattle.std.specs.List.{starts_with}
use Rattle.envelope.specs.declared.opening.Kind.{Kind}
use Rattle.envelope.specs.declared.opening.Kind.TheVariants.{Request, Answer}
use Rattle.envelope.specs.Txn.{Txn, IsTxn}
use Rattle.envelope.specs.Envelope.{envelope_head, envelope_text}
use Rattle.envelope.specs.Opening.{pharmacy_in, number_in, said_in, kind_of, opened_of, envelope_of}

-- tests on numbers
short_no : (n : ℕ) → 18 ≤ n → nat_lt n 18 ≡ false
short_no n h = grind (arith, nat_tests)

long_no : (n : ℕ) → n ≤ 32768 → nat_lt 32768 n ≡ false
long_no n h = grind (arith, nat_tests)

zero_no : (n : ℕ) → 0 < n → (n == 0) ≡ false
zero_no n h = grind (arith, nat_tests)

same_yes : (m n : ℕ) → m ≡ n → (m == n) ≡ true
same_yes m n h = grind (arith, nat_tests)

-- bytes whose head is good and whose kind is known
pub opens : (place : ℕ × ℕ) (bytes : List ℕ) (kind : Kind) → 18 ≤ length bytes → starts_with nat_eq bytes (codes "PS") ≡ true → slice_index bytes 2 ≡ 1 → kind_of (slice_index bytes 3) ≡ Some kind
    → envelope_of place bytes ≡ opened_of place bytes (Some kind)
unfolding envelope_of
opens place bytes kind long magic version known = rw (short_no (length bytes) long, magic, same_yes (slice_index bytes 2) 1 version, known) refl

-- bytes whose numbers are good
pub opens_as : (place : ℕ × ℕ) (bytes payload : List ℕ) (kind : Kind) (id : Txn) → IsTxn id → pharmacy_in bytes ≡ id.pharmacy → number_in bytes ≡ id.number → drop 18 bytes ≡ payload → said_in bytes ≡ length payload → length payload ≤ 32768
    → opened_of place bytes (Some kind) ≡ Ok (record { kind = kind; id = id; payload = payload; place = (place.0, place.1 + 18) })
unfolding opened_of
opens_as place bytes payload kind id good pharmacy number rest said short =
    rw (pharmacy, number, rest, zero_no id.pharmacy good.some_pharmacy, zero_no id.number good.some_number, same_yes (said_in bytes) (length payload) said, long_no (length payload) short) refl

-- the text of an envelope opens as that envelope
pub text_opens : (place : ℕ × ℕ) (kind : Kind) (id : Txn) (payload : List ℕ) → IsTxn id → length payload ≤ 32768
    → envelope_of place (envelope_text kind id payload) ≡ Ok (record { kind = kind; id = id; payload = payload; place = (place.0, place.1 + 18) })
unfolding envelope_text envelope_head
text_opens place Request id payload good short =
    opens place (envelope_text Request id payload) Request (omega arith) refl refl refl
    ∙ opens_as place (envelope_text Request id payload) payload Request id good (from_be_bytes-to_be_bytes_2 id.pharmacy good.pharmacy_fits) (from_be_bytes-to_be_bytes_8 id.number good.number_fits) refl (from_be_bytes-to_be_bytes_4 (length payload) (omega arith)) short
text_opens place Answer id payload good short =
    opens place (envelope_text Answer id payload) Answer (omega arith) refl refl refl
    ∙ opens_as place (envelope_text Answer id payload) payload Answer id good (from_be_bytes-to_be_bytes_2 id.pharmacy good.pharmacy_fits) (from_be_bytes-to_be_bytes_8 id.number good.number_fits) refl (from_be_bytes-to_be_bytes_4 (length payload) (omega arith)) short

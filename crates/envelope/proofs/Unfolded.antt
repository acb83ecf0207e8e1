-- Bytes that open as an envelope are that envelope's text.
use Rattle.std.proofs.Common.{◌≡◌, ℕ, ◌+◌, ◌^◌, ◌<◌, ◌≤◌, ◌==◌, Bool, true, false, not, cond, ◌||◌, List, [], ◌∷◌, length, slice_index, take, drop, nat_eq, nat_lt, codes, Option, Some, None, Result, Ok, Err, IfOk, refl, sym, ◌∙◌, subst, arith}
use Rattle.std.proofs.lemmas.Bool.Decides.{nat_tests}
use Rattle.std.proofs.lemmas.Nat.{be_bytes_2, be_bytes_4, be_bytes_8}
use Rattle.std.specs.Cmp.Lexicographic.{same_text}
use Rattle.std.specs.List.{starts_with}
use Rattle.std.specs.Int.{w16, w32, w64, to_be_bytes, from_be_bytes}
use Rattle.envelope.specs.declared.opening.Kind.{Kind}
use Rattle.envelope.specs.declared.opening.Kind.TheVariants.{Request, Answer}
use Rattle.envelope.specs.declared.opening.EnvelopeFault.{EnvelopeFault}
use Rattle.envelope.specs.declared.opening.EnvelopeFault.TheVariants as faults
use Rattle.envelope.specs.Txn.{IsTxn}
use Rattle.envelope.specs.Envelope.{Opened, IsTextOf, kind_byte, envelope_head, envelope_text}
use Rattle.envelope.specs.Opening.{pharmacy_in, number_in, said_in, kind_of, opened_of, envelope_of}
use Rattle.envelope.proofs.Cuts.{AreBytes, fields, length_field, field_bytes, pair_at, same_fields}

-- the tests that bytes pass whose head and kind are good
head_passed : (place : ℕ × ℕ) (bytes : List ℕ) (e : Opened) (short magic version : Bool) (kind : Option Kind)
    → cond short (Err faults.Short) (cond (not magic) (Err faults.NotEnvelope) (cond (not version) (Err faults.Version) (opened_of place bytes kind))) ≡ Ok e
    → (short ≡ false) × (magic ≡ true) × (version ≡ true) × ((k : Kind) × (kind ≡ Some k) × (opened_of place bytes (Some k) ≡ Ok e))
unfolding opened_of
head_passed place bytes e true magic version kind h = cc
head_passed place bytes e false false version kind h = cc
head_passed place bytes e false true false kind h = cc
head_passed place bytes e false true true None h = cc
head_passed place bytes e false true true (Some k) h = (refl, refl, refl, (k, refl, h))

rest_passed : (fault : EnvelopeFault) (value e : Opened) (zero_pharmacy zero_number same long : Bool)
    → cond (zero_pharmacy || zero_number) (Err faults.ZeroNumber) (cond (not same) (Err fault) (cond long (Err faults.TooLong) (Ok value))) ≡ Ok e
    → (zero_pharmacy ≡ false) × (zero_number ≡ false) × (same ≡ true) × (long ≡ false) × (value ≡ e)
rest_passed fault value e true zero_number same long h = cc
rest_passed fault value e false true same long h = cc
rest_passed fault value e false false false long h = cc
rest_passed fault value e false false true true h = cc
rest_passed fault value e false false true false h = (refl, refl, refl, refl, cc)

kind_byte-kind_of : (byte : ℕ) (kind : Kind) → kind_of byte ≡ Some kind → byte ≡ kind_byte kind
kind_byte-kind_of byte Request h = by_tests (byte == 1) (byte == 2) refl refl h
  where
    by_tests : (one other : Bool) → (byte == 1) ≡ one → (byte == 2) ≡ other → cond one (Some Request) (cond other (Some Answer) None) ≡ Some Request → byte ≡ 1
    by_tests true other t u h = grind (arith, nat_tests)
    by_tests false true t u h = cc
    by_tests false false t u h = cc
kind_byte-kind_of byte Answer h = by_tests (byte == 1) (byte == 2) refl refl h
  where
    by_tests : (one other : Bool) → (byte == 1) ≡ one → (byte == 2) ≡ other → cond one (Some Request) (cond other (Some Answer) None) ≡ Some Answer → byte ≡ 2
    by_tests true other t u h = cc
    by_tests false true t u h = grind (arith, nat_tests)
    by_tests false false t u h = cc

-- two and eight bytes are numbers of 16 and 64 bits
below_16 : (bs : List ℕ) → AreBytes bs → from_be_bytes w16 bs < 2 ^ 16
below_16 bs h = omega (arith, h 0, h 1)

below_64 : (bs : List ℕ) → AreBytes bs → from_be_bytes w64 bs < 2 ^ 64
below_64 bs h = omega (arith, h 0, h 1, h 2, h 3, h 4, h 5, h 6, h 7)

-- bytes that open are the text of what they open as
pub opened_is_text : (place : ℕ × ℕ) (bytes : List ℕ) (e : Opened) → AreBytes bytes → envelope_of place bytes ≡ Ok e → IsTextOf place bytes e
unfolding envelope_of opened_of envelope_text envelope_head
opened_is_text place bytes e are h =
    let payload : List ℕ = drop 18 bytes in
    let head = head_passed place bytes e (nat_lt (length bytes) 18) (starts_with nat_eq bytes (codes "PS")) (slice_index bytes 2 == 1) (kind_of (slice_index bytes 3)) h in
    let kind : Kind = head.3.0 in
    let value : Opened = record { kind = kind; id = record { pharmacy = pharmacy_in bytes; number = number_in bytes }; payload = payload; place = (place.0, place.1 + 18) } in
    let rest = rest_passed (faults.Length (said_in bytes) (length payload)) value e (pharmacy_in bytes == 0) (number_in bytes == 0) (said_in bytes == length payload) (nat_lt 32768 (length payload)) head.3.2 in
    let long : 18 ≤ length bytes = long_from (length bytes) head.0 in
    let magic : take 2 bytes ≡ codes "PS" = sym (same_text (codes "PS") (take 2 bytes) (sym head.1)) in
    let fixed : take 2 (drop 2 bytes) ≡ 1 ∷ kind_byte kind ∷ [] = pair_at 2 1 (kind_byte kind) bytes (omega arith) (same_from (slice_index bytes 2) 1 head.2) (kind_byte-kind_of (slice_index bytes 3) kind head.3.1) in
    let pharmacy_are : AreBytes (take 2 (drop 4 bytes)) = field_bytes 2 4 bytes are (omega arith) in
    let pharmacy : to_be_bytes w16 (pharmacy_in bytes) ≡ take 2 (drop 4 bytes) = be_bytes_2 (take 2 (drop 4 bytes)) (pharmacy_in bytes) (length_field 2 4 bytes (omega arith)) pharmacy_are refl in
    let number_are : AreBytes (take 8 (drop 6 bytes)) = field_bytes 8 6 bytes are (omega arith) in
    let number : to_be_bytes w64 (number_in bytes) ≡ take 8 (drop 6 bytes) = be_bytes_8 (take 8 (drop 6 bytes)) (number_in bytes) (length_field 8 6 bytes (omega arith)) number_are refl in
    let said : to_be_bytes w32 (length payload) ≡ take 4 (drop 14 bytes) = be_bytes_4 (take 4 (drop 14 bytes)) (length payload) (length_field 4 14 bytes (omega arith)) (field_bytes 4 14 bytes are (omega arith)) (sym (same_from (said_in bytes) (length payload) rest.2)) in
    let spelled : bytes ≡ envelope_text kind value.id payload =
    sym (fields bytes) ∙ same_fields (take 2 bytes) (codes "PS") (take 2 (drop 2 bytes)) (1 ∷ kind_byte kind ∷ []) (take 2 (drop 4 bytes)) (to_be_bytes w16 (pharmacy_in bytes)) (take 8 (drop 6 bytes)) (to_be_bytes w64 (number_in bytes)) (take 4 (drop 14 bytes)) (to_be_bytes w32 (length payload)) payload
    magic fixed (sym pharmacy) (sym number) (sym said) in
    let good : IsTxn value.id = record {
      some_pharmacy = some_from (pharmacy_in bytes) rest.0;
      some_number = some_from (number_in bytes) rest.1;
      pharmacy_fits = below_16 (take 2 (drop 4 bytes)) pharmacy_are;
      number_fits = below_64 (take 8 (drop 6 bytes)) number_are;
    } in
    let found : IsTextOf place bytes value = record { text = spelled; id = good; short = short_from (length payload) rest.3; stands = refl } in
    subst (λ o. IsTextOf place bytes o) rest.4 found
  where
    long_from : (n : ℕ) → nat_lt n 18 ≡ false → 18 ≤ n
    long_from n t = grind (arith, nat_tests)

    short_from : (n : ℕ) → nat_lt 32768 n ≡ false → n ≤ 32768
    short_from n t = grind (arith, nat_tests)

    some_from : (n : ℕ) → (n == 0) ≡ false → 0 < n
    some_from n t = grind (arith, nat_tests)

    same_from : (m n : ℕ) → (m == n) ≡ true → m ≡ n
    same_from m n t = grind (arith, nat_tests)

pub read_is_text : (place : ℕ × ℕ) (bytes : List ℕ) (r : Result Opened EnvelopeFault) → AreBytes bytes → r ≡ envelope_of place bytes → IfOk r (λ e. IsTextOf place bytes e)
read_is_text place bytes (Ok e) are h = opened_is_text place bytes e are (sym h)
read_is_text place bytes (Err fault) are h = tt

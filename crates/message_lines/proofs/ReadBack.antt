-- A line spells the message for which it was written, and is not skipped.
use Rattle.std.proofs.Common.{◌≡◌, ℕ, zero, suc, ◌+◌, ◌-◌, ◌*◌, ◌/◌, ◌%◌, ◌<◌, ◌==◌, Bool, true, false, List, [], ◌∷◌, ◌++◌, Option, Some, None, Result, Ok, Err, codes, refl, arith, if◌then◌else◌}
use Rattle.std.specs.List.{All}
use Rattle.std.proofs.lemmas.Bool.Decides.{nat_tests}
use Rattle.std.proofs.lemmas.List.Elements.{All-head, All-tail}
use Rattle.input_text.specs.Lines.{is_skipped}
use Rattle.input_text.specs.Printing.{Spelling, escaped, first_spelling, hex_value, onto, printed, printed_byte, spelled_on, unprinted, unprinted_from}
use Rattle.input_text.specs.Printing as print
use Rattle.message_encoding.specs.JsonParts.{PrintedReadsBack}
use Rattle.message_words.specs.Spelled.{hex_before, hex_digit, hex_from}
use Rattle.message_lines.specs.Answers.{hex_text, printed_line}

-- ---- as they are printed

-- what is spelled does not hang on the place where a text stands
onto_same : (byte : ℕ) (one other : Result (List ℕ) ℕ) → ((bytes : List ℕ) → one ≡ Ok bytes → other ≡ Ok bytes)
    → (bytes : List ℕ) → onto byte one ≡ Ok bytes → onto byte other ≡ Ok bytes
onto_same byte (Ok behind) other next bytes e = rw (next behind refl) e
onto_same byte (Err place) other next bytes e = absurd cc

spelled_same : (p q : ℕ) (spelling : Option Spelling) (one other : ℕ → Result (List ℕ) ℕ)
    → ((skipped : ℕ) (bytes : List ℕ) → one skipped ≡ Ok bytes → other skipped ≡ Ok bytes)
    → (bytes : List ℕ) → spelled_on p spelling one ≡ Ok bytes → spelled_on q spelling other ≡ Ok bytes
spelled_same p q None one other next bytes e = absurd cc
spelled_same p q (Some spelling) one other next bytes e =
    onto_same spelling.0 (one (spelling.1 - 1)) (other (spelling.1 - 1)) (next (spelling.1 - 1)) bytes e

at_each_place : (p q skipped : ℕ) (text bytes : List ℕ) → unprinted_from p skipped text ≡ Ok bytes → unprinted_from q skipped text ≡ Ok bytes
unfolding unprinted_from
at_each_place p q skipped [] bytes e = e
at_each_place p q (suc skipped) (byte ∷ rest) bytes e = at_each_place (p + 1) (q + 1) skipped rest bytes e
at_each_place p q zero (byte ∷ rest) bytes e =
    spelled_same p q (first_spelling (byte ∷ rest)) (λ skipped. unprinted_from (p + 1) skipped rest) (λ skipped. unprinted_from (q + 1) skipped rest)
    (λ skipped bytes e. at_each_place (p + 1) (q + 1) skipped rest bytes e) bytes e

-- the spelling of `#`, and what is printed after it
after_mark : (rest : List ℕ) → unprinted (printed rest) ≡ Ok rest → unprinted (codes "\\x23" ++ printed rest) ≡ Ok (35 ∷ rest)
unfolding unprinted_from first_spelling escaped hex_value
after_mark rest back = rw (at_each_place 0 4 0 (printed rest) rest back) refl

line_of : PrintedReadsBack → (first : ℕ) (rest : List ℕ) → All (λ b. b < 256) (first ∷ rest)
    → (is : Bool) → (first == 35) ≡ is → unprinted (if is then codes "\\x23" ++ printed rest else printed (first ∷ rest)) ≡ Ok (first ∷ rest)
line_of back first rest are true is =
    let mark : first ≡ 35 = grind (arith, nat_tests) in
    rw mark (after_mark rest (back rest (All-tail (λ b. b < 256) first rest are)))
line_of back first rest are false is = back (first ∷ rest) are

pub printed_line_back : PrintedReadsBack → (bytes : List ℕ) → All (λ b. b < 256) bytes → unprinted (printed_line bytes) ≡ Ok bytes
printed_line_back back [] are = back [] are
printed_line_back back (first ∷ rest) are = line_of back first rest are (first == 35) refl

-- it begins with no mark
unmarked : (first : ℕ) (behind : List ℕ) → first < 256 → (first == 35) ≡ false → is_skipped (printed_byte first ++ behind) ≡ false
unfolding printed_byte
unmarked first behind lt other = grind (arith, nat_tests)

kept_of : (first : ℕ) (rest : List ℕ) → first < 256
    → (is : Bool) → (first == 35) ≡ is → is_skipped (if is then codes "\\x23" ++ printed rest else printed (first ∷ rest)) ≡ false
kept_of first rest lt true is = refl
kept_of first rest lt false is = unmarked first (printed rest) lt is

pub printed_line_kept : (bytes : List ℕ) → All (λ b. b < 256) bytes → (bytes ≡ [] → ⊥) → is_skipped (printed_line bytes) ≡ false
printed_line_kept [] are some = absurd (some refl)
printed_line_kept (first ∷ rest) are some = kept_of first rest (All-head (λ b. b < 256) first rest are) (first == 35) refl

-- ---- in hexadecimal digits

digit_back : (n : ℕ) → n < 16 → hex_digit (print.hex_digit n) ≡ Some n
unfolding hex_digit
digit_back n lt = grind (arith, nat_tests)

no_space : (n : ℕ) → n < 16 → (print.hex_digit n == 32) ≡ false
no_space n lt = grind (arith, nat_tests)

put : (byte high low place : ℕ) (bytes : List ℕ) (behind : Result (List ℕ) ℕ) → 16 * high + low ≡ byte → behind ≡ Ok bytes
    → hex_before place (Ok (16 * high + low)) behind ≡ Ok (byte ∷ bytes)
put byte high low place bytes behind whole is = rw (is, whole) refl

pub hex_text_back : (place : ℕ) (bytes : List ℕ) → All (λ b. b < 256) bytes → hex_from place (hex_text bytes) ≡ Ok bytes
hex_text_back place [] are = refl
hex_text_back place (byte ∷ bytes) are =
    let lt : byte < 256 = All-head (λ b. b < 256) byte bytes are in
    let high : byte / 16 < 16 = omega arith in
    let low : byte % 16 < 16 = omega arith in
    let whole : 16 * (byte / 16) + byte % 16 ≡ byte = omega arith in
    let behind = hex_text_back (place + 2) bytes (All-tail (λ b. b < 256) byte bytes are) in
    rw (no_space (byte / 16) high, digit_back (byte / 16) high, digit_back (byte % 16) low) (put byte (byte / 16) (byte % 16) place bytes (hex_from (place + 2) (hex_text bytes)) whole behind)

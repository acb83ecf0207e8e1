-- What is printed is read back.
use Rattle.std.proofs.Common.{◌≡◌, ℕ, ◌+◌, ◌*◌, ◌/◌, ◌%◌, ◌<◌, List, [], ◌∷◌, ◌++◌, length, drop, Some, Ok, refl, ap, ◌∙◌, arith}
use Rattle.std.specs.List.{All}
use Rattle.std.proofs.lemmas.Bool.Decides.{nat_tests}
use Rattle.std.proofs.lemmas.List.{drop_at, length-append}
use Rattle.std.proofs.lemmas.List.Elements.{All-head, All-tail}
use Rattle.input_text.specs.Printing.{hex_digit, hex_value, hex_spelling, printed_byte, printed, escaped, first_spelling, onto, unprinted_from}
use Rattle.input_text.proofs.Reading.{unprinted_from-spelled}

pub hex_value-hex_digit : (n : ℕ) → n < 16 → hex_value (hex_digit n) ≡ Some n
unfolding hex_value
hex_value-hex_digit n lt = grind (arith, nat_tests)

hex_spelling-hex_digit : (byte : ℕ) → byte < 256 → hex_spelling (hex_value (hex_digit (byte / 16))) (hex_value (hex_digit (byte % 16))) ≡ Some (byte, 4)
hex_spelling-hex_digit byte lt =
    let high : byte / 16 < 16 = omega arith in
    let low : byte % 16 < 16 = omega arith in
    let whole : 16 * (byte / 16) + byte % 16 ≡ byte = omega arith in
    rw (hex_value-hex_digit (byte / 16) high, hex_value-hex_digit (byte % 16) low) (ap (λ n. Some (n, 4)) whole)

pub first_spelling-printed_byte : (byte : ℕ) (rest : List ℕ) → byte < 256 → first_spelling (printed_byte byte ++ rest) ≡ Some (byte, length (printed_byte byte))
unfolding first_spelling printed_byte escaped
first_spelling-printed_byte byte rest lt =
    let hex = hex_spelling-hex_digit byte lt in
    grind (arith, nat_tests)

pub length-printed_byte : (byte : ℕ) → 0 < length (printed_byte byte)
unfolding printed_byte
length-printed_byte byte = grind (arith, nat_tests)

-- from every place on
pub unprinted_from-printed : (place : ℕ) (bytes : List ℕ) → All (λ b. b < 256) bytes → unprinted_from place 0 (printed bytes) ≡ Ok bytes
unfolding unprinted_from
unprinted_from-printed place [] are = refl
unprinted_from-printed place (b ∷ bs) are =
    let size = length (printed_byte b) in
    let text = printed_byte b ++ printed bs in
    let one = unprinted_from-spelled place b size text (first_spelling-printed_byte b (printed bs) (All-head (λ b. b < 256) b bs are)) (length-printed_byte b) (omega (arith, length-append (printed_byte b) (printed bs))) in
    let rest : drop size text ≡ printed bs = drop_at (printed_byte b) (printed bs) size refl in
    one ∙ ap (λ (bs : List ℕ). onto b (unprinted_from (place + size) 0 bs)) rest ∙ ap (onto b) (unprinted_from-printed (place + size) bs (All-tail (λ b. b < 256) b bs are))

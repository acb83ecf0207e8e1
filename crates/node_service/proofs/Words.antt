-- A word of a line has no space, and its bytes are read back from it.
use Rattle.std.proofs.Common.{◌≡◌, ℕ, zero, suc, ◌+◌, ◌-◌, ◌*◌, ◌/◌, ◌%◌, ◌<◌, ◌≤◌, ◌^◌, Bool, true, false, ◌&&◌, not, List, [], ◌∷◌, ◌++◌, length, drop, Some, Result, Ok, refl, sym, ap, ◌∙◌, subst, arith}
use Rattle.std.specs.List.{All, list_all}
use Rattle.std.proofs.lemmas.Bool.Decides.{nat_tests}
use Rattle.std.proofs.lemmas.List.{drop_at, length-append}
use Rattle.std.proofs.lemmas.List.Elements.{All-head, All-tail}
use Rattle.std.proofs.lemmas.List.Folds.{list_all-append}
use Rattle.input_text.specs.Printing.{hex_digit, hex_value, hex_spelling, printed_byte, escaped, first_spelling, onto, spelled_on, unprinted, unprinted_from}
use Rattle.schedule.proofs.Names.{is_inner}
use Rattle.node_service.specs.Payments.{word_byte, word_of}

-- what a rest spells at every place, it spells after bytes that belong to a spelling before it
passes : (k : ℕ) (text rest : List ℕ) (got : Result (List ℕ) ℕ) → k ≤ length text → drop k text ≡ rest → ((p : ℕ) → unprinted_from p 0 rest ≡ got) → (p : ℕ) → unprinted_from p k text ≡ got
unfolding unprinted_from
passes zero text rest got fits same all p = ap (unprinted_from p 0) same ∙ all p
passes (suc k) [] rest got fits same all p = absurd (omega arith)
passes (suc k) (b ∷ text) rest got fits same all p = passes k text rest got (omega arith) same all (p + 1)

-- a spelling, and then what the rest spells
spells_on : (b size : ℕ) (text rest bs : List ℕ) → first_spelling text ≡ Some (b, size) → 0 < size → size ≤ length text → drop size text ≡ rest → ((p : ℕ) → unprinted_from p 0 rest ≡ Ok bs)
    → (p : ℕ) → unprinted_from p 0 text ≡ Ok (b ∷ bs)
unfolding unprinted_from
spells_on b size [] rest bs is some fits same all p = absurd (omega arith)
spells_on b zero (c ∷ text) rest bs is some fits same all p = absurd (omega arith)
spells_on b (suc k) (c ∷ text) rest bs is some fits same all p =
    let less : suc k - 1 ≡ k = omega arith in
    ap (λ s. spelled_on p s (λ skipped. unprinted_from (p + 1) skipped text)) is
    ∙ ap (λ skipped. onto b (unprinted_from (p + 1) skipped text)) less
    ∙ ap (onto b) (passes k text rest (Ok bs) (omega arith) same all (p + 1))

-- the digits of a byte
digit_back : (n : ℕ) → n < 16 → hex_value (hex_digit n) ≡ Some n
unfolding hex_value
digit_back n lt = grind (arith, nat_tests)

digits_back : (b : ℕ) → b < 256 → hex_spelling (hex_value (hex_digit (b / 16))) (hex_value (hex_digit (b % 16))) ≡ Some (b, 4)
digits_back b lt =
    let high : b / 16 < 16 = omega arith in
    let low : b % 16 < 16 = omega arith in
    let whole : 16 * (b / 16) + b % 16 ≡ b = omega arith in
    rw (digit_back (b / 16) high, digit_back (b % 16) low) (ap (λ n. Some (n, 4)) whole)

byte_back : (b : ℕ) (rest : List ℕ) → b < 256 → first_spelling (word_byte b ++ rest) ≡ Some (b, length (word_byte b))
unfolding word_byte first_spelling printed_byte escaped hex_value
byte_back b rest lt =
    let hex = digits_back b lt in
    grind (arith, nat_tests)

some_byte : (b : ℕ) → 0 < length (word_byte b)
unfolding word_byte printed_byte
some_byte b = grind (arith, nat_tests)

inner_byte : (b : ℕ) → list_all is_inner (word_byte b) ≡ true
unfolding word_byte printed_byte
inner_byte b = grind (arith, nat_tests)

-- a word has no space
pub word_inner : (bytes : List ℕ) → list_all is_inner (word_of bytes) ≡ true
word_inner [] = refl
word_inner (b ∷ bytes) = list_all-append is_inner (word_byte b) (word_of bytes) ∙ (rw (inner_byte b, word_inner bytes) refl)

back_from : (bytes : List ℕ) → All (λ b. b < 256) bytes → (p : ℕ) → unprinted_from p 0 (word_of bytes) ≡ Ok bytes
unfolding unprinted_from
back_from [] are p = refl
back_from (b ∷ bytes) are p =
    let text = word_byte b ++ word_of bytes in
    let fits : length (word_byte b) ≤ length text = omega (arith, length-append (word_byte b) (word_of bytes)) in
    spells_on b (length (word_byte b)) text (word_of bytes) bytes (byte_back b (word_of bytes) (All-head (λ b. b < 256) b bytes are)) (some_byte b) fits
    (drop_at (word_byte b) (word_of bytes) (length (word_byte b)) refl) (back_from bytes (All-tail (λ b. b < 256) b bytes are)) p

-- the bytes of a word are read back
pub word_back : (bytes : List ℕ) → All (λ b. b < 2 ^ 8) bytes → unprinted (word_of bytes) ≡ Ok bytes
word_back bytes are = back_from bytes are 0

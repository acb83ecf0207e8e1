-- Texts that stand for themselves, in lines and in JSON.
use Rattle.std.proofs.Common.{◌≡◌, ℕ, Bool, true, false, ◌&&◌, List, [], ◌∷◌, ◌++◌, take, min, refl, ap, sym, arith, ◌∙◌}
use Rattle.std.specs.List.{list_all}
use Rattle.std.proofs.lemmas.Bool.{false≢true}
use Rattle.std.proofs.lemmas.Bool.Decides.{nat_tests}
use Rattle.std.proofs.lemmas.List.{take-replicate, length-replicate}
use Rattle.input_text.specs.Printing.{printed, printed_byte, stands_for_itself}
use Rattle.message_parts.proofs.AtRest.{take_min}
use Rattle.message_words.specs.Encoded.{spaces, is_letter, json_letter, json_letters}

-- the first of as many spaces
pub spaces_front : (count : ℕ) → take count (spaces 128) ≡ spaces (min count 128)
spaces_front count =
    sym (take_min (spaces 128) count (min count 128) (ap (min count) (sym (length-replicate {A = ℕ} 128 32)))) ∙ take-replicate (min count 128) 128 32 (omega arith)

pub both_true : (a b : Bool) → (a && b) ≡ true → (a ≡ true) × (b ≡ true)
both_true true true e = (refl, refl)
both_true true false e = absurd (false≢true e)
both_true false b e = absurd (false≢true e)

plain_printed : (b : ℕ) → stands_for_itself b ≡ true → printed_byte b ≡ b ∷ []
unfolding printed_byte
plain_printed b is = grind (arith, nat_tests)

-- bytes that are printed as they are
pub printed_plain : (bytes : List ℕ) → list_all stands_for_itself bytes ≡ true → printed bytes ≡ bytes
printed_plain [] e = refl
printed_plain (b ∷ bs) e =
    let h : (stands_for_itself b ≡ true) × (list_all stands_for_itself bs ≡ true) = both_true (stands_for_itself b) (list_all stands_for_itself bs) e in
    (λ i. plain_printed b h.0 i ++ printed_plain bs h.1 i)

one_letter : (b : ℕ) → is_letter b ≡ true → json_letter b ≡ b ∷ []
unfolding json_letter
one_letter b is = grind (arith, nat_tests)

-- letters that stand for themselves in a string of JSON
pub plain_letters : (text : List ℕ) → list_all is_letter text ≡ true → json_letters text ≡ text
plain_letters [] e = refl
plain_letters (b ∷ bs) e =
    let h : (is_letter b ≡ true) × (list_all is_letter bs ≡ true) = both_true (is_letter b) (list_all is_letter bs) e in
    (λ i. one_letter b h.0 i ++ plain_letters bs h.1 i)

all_stand : (bytes : List ℕ) → list_all is_letter bytes ≡ true → list_all stands_for_itself bytes ≡ true
all_stand [] e = refl
all_stand (b ∷ bs) e =
    let h : (is_letter b ≡ true) × (list_all is_letter bs ≡ true) = both_true (is_letter b) (list_all is_letter bs) e in
    let first : stands_for_itself b ≡ true = (both_true (stands_for_itself b) _ h.0).0 in
    (λ i. first i && all_stand bs h.1 i)

-- both at once
pub plain_printed_letters : (bytes : List ℕ) → list_all is_letter bytes ≡ true → json_letters (printed bytes) ≡ bytes
plain_printed_letters bytes e = (λ i. json_letters (printed_plain bytes (all_stand bytes e) i)) ∙ plain_letters bytes e

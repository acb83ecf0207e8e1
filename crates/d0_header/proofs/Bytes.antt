-- Tests of every byte, and the first separator.
use Rattle.std.proofs.Common.{◌≡◌, ℕ, suc, ◌+◌, ◌≤◌, Bool, true, false, ◌&&◌, cond, List, [], ◌∷◌, length, Option, Some, None, ltb, refl, sym, ap, ◌∙◌, arith}
use Rattle.std.specs.List.{concat, list_all, prefix_len}
use Rattle.std.proofs.lemmas.Bool.{and_parts, and_from, le-ltb, ltb-false}
use Rattle.std.proofs.lemmas.Bool.Decides.{nat_tests}
use Rattle.std.proofs.lemmas.List.Folds.{list_all-append}
use Rattle.d0_header.specs.Field.{is_digit, is_plain, first_separator}

-- a digit is no separator
digit_is_plain : (byte : ℕ) → is_digit byte ≡ true → is_plain byte ≡ true
digit_is_plain byte h = grind (arith, nat_tests)

pub plain_from_digits : (bytes : List ℕ) → list_all is_digit bytes ≡ true → list_all is_plain bytes ≡ true
plain_from_digits [] h = refl
plain_from_digits (b ∷ bs) h =
    let p = and_parts (is_digit b) (list_all is_digit bs) h in
    and_from (is_plain b) (list_all is_plain bs) (digit_is_plain b p.0) (plain_from_digits bs p.1)

-- no field has a separator
abbrev pub ArePlain : List (List ℕ) → Type 0
ArePlain [] = Unit {0}
ArePlain (f ∷ fs) = (list_all is_plain f ≡ true) × ArePlain fs

-- what passes of joined fields passes of each
pub fields_pass : (fields : List (List ℕ)) → list_all is_plain (concat fields) ≡ true → ArePlain fields
fields_pass [] h = tt
fields_pass (f ∷ fs) h =
    let p = and_parts (list_all is_plain f) (list_all is_plain (concat fs)) (sym (list_all-append is_plain f (concat fs)) ∙ h) in
    (p.0, fields_pass fs p.1)

-- what passes of each field passes of them joined
pub text_passes : (fields : List (List ℕ)) → ArePlain fields → list_all is_plain (concat fields) ≡ true
text_passes [] h = refl
text_passes (f ∷ fs) h =
    list_all-append is_plain f (concat fs) ∙ and_from (list_all is_plain f) (list_all is_plain (concat fs)) h.0 (text_passes fs h.1)

-- bytes that all pass have no first one that does not
prefix_of_all : (q : ℕ → Bool) (bytes : List ℕ) → list_all q bytes ≡ true → prefix_len q bytes ≡ length bytes
prefix_of_all q [] h = refl
prefix_of_all q (b ∷ bs) h =
    let p = and_parts (q b) (list_all q bs) h in
    rw p.0 (omega (arith, prefix_of_all q bs p.1))

-- where each of them passes up to the end, all pass
all_of_prefix : (q : ℕ → Bool) (bytes : List ℕ) → length bytes ≤ prefix_len q bytes → list_all q bytes ≡ true
all_of_prefix q [] h = refl
all_of_prefix q (b ∷ bs) h =
    elim (q b) as (λ t. suc (length bs) ≤ cond t (1 + prefix_len q bs) 0 → (t && list_all q bs) ≡ true) [
      | true ↦ λ k. all_of_prefix q bs (omega arith)
      | false ↦ λ k. absurd (omega arith)
    ] h

abbrev seen : Bool → ℕ → Option ℕ
seen t n = cond t (Some n) None

pub none_from_plain : (bytes : List ℕ) → list_all is_plain bytes ≡ true → first_separator bytes ≡ None
none_from_plain bytes h =
    ap (λ t. seen t (prefix_len is_plain bytes)) (le-ltb (prefix_len is_plain bytes) (length bytes) (omega (arith, prefix_of_all is_plain bytes h)))

none_at : (t : Bool) (n : ℕ) → seen t n ≡ None → t ≡ false
none_at true n e = absurd cc
none_at false n e = refl

pub plain_from_none : (bytes : List ℕ) → first_separator bytes ≡ None → list_all is_plain bytes ≡ true
plain_from_none bytes h =
    all_of_prefix is_plain bytes (ltb-false (prefix_len is_plain bytes) (length bytes) (none_at (ltb (prefix_len is_plain bytes) (length bytes)) (prefix_len is_plain bytes) h))

-- What a text is that is read as a reject code.
use Rattle.std.proofs.Common.{◌≡◌, ℕ, ◌≤◌, Bool, true, false, ◌||◌, ◌==◌, cond, List, [], ◌∷◌, length, Option, Some, None, codes, refl, ap, sym, subst, ◌∙◌, arith}
use Rattle.std.specs.Prelude.{option_map}
use Rattle.std.specs.Str.{bytes_eq}
use Rattle.std.specs.List.{list_all}
use Rattle.std.proofs.lemmas.Bool.{and_parts}
use Rattle.std.proofs.lemmas.Bool.Decides.{nat_tests}
use Rattle.std.proofs.lemmas.Slice.Eq.{bytes_eq-Decides}
use Rattle.d0_segments.specs.Separators.{is_separator, is_plain}
use Rattle.claim_profile.specs.declared.reject.Code.{Code}
use Rattle.claim_profile.specs.declared.reject.Code.TheVariants.{Bin, Cardholder, DateOfService, Prescription, FillNumber, Product, IngredientCost, Quantity, DispensingFee, NotCovered, DuplicateClaim, ReversalNotProcessed, Other}
use Rattle.claim_profile.specs.CodeTexts.{is_code_letter, is_code_text, other_code}
use Rattle.claim_profile.specs.Reject.{code_text}
use Rattle.claim_profile.specs.Ruling.{known_code, or_other, code_of, IsCode}

-- a code with its text: some bytes, three at most, and no separator
pub record ReadAs (text : List ℕ) (c : Code) : Type 0 where
  pub same : code_text c ≡ text
  pub some : 1 ≤ length text
  pub short : length text ≤ 3
  pub plain : is_plain text ≡ true

same_code : (a b : Code) → Some a ≡ Some b → a ≡ b
same_code a b e = cc

-- a text that is this word, or is read otherwise
known : (text word : List ℕ) (k : Code) (rest : Option Code) (c : Code) → ReadAs word k → (rest ≡ Some c → ReadAs text c) → cond (bytes_eq text word) (Some k) rest ≡ Some c → ReadAs text c
known text word k rest c is others e = by_test (bytes_eq text word) refl e
  where
    by_test : (t : Bool) → bytes_eq text word ≡ t → cond t (Some k) rest ≡ Some c → ReadAs text c
    by_test true same h =
        subst (λ (it : Code). ReadAs text it) (same_code k c h) (subst (λ (t : List ℕ). ReadAs t k) (sym ((bytes_eq-Decides text word).0 same)) is)
    by_test false same h = others h

letter_apart : (b : ℕ) → is_code_letter b ≡ true → is_separator b ≡ false
letter_apart b is = grind (arith, nat_tests)

letters_plain : (text : List ℕ) → list_all is_code_letter text ≡ true → is_plain text ≡ true
letters_plain [] are = refl
letters_plain (b ∷ text) are =
    let p = and_parts (is_code_letter b) (list_all is_code_letter text) are in
    rw (letter_apart b p.0, letters_plain text p.1) refl

two_or_three : (n : ℕ) → (n == 2 || n == 3) ≡ true → (1 ≤ n) × (n ≤ 3)
two_or_three n e = (grind (arith, nat_tests), grind (arith, nat_tests))

another : (text : List ℕ) (c : Code) → option_map (λ (t : List ℕ). Other t) (other_code text) ≡ Some c → ReadAs text c
another text c e = by_test (is_code_text text) refl e
  where
    by_test : (t : Bool) → is_code_text text ≡ t → option_map (λ (t : List ℕ). Other t) (cond t (Some text) None) ≡ Some c → ReadAs text c
    by_test true is h =
        let p = and_parts (length text == 2 || length text == 3) (list_all is_code_letter text) is in
        let n = two_or_three (length text) p.0 in
        subst (λ (it : Code). ReadAs text it) (same_code (Other text) c h) (record { same = refl; some = n.0; short = n.1; plain = letters_plain text p.1 })
    by_test false is h = absurd cc

word : (k : Code) → 1 ≤ length (code_text k) → length (code_text k) ≤ 3 → is_plain (code_text k) ≡ true → ReadAs (code_text k) k
word k some short plain = record { same = refl; some = some; short = short; plain = plain }

is_known : (text : List ℕ) (c : Code) → known_code text ≡ Some c → ReadAs text c
is_known text c =
    known text (codes "01") Bin _ c (word Bin (omega arith) (omega arith) refl)
    (known text (codes "07") Cardholder _ c (word Cardholder (omega arith) (omega arith) refl)
    (known text (codes "15") DateOfService _ c (word DateOfService (omega arith) (omega arith) refl)
    (known text (codes "16") Prescription _ c (word Prescription (omega arith) (omega arith) refl)
    (known text (codes "17") FillNumber _ c (word FillNumber (omega arith) (omega arith) refl)
    (known text (codes "21") Product _ c (word Product (omega arith) (omega arith) refl)
    (known text (codes "23") IngredientCost _ c (word IngredientCost (omega arith) (omega arith) refl)
    (known text (codes "E7") Quantity _ c (word Quantity (omega arith) (omega arith) refl)
    (known text (codes "DC") DispensingFee _ c (word DispensingFee (omega arith) (omega arith) refl)
    (known text (codes "70") NotCovered _ c (word NotCovered (omega arith) (omega arith) refl)
    (known text (codes "83") DuplicateClaim _ c (word DuplicateClaim (omega arith) (omega arith) refl)
    (known text (codes "87") ReversalNotProcessed _ c (word ReversalNotProcessed (omega arith) (omega arith) refl)
    (λ e. absurd cc))))))))))))

pub read_as : (text : List ℕ) (c : Code) → code_of text ≡ Some c → ReadAs text c
read_as text c e = by_known (known_code text) refl e
  where
    by_known : (k : Option Code) → known_code text ≡ k → or_other k text ≡ Some c → ReadAs text c
    by_known (Some d) is h = is_known text c (is ∙ h)
    by_known None is h = another text c h

-- what is read is a code
pub code_is : (text : List ℕ) (c : Code) → code_of text ≡ Some c → IsCode c
code_is text c e = ap code_of (read_as text c e).same ∙ e

-- the text of a code
pub code_parts : (c : Code) → IsCode c → ReadAs (code_text c) c
code_parts c is = read_as (code_text c) c is

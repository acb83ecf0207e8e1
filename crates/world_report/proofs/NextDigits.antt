-- The digits of a number, and of the next.
use Rattle.std.proofs.Common.{◌≡◌, ℕ, suc, ◌+◌, ◌-◌, ◌/◌, ◌%◌, ◌^◌, ◌<◌, ◌≤◌, Bool, true, false, cond, List, [], ◌∷◌, ◌++◌, length, drop, set, get_or, nat_lt, refl, sym, ap, ◌∙◌, subst, append-nil, length-append, arith}
use Rattle.std.specs.Prelude.{decimal}
use Rattle.std.proofs.lemmas.Bool.Decides.{nat_tests}
use Rattle.std.proofs.lemmas.Fmt.{decimal_digit, decimal_step}
use Rattle.std.proofs.lemmas.List.{get_or-drop, drop-set-add}
use Rattle.std.proofs.Math.Seq.{set-append_seam, get_or-append_seam}
use Rattle.world_report.specs.Words.{behind_spaces}

-- a word after a space
pub one_word : (word : List ℕ) → 32 ∷ word ≡ behind_spaces (word ∷ [])
unfolding behind_spaces
one_word word = ap (λ (t : List ℕ). 32 ∷ t) (sym (append-nil word))

-- the digits before the last
abbrev front_if : Bool → ℕ → List ℕ
front_if true n = []
front_if false n = decimal (n / 10)

abbrev pub front : ℕ → List ℕ
front n = front_if (nat_lt n 10) n

digits_by : (n : ℕ) (b : Bool) → nat_lt n 10 ≡ b → n < 2 ^ 64 → decimal n ≡ front_if b n ++ (48 + n % 10) ∷ []
digits_by n true e fits =
    let small : n < 10 = grind (arith, nat_tests) in
    let same : n % 10 ≡ n = omega (arith, small) in
    decimal_digit n small ∙ ap (λ (k : ℕ). (48 + k) ∷ []) (sym same)
digits_by n false e fits = let large : 10 ≤ n = grind (arith, nat_tests) in decimal_step n large fits

pub digits_are : (n : ℕ) → n < 2 ^ 64 → decimal n ≡ front n ++ (48 + n % 10) ∷ []
digits_are n fits = digits_by n (nat_lt n 10) refl fits

-- the next number, where the last digit is no nine

front_by : (n : ℕ) (b c : Bool) → nat_lt n 10 ≡ b → nat_lt (n + 1) 10 ≡ c → n % 10 < 9 → front_if c (n + 1) ≡ front_if b n
front_by n true true e f low = refl
front_by n false false e f low = let same : (n + 1) / 10 ≡ n / 10 = omega (arith, low) in ap decimal same
front_by n true false e f low = absurd (let a : n < 10 = grind (arith, nat_tests) in let b : 10 ≤ n + 1 = grind (arith, nat_tests) in omega (arith, a, b, low))
front_by n false true e f low = absurd (let a : 10 ≤ n = grind (arith, nat_tests) in let b : n + 1 < 10 = grind (arith, nat_tests) in omega (arith, a, b))

pub next_digits : (n : ℕ) → n + 1 < 2 ^ 64 → n % 10 < 9 → decimal (n + 1) ≡ front n ++ (48 + n % 10 + 1) ∷ []
next_digits n fits low =
    let last : (n + 1) % 10 ≡ n % 10 + 1 = omega (arith, low) in
    digits_are (n + 1) fits ∙ ap (λ (ds : List ℕ). ds ++ (48 + (n + 1) % 10) ∷ []) (front_by n (nat_lt n 10) (nat_lt (n + 1) 10) refl refl low) ∙ ap (λ (k : ℕ). front n ++ k ∷ []) (let sum : 48 + (n + 1) % 10 ≡ 48 + n % 10 + 1 = omega (arith, last) in sum)

-- the last byte of a text of forty-five, of which these bytes stand at the end

at_last : (text : List ℕ) (start : ℕ) (xs : List ℕ) (x : ℕ) → length text ≡ 45 → start ≤ 45 → drop start text ≡ xs ++ x ∷ [] → start + length xs ≡ 44
at_last text start xs x long within ends =
    let a : length (drop start text) ≡ 45 - start = Rattle.std.proofs.Common.length-drop start text ∙ ap (λ (n : ℕ). n - start) long in
    let b : length (xs ++ x ∷ []) ≡ length xs + 1 = length-append xs (x ∷ []) in
    let c : 45 - start ≡ length xs + 1 = sym a ∙ ap length ends ∙ b in
    omega (arith, c, within)

pub last_is : (text : List ℕ) (start : ℕ) (xs : List ℕ) (x d : ℕ) → length text ≡ 45 → start ≤ 45 → drop start text ≡ xs ++ x ∷ [] → get_or text 44 d ≡ x
last_is text start xs x d long within ends =
    let at = at_last text start xs x long within ends in
    ap (λ (n : ℕ). get_or text n d) (sym at) ∙ sym (get_or-drop start text (length xs) d) ∙ ap (λ (t : List ℕ). get_or t (length xs) d) ends ∙ get_or-append_seam xs x [] d

pub last_set : (text : List ℕ) (start : ℕ) (xs : List ℕ) (x y : ℕ) → length text ≡ 45 → start ≤ 45 → drop start text ≡ xs ++ x ∷ [] → drop start (set text 44 y) ≡ xs ++ y ∷ []
last_set text start xs x y long within ends =
    let at = at_last text start xs x long within ends in
    ap (λ (n : ℕ). drop start (set text n y)) (sym at) ∙ drop-set-add start text (length xs) y ∙ ap (λ (t : List ℕ). set t (length xs) y) ends ∙ set-append_seam xs x [] y

-- so the text of a number becomes that of the next

pub low_digit : (text : List ℕ) (start n : ℕ) (d : ℕ) → length text ≡ 45 → start ≤ 45 → n < 2 ^ 64 → drop start text ≡ 32 ∷ decimal n → get_or text 44 d ≡ 48 + n % 10
low_digit text start n d long within fits ends = last_is text start (32 ∷ front n) (48 + n % 10) d long within (ends ∙ ap (λ (t : List ℕ). 32 ∷ t) (digits_are n fits))

pub next_text : (text : List ℕ) (start n : ℕ) → length text ≡ 45 → start ≤ 45 → n + 1 < 2 ^ 64 → n % 10 < 9 → drop start text ≡ 32 ∷ decimal n → drop start (set text 44 (48 + n % 10 + 1)) ≡ 32 ∷ decimal (n + 1)
next_text text start n long within fits low ends =
    let less : n < 2 ^ 64 = omega (arith, fits) in
    last_set text start (32 ∷ front n) (48 + n % 10) (48 + n % 10 + 1) long within (ends ∙ ap (λ (t : List ℕ). 32 ∷ t) (digits_are n less))
    ∙ ap (λ (t : List ℕ). 32 ∷ t) (sym (next_digits n fits low))

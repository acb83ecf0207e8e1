-- What a search for the next separator finds.
use Rattle.std.proofs.Common.{◌≡◌, ℕ, zero, suc, ◌+◌, ◌<◌, ◌≤◌, Bool, true, false, not, cond, ◌&&◌, List, [], ◌∷◌, ◌++◌, length, get_or, Option, Some, None, refl, sym, ap, ◌∙◌, arith}
use Rattle.std.specs.Prelude.{option_map}
use Rattle.memchr.specs.Find.{IsFirstByte}
use Rattle.d0_segments.specs.Separators.{is_separator, is_plain, is_id, first_separator}

-- of a byte that passes no test
none_behind : (b : ℕ) (bs : List ℕ) → ((k : ℕ) → 0 ≤ k → k < length (b ∷ bs) → is_separator (get_or (b ∷ bs) k 0) ≡ true → ⊥)
    → (k : ℕ) → 0 ≤ k → k < length bs → is_separator (get_or bs k 0) ≡ true → ⊥
none_behind b bs h k low lt = h (suc k) (omega arith) (omega arith)

is_false : (b : Bool) → (b ≡ true → ⊥) → b ≡ false
is_false true h = absurd (h refl)
is_false false h = refl

first_none : (bs : List ℕ) → ((k : ℕ) → 0 ≤ k → k < length bs → is_separator (get_or bs k 0) ≡ true → ⊥) → first_separator bs ≡ None
first_none [] h = refl
first_none (b ∷ bs) h =
    let no : is_separator b ≡ false = is_false (is_separator b) (h 0 (omega arith) (omega arith)) in
    let later : first_separator bs ≡ None = first_none bs (none_behind b bs h) in
    ap (λ t. cond t (Some 0) (option_map suc (first_separator bs))) no ∙ ap (option_map suc) later

first_some : (bs : List ℕ) (k : ℕ) → k < length bs → ((j : ℕ) → 0 ≤ j → j < k → is_separator (get_or bs j 0) ≡ true → ⊥) → is_separator (get_or bs k 0) ≡ true → first_separator bs ≡ Some k
first_some [] k lt h stands = absurd (omega arith)
first_some (b ∷ bs) zero lt h stands = ap (λ t. cond t (Some 0) (option_map suc (first_separator bs))) stands
first_some (b ∷ bs) (suc k) lt h stands =
    let no : is_separator b ≡ false = is_false (is_separator b) (h 0 (omega arith) (omega arith)) in
    let later : first_separator bs ≡ Some k = first_some bs k (omega arith) (λ j low below. h (suc j) (omega arith) (omega arith)) stands in
    ap (λ t. cond t (Some 0) (option_map suc (first_separator bs))) no ∙ ap (option_map suc) later

pub first_from_search : (bs : List ℕ) (r : Option ℕ) → IsFirstByte is_separator bs r → r ≡ first_separator bs
first_from_search bs None h = sym (first_none bs h)
first_from_search bs (Some k) h = sym (first_some bs k h.0.high h.0.before h.1)

-- what stands around the first separator
suc_of : (o : Option ℕ) (k : ℕ) → option_map suc o ≡ Some (suc k) → o ≡ Some k
suc_of None k e = absurd cc
suc_of (Some j) k e = cc

not_zero : (o : Option ℕ) → option_map suc o ≡ Some 0 → ⊥
not_zero None e = cc
not_zero (Some j) e = let h : suc j ≡ 0 = cc in omega arith

mapped_none : (o : Option ℕ) → option_map suc o ≡ None → o ≡ None
mapped_none None e = refl
mapped_none (Some j) e = absurd cc

pub head_none : (t : Bool) (o : Option ℕ) → cond t (Some 0) (option_map suc o) ≡ None → (t ≡ false) × (o ≡ None)
head_none true o e = absurd cc
head_none false o e = (refl, mapped_none o e)

pub head_zero : (t : Bool) (o : Option ℕ) → cond t (Some 0) (option_map suc o) ≡ Some 0 → t ≡ true
head_zero true o e = refl
head_zero false o e = absurd (not_zero o e)

pub head_suc : (t : Bool) (o : Option ℕ) (p : ℕ) → cond t (Some 0) (option_map suc o) ≡ Some (suc p) → (t ≡ false) × (o ≡ Some p)
head_suc true o p e = let h : 0 ≡ suc p = cc in absurd (omega arith)
head_suc false o p e = (refl, suc_of o p e)

pub plain_if_none : (bs : List ℕ) → first_separator bs ≡ None → is_plain bs ≡ true
plain_if_none [] e = refl
plain_if_none (b ∷ bs) e =
    let h = head_none (is_separator b) (first_separator bs) e in
    ap (λ t. not t && is_plain bs) h.0 ∙ plain_if_none bs h.1

pub is_id_plain : (id : List ℕ) → length id ≡ 2 → first_separator id ≡ None → is_id id ≡ true
is_id_plain [] two e = absurd (omega arith)
is_id_plain (a ∷ []) two e = absurd (omega arith)
is_id_plain (a ∷ b ∷ []) two e =
    let first = head_none (is_separator a) (first_separator (b ∷ [])) e in
    let second = head_none (is_separator b) None first.1 in
    ap (λ t. not t && not (is_separator b)) first.0 ∙ ap not second.0
is_id_plain (a ∷ b ∷ c ∷ id) two e = absurd (omega arith)

-- the first separator of a text in two parts
pub first_in_front : (xs ys : List ℕ) (p : ℕ) → first_separator xs ≡ Some p → first_separator (xs ++ ys) ≡ Some p
first_in_front [] ys p e = absurd cc
first_in_front (x ∷ xs) ys zero e =
    let here : is_separator x ≡ true = head_zero (is_separator x) (first_separator xs) e in
    ap (λ t. cond t (Some 0) (option_map suc (first_separator (xs ++ ys)))) here
first_in_front (x ∷ xs) ys (suc p) e =
    let h = head_suc (is_separator x) (first_separator xs) p e in
    ap (λ t. cond t (Some 0) (option_map suc (first_separator (xs ++ ys)))) h.0 ∙ ap (option_map suc) (first_in_front xs ys p h.1)

first_later : (xs ys : List ℕ) (p : ℕ) → first_separator xs ≡ None → first_separator ys ≡ Some p → first_separator (xs ++ ys) ≡ Some (length xs + p)
first_later [] ys p e h = h ∙ ap Some (omega arith)
first_later (x ∷ xs) ys p e h =
    let parts = head_none (is_separator x) (first_separator xs) e in
    ap (λ t. cond t (Some 0) (option_map suc (first_separator (xs ++ ys)))) parts.0 ∙ ap (option_map suc) (first_later xs ys p parts.1 h) ∙ ap Some (omega arith)

pub first_behind : (id value : List ℕ) (p : ℕ) → length id ≡ 2 → first_separator id ≡ None → first_separator value ≡ Some p → first_separator (id ++ value) ≡ Some (2 + p)
first_behind id value p two e h = first_later id value p e h ∙ ap (λ n. Some (n + p)) two

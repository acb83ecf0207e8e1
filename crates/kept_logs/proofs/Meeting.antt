-- Bytes against those that have to stand there.
use Rattle.std.proofs.Common.{◌≡◌, ℕ, zero, suc, ◌-◌, ◌<◌, ◌≤◌, ◌==◌, ◌&&◌, Bool, true, false, not, cond, List, [], ◌∷◌, ◌++◌, length, take, drop, nat_eq, refl, ◌∙◌, ap, arith}
use Rattle.std.proofs.lemmas.Bool.Decides.{nat_tests}
use Rattle.std.proofs.lemmas.List.{take_rest}
use Rattle.std.specs.Cmp.Lexicographic.{pointwise}
use Rattle.kept_logs.specs.Frames.{Whole, Torn, Differs, met}

differs_at : (wanted bytes : List ℕ) (k : ℕ) → k ≤ length wanted → k ≤ length bytes → pointwise nat_eq (take k wanted) (take k bytes) ≡ false → Differs ≡ met wanted bytes
differs_at wanted bytes zero a b h = cc
differs_at [] bytes (suc k) a b h = absurd (omega arith)
differs_at (w ∷ ws) [] (suc k) a b h = absurd (omega arith)
differs_at (w ∷ ws) (x ∷ xs) (suc k) a b h = by_head (w == x) (λ h. differs_at ws xs k (omega arith) (omega arith) h) h
  where
    by_head : (same : Bool) → (pointwise nat_eq (take k ws) (take k xs) ≡ false → Differs ≡ met ws xs) → (same && pointwise nat_eq (take k ws) (take k xs)) ≡ false → Differs ≡ cond same (met ws xs) Differs
    by_head true more h = more h
    by_head false more h = refl

torn_at : (wanted bytes : List ℕ) (k : ℕ) → k < length wanted → k ≡ length bytes → pointwise nat_eq (take k wanted) (take k bytes) ≡ true → Torn ≡ met wanted bytes
torn_at [] bytes k a b h = absurd (omega arith)
torn_at (w ∷ ws) [] k a b h = refl
torn_at (w ∷ ws) (x ∷ xs) zero a b h = absurd (omega arith)
torn_at (w ∷ ws) (x ∷ xs) (suc k) a b h = by_head (w == x) (λ h. torn_at ws xs k (omega arith) (omega arith) h) h
  where
    by_head : (same : Bool) → (pointwise nat_eq (take k ws) (take k xs) ≡ true → Torn ≡ met ws xs) → (same && pointwise nat_eq (take k ws) (take k xs)) ≡ true → Torn ≡ cond same (met ws xs) Differs
    by_head true more h = more h
    by_head false more h = cc

whole_at : (wanted bytes : List ℕ) (k : ℕ) → k ≡ length wanted → k ≤ length bytes → pointwise nat_eq (take k wanted) (take k bytes) ≡ true → Whole (drop k bytes) ≡ met wanted bytes
whole_at [] bytes zero a b h = refl
whole_at [] bytes (suc k) a b h = absurd (omega arith)
whole_at (w ∷ ws) bytes zero a b h = absurd (omega arith)
whole_at (w ∷ ws) [] (suc k) a b h = absurd (omega arith)
whole_at (w ∷ ws) (x ∷ xs) (suc k) a b h = by_head (w == x) (λ h. whole_at ws xs k (omega arith) (omega arith) h) h
  where
    by_head : (same : Bool) → (pointwise nat_eq (take k ws) (take k xs) ≡ true → Whole (drop k xs) ≡ met ws xs) → (same && pointwise nat_eq (take k ws) (take k xs)) ≡ true → Whole (drop k xs) ≡ cond same (met ws xs) Differs
    by_head true more h = more h
    by_head false more h = cc

not_true : (a b : Bool) → a ≡ not b → a ≡ true → b ≡ false
not_true a true e t = cc
not_true a false e t = refl

not_false : (a b : Bool) → a ≡ not b → a ≡ false → b ≡ true
not_false a true e t = refl
not_false a false e t = cc

-- what is told by the comparison of as many bytes as both have
pub differs : (wanted bytes : List ℕ) (k : ℕ) (other : Bool) → k ≤ length wanted → k ≤ length bytes → other ≡ not (pointwise nat_eq (take k wanted) (take k bytes)) → other ≡ true → Differs ≡ met wanted bytes
differs wanted bytes k other a b e t = differs_at wanted bytes k a b (not_true other (pointwise nat_eq (take k wanted) (take k bytes)) e t)

pub torn : (wanted bytes : List ℕ) (k : ℕ) (other : Bool) → k < length wanted → k ≡ length bytes → other ≡ not (pointwise nat_eq (take k wanted) (take k bytes)) → other ≡ false → Torn ≡ met wanted bytes
torn wanted bytes k other a b e t = torn_at wanted bytes k a b (not_false other (pointwise nat_eq (take k wanted) (take k bytes)) e t)

pub whole : (wanted bytes : List ℕ) (k : ℕ) (other : Bool) → k ≡ length wanted → k ≤ length bytes → other ≡ not (pointwise nat_eq (take k wanted) (take k bytes)) → other ≡ false
    → Whole (take (length bytes - k) (drop k bytes)) ≡ met wanted bytes
whole wanted bytes k other a b e t = ap Whole (take_rest bytes k) ∙ whole_at wanted bytes k a b (not_false other (pointwise nat_eq (take k wanted) (take k bytes)) e t)

-- ---- what follows from definitions alone

pub same_byte : (n : ℕ) → (n == n) ≡ true
same_byte n = grind (arith, nat_tests)

is_byte : (m n : ℕ) → (m == n) ≡ true → m ≡ n
is_byte m n t = grind (arith, nat_tests)

-- bytes that stand there, and the rest
pub met-append : (wanted rest : List ℕ) → met wanted (wanted ++ rest) ≡ Whole rest
met-append [] rest = refl
met-append (w ∷ ws) rest = rw (same_byte w) (met-append ws rest)

-- bytes that end before
pub met-short : (wanted : List ℕ) (n : ℕ) → n < length wanted → met wanted (take n wanted) ≡ Torn
met-short [] n h = absurd (omega arith)
met-short (w ∷ ws) zero h = refl
met-short (w ∷ ws) (suc n) h = rw (same_byte w) (met-short ws n (omega arith))

-- what is whole stands there
pub met-whole : (wanted bytes rest : List ℕ) → met wanted bytes ≡ Whole rest → bytes ≡ wanted ++ rest
met-whole [] bytes rest h = cc
met-whole (w ∷ ws) [] rest h = cc
met-whole (w ∷ ws) (x ∷ xs) rest h = by_head (w == x) refl (λ h. met-whole ws xs rest h) h
  where
    by_head : (same : Bool) → (w == x) ≡ same → (met ws xs ≡ Whole rest → xs ≡ ws ++ rest) → cond same (met ws xs) Differs ≡ Whole rest → x ∷ xs ≡ w ∷ (ws ++ rest)
    by_head true e more h = rw (is_byte w x e, more h) refl
    by_head false e more h = cc

-- what is torn is the beginning
pub record IsTorn (wanted bytes : List ℕ) : Type 0 where
  pub missing : List ℕ
  pub some : 0 < length missing
  pub is : bytes ++ missing ≡ wanted

pub met-torn : (wanted bytes : List ℕ) → met wanted bytes ≡ Torn → IsTorn wanted bytes
met-torn [] bytes h = cc
met-torn (w ∷ ws) [] h = record { missing = w ∷ ws; some = omega arith; is = refl }
met-torn (w ∷ ws) (x ∷ xs) h = by_head (w == x) refl (λ h. met-torn ws xs h) h
  where
    by_head : (same : Bool) → (w == x) ≡ same → (met ws xs ≡ Torn → IsTorn ws xs) → cond same (met ws xs) Differs ≡ Torn → IsTorn (w ∷ ws) (x ∷ xs)
    by_head true e more h =
        let inner = more h in
        record { missing = inner.missing; some = inner.some; is = rw (is_byte w x e, inner.is) refl }
    by_head false e more h = cc

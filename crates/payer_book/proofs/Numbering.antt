-- Payments by their serial numbers.
use Rattle.std.proofs.Common.{◌≡◌, ℕ, zero, suc, ◌+◌, ◌<◌, Bool, true, false, ◌==◌, cond, List, [], ◌∷◌, ◌++◌, map, length, Some, None, slice_get, slice_set, refl, sym, ap, ◌∙◌, ◌⊎◌, inl, inr, arith, eq-eqb}
use Rattle.std.specs.Prelude.{find}
use Rattle.std.proofs.lemmas.Bool.{cond-true, cond-false, and_from, and_left, and_right, ne_eqb}
use Rattle.std.proofs.lemmas.Option.{same_Some as same_some}
use Rattle.claim_model.specs.Words.{TxnId, Auth}
use Rattle.claim_model.specs.Payments.{same_auth}
use Rattle.payer_book.specs.declared.book.payment.Standing.{Standing}
use Rattle.payer_book.specs.declared.book.payment.Payment.{Payment}
use Rattle.payer_book.specs.declared.book.payment.Payment.TheVariants.{Standing as Stands, Reversed as WasReversed}
use Rattle.payer_book.specs.Ledger.{auth_of, has_auth, payment_with, still, standing_in, after_reversal, reversal_of, AreNumbered}
use Rattle.claim_model.proofs.Tests.{auth_same}

-- the authorization of a payer with a serial
abbrev pub numbered : ℕ → ℕ → Auth
numbered payer serial = record { payer = payer; serial = serial }

pub same_parts : (a b : Auth) → a.payer ≡ b.payer → a.serial ≡ b.serial → same_auth a b ≡ true
same_parts a b p s = and_from (a.payer == b.payer) (a.serial == b.serial) (eq-eqb a.payer b.payer p) (eq-eqb a.serial b.serial s)

pub other_serial : (a b : Auth) → (a.serial ≡ b.serial → ⊥) → same_auth a b ≡ false
other_serial a b d = and_right (a.payer == b.payer) (a.serial == b.serial) (ne_eqb a.serial b.serial d)

other_payer : (a b : Auth) → (a.payer ≡ b.payer → ⊥) → same_auth a b ≡ false
other_payer a b d = and_left (a.payer == b.payer) (a.serial == b.serial) (ne_eqb a.payer b.payer d)

-- the payment of a serial stands at its place
pub payment_at : (payer n : ℕ) (ps : List Payment) (auth : Auth) (k : ℕ) → AreNumbered payer n ps → auth.payer ≡ payer → auth.serial ≡ n + k → slice_get ps k ≡ payment_with auth ps
payment_at payer n [] auth k h p s = refl
payment_at payer n (x ∷ ps) auth zero h p s =
    let is : auth_of x ≡ numbered payer n = h.0 in
    let q : (auth_of x).payer ≡ auth.payer = ap (λ (a : Auth). a.payer) is ∙ sym p in
    let r : (auth_of x).serial ≡ n = ap (λ (a : Auth). a.serial) is in
    sym (cond-true (has_auth auth x) (Some x) (payment_with auth ps) (same_parts (auth_of x) auth q (omega (arith, r, s))))
payment_at payer n (x ∷ ps) auth (suc k) h p s =
    let r : (auth_of x).serial ≡ n = ap (λ (a : Auth). a.serial) h.0 in
    payment_at payer (n + 1) ps auth k h.1 p (omega (arith, s))
    ∙ sym (cond-false (has_auth auth x) (Some x) (payment_with auth ps) (other_serial (auth_of x) auth (λ e. omega (arith, e, r, s))))

-- there is none of another payer, or with a serial below the first
pub no_payment : (payer n : ℕ) (ps : List Payment) (auth : Auth) → AreNumbered payer n ps → (auth.payer ≡ payer → ⊥) ⊎ (auth.serial < n) → payment_with auth ps ≡ None
no_payment payer n [] auth h w = refl
no_payment payer n (x ∷ ps) auth h (inl d) =
    let r : (auth_of x).payer ≡ payer = ap (λ (a : Auth). a.payer) h.0 in
    cond-false (has_auth auth x) (Some x) (payment_with auth ps) (other_payer (auth_of x) auth (λ e. d (sym e ∙ r))) ∙ no_payment payer (n + 1) ps auth h.1 (inl d)
no_payment payer n (x ∷ ps) auth h (inr l) =
    let r : (auth_of x).serial ≡ n = ap (λ (a : Auth). a.serial) h.0 in
    cond-false (has_auth auth x) (Some x) (payment_with auth ps) (other_serial (auth_of x) auth (λ e. omega (arith, e, r, l))) ∙ no_payment payer (n + 1) ps auth h.1 (inr (omega arith))

pub numbered_at : (payer n : ℕ) (ps : List Payment) (k : ℕ) (p : Payment) → AreNumbered payer n ps → slice_get ps k ≡ Some p → auth_of p ≡ numbered payer (n + k)
numbered_at payer n [] k p h e = absurd cc
numbered_at payer n (x ∷ ps) zero p h e =
    let same : x ≡ p = same_some x p e in
    let m : n ≡ n + 0 = omega arith in
    ap auth_of (sym same) ∙ h.0 ∙ ap (numbered payer) m
numbered_at payer n (x ∷ ps) (suc k) p h e =
    let m : n + 1 + k ≡ n + suc k = omega arith in numbered_at payer (n + 1) ps k p h.1 e ∙ ap (numbered payer) m

pub numbered_more : (payer n : ℕ) (ps : List Payment) (p : Payment) → AreNumbered payer n ps → auth_of p ≡ numbered payer (n + length ps) → AreNumbered payer n (ps ++ p ∷ [])
numbered_more payer n [] p h e = let m : n + 0 ≡ n = omega arith in (e ∙ ap (numbered payer) m, tt)
numbered_more payer n (x ∷ ps) p h e = let m : n + suc (length ps) ≡ n + 1 + length ps = omega arith in (h.0, numbered_more payer (n + 1) ps p h.1 (e ∙ ap (numbered payer) m))

-- a reversal changes no authorization
pub auth_kept : (auth : Auth) (by : TxnId) (p : Payment) → auth_of (after_reversal auth by p) ≡ auth_of p
auth_kept auth by (WasReversed r) = refl
auth_kept auth by (Stands s) = by_test (same_auth auth s.auth)
  where
    by_test : (b : Bool) → auth_of (cond b (reversal_of by s) (Stands s)) ≡ s.auth
    by_test true = refl
    by_test false = refl

pub numbered_kept : (payer n : ℕ) (auth : Auth) (by : TxnId) (ps : List Payment) → AreNumbered payer n ps → AreNumbered payer n (map (after_reversal auth by) ps)
numbered_kept payer n auth by [] h = tt
numbered_kept payer n auth by (p ∷ ps) h = (auth_kept auth by p ∙ h.0, numbered_kept payer (n + 1) auth by ps h.1)

-- a reversal changes the payment of its authorization alone

other_kept : (auth : Auth) (by : TxnId) (p : Payment) → (auth.serial ≡ (auth_of p).serial → ⊥) → after_reversal auth by p ≡ p
other_kept auth by (WasReversed r) d = refl
other_kept auth by (Stands s) d = cond-false (same_auth auth s.auth) (reversal_of by s) (Stands s) (other_serial auth s.auth d)

later_kept : (payer n : ℕ) (auth : Auth) (by : TxnId) (ps : List Payment) → AreNumbered payer n ps → auth.serial < n → map (after_reversal auth by) ps ≡ ps
later_kept payer n auth by [] h l = refl
later_kept payer n auth by (p ∷ ps) h l =
    let r : (auth_of p).serial ≡ n = ap (λ (a : Auth). a.serial) h.0 in
    let e = other_kept auth by p (λ e. omega (arith, e, r, l)) in
    let f = later_kept payer (n + 1) auth by ps h.1 (omega arith) in
    ap (λ (x : Payment). x ∷ map (after_reversal auth by) ps) e ∙ ap (λ (xs : List Payment). p ∷ xs) f

pub after_reversal_at : (payer n : ℕ) (auth : Auth) (by : TxnId) (ps : List Payment) (k : ℕ) (s : Standing) → AreNumbered payer n ps → auth.serial ≡ n + k → s.auth ≡ auth → slice_get ps k ≡ Some (Stands s)
    → slice_set ps k (reversal_of by s) ≡ map (after_reversal auth by) ps
after_reversal_at payer n auth by [] k s h m is e = absurd cc
after_reversal_at payer n auth by (p ∷ ps) zero s h m is e =
    let same : p ≡ Stands s = same_some p (Stands s) e in
    let it : after_reversal auth by (Stands s) ≡ reversal_of by s = cond-true (same_auth auth s.auth) (reversal_of by s) (Stands s) (same_parts auth s.auth (ap (λ (a : Auth). a.payer) (sym is)) (ap (λ (a : Auth). a.serial) (sym is))) in
    ap (λ (x : Payment). x ∷ ps) (sym (ap (after_reversal auth by) same ∙ it)) ∙ ap (λ (xs : List Payment). after_reversal auth by p ∷ xs) (sym (later_kept payer (n + 1) auth by ps h.1 (omega arith)))
after_reversal_at payer n auth by (p ∷ ps) (suc k) s h m is e =
    let r : (auth_of p).serial ≡ n = ap (λ (a : Auth). a.serial) h.0 in
    ap (λ (x : Payment). x ∷ slice_set ps k (reversal_of by s)) (sym (other_kept auth by p (λ e. omega (arith, e, r, m))))
    ∙ ap (λ (xs : List Payment). after_reversal auth by p ∷ xs) (after_reversal_at payer (n + 1) auth by ps k s h.1 (omega arith) is e)

-- what stands has its authorization

pub none_stands : (auth : Auth) (ps : List Payment) → payment_with auth ps ≡ None → find (λ (s : Standing). same_auth s.auth auth) (standing_in ps) ≡ None
none_stands auth [] e = refl
none_stands auth (WasReversed r ∷ ps) e = by_test (same_auth r.auth auth) e (none_stands auth ps)
  where
    by_test : (b : Bool) → cond b (Some (WasReversed r)) (payment_with auth ps) ≡ None → (payment_with auth ps ≡ None → find (λ (s : Standing). same_auth s.auth auth) (standing_in ps) ≡ None) → find (λ (s : Standing). same_auth s.auth auth) (standing_in ps) ≡ None
    by_test true e g = absurd cc
    by_test false e g = g e
none_stands auth (Stands s ∷ ps) e = by_test (same_auth s.auth auth) e (none_stands auth ps)
  where
    by_test : (b : Bool) → cond b (Some (Stands s)) (payment_with auth ps) ≡ None → (payment_with auth ps ≡ None → find (λ (s : Standing). same_auth s.auth auth) (standing_in ps) ≡ None)
        → cond b (Some s) (find (λ (s : Standing). same_auth s.auth auth) (standing_in ps)) ≡ None
    by_test true e g = absurd cc
    by_test false e g = g e

pub reversed_stands_not : (payer n : ℕ) (auth : Auth) (ps : List Payment) (p : Payment) → AreNumbered payer n ps → payment_with auth ps ≡ Some p → still p ≡ None → find (λ (s : Standing). same_auth s.auth auth) (standing_in ps) ≡ None
reversed_stands_not payer n auth [] p h e not = refl
reversed_stands_not payer n auth (WasReversed r ∷ ps) p h e not = by_test (same_auth r.auth auth) refl e (λ g. reversed_stands_not payer (n + 1) auth ps p h.1 g not)
  where
    by_test : (b : Bool) → same_auth r.auth auth ≡ b → cond b (Some (WasReversed r)) (payment_with auth ps) ≡ Some p → (payment_with auth ps ≡ Some p → find (λ (s : Standing). same_auth s.auth auth) (standing_in ps) ≡ None)
        → find (λ (s : Standing). same_auth s.auth auth) (standing_in ps) ≡ None
    by_test true is e g =
        let m : auth.serial ≡ n = ap (λ (a : Auth). a.serial) (sym (auth_same r.auth auth is) ∙ h.0) in
        none_stands auth ps (no_payment payer (n + 1) ps auth h.1 (inr (omega (arith, m))))
    by_test false is e g = g e
reversed_stands_not payer n auth (Stands s ∷ ps) p h e not = by_test (same_auth s.auth auth) e (λ g. reversed_stands_not payer (n + 1) auth ps p h.1 g not)
  where
    by_test : (b : Bool) → cond b (Some (Stands s)) (payment_with auth ps) ≡ Some p → (payment_with auth ps ≡ Some p → find (λ (s : Standing). same_auth s.auth auth) (standing_in ps) ≡ None)
        → cond b (Some s) (find (λ (s : Standing). same_auth s.auth auth) (standing_in ps)) ≡ None
    by_test true e g = let same : Stands s ≡ p = same_some (Stands s) p e in let x : Some s ≡ None = ap still same ∙ not in absurd cc
    by_test false e g = g e

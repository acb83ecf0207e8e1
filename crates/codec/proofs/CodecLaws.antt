-- Each codec takes what was put, and takes only what stands there, with numbers that fit.
use Rattle.std.proofs.Common.{◌≡◌, ℕ, zero, suc, ◌==◌, ◌≤◌, false, cond, List, [], ◌∷◌, ◌++◌, length, take, drop, nat_lt, nat_le, Option, Some, None, refl, ap, ◌∙◌, sym, subst, arith, append_assoc, append-nil}
use Rattle.std.proofs.lemmas.Bool.{leb-true, le-leb}
use Rattle.std.proofs.lemmas.Bool.Decides.{nat_tests}
use Rattle.std.proofs.lemmas.Option.{some_pair_parts, same_Some, cond_some}
use Rattle.std.proofs.lemmas.List.{take-append-drop, length-take-le}
use Rattle.std.specs.List.{AllByRecursion, flat_map}
use Rattle.codec.specs.Options.{◌>>=◌}
use Rattle.codec.specs.Fields.{bytes_at, u8_at}
use Rattle.codec.specs.Codecs.{Codec, u8, u16, u32, u64, at_most, at_least, exactly, sized, text, both, of_parts, form, empty, Spelled, made_at, tagged, times, counted, all_of, whole}
use Rattle.codec.specs.Laws.{AreBytes, IsTaken, IsCodec}
use Rattle.codec.proofs.FieldsBack.{bytes_at-put, u8_at-put, u16_at-put, u32_at-put, u64_at-put}
use Rattle.codec.proofs.FieldsOnly.{drop_bytes, long_from, long_enough, u8_at_taken, u16_at_taken, u32_at_taken, u64_at_taken}

-- what holds where each step of a chain was taken
pub option_then : {A B : Type 0} (o : Option A) (f : A → Option B) (y : B) → (o >>= f) ≡ Some y → (x : A) × (o ≡ Some x) × (f x ≡ Some y)
option_then None f y h = cc
option_then (Some x) f y h = (x, refl, h)

-- two pieces, one after the other
pub both_taken : (bytes a mid b rest : List ℕ) → IsTaken bytes a mid → IsTaken mid b rest → IsTaken bytes (a ++ b) rest
both_taken bytes a mid b rest first second = record { all = first.all ∙ ap (λ t. a ++ t) second.all ∙ sym (append_assoc a b rest); rest_bytes = second.rest_bytes }

pub u8_is : IsCodec u8
u8_is = record { back = λ n rest fits. u8_at-put n rest; only = u8_at_taken }

pub u16_is : IsCodec u16
u16_is = record { back = u16_at-put; only = u16_at_taken }

pub u32_is : IsCodec u32
u32_is = record { back = u32_at-put; only = u32_at_taken }

pub u64_is : IsCodec u64
u64_is = record { back = u64_at-put; only = u64_at_taken }

pub at_most_is : {c : Codec ℕ} (most : ℕ) → IsCodec c → IsCodec (at_most most c)
at_most_is {c} most p = record {
  back = λ n rest fits. rw (p.back n rest fits.1, le-leb n most fits.0) refl;
  only = λ bytes n rest are h.
      let first = option_then (c.at bytes) (λ (m : ℕ × List ℕ). cond (nat_le m.0 most) (Some m) None) (n, rest) h in
      let passed = cond_some (nat_le first.0.0 most) first.0 (n, rest) first.2 in
      let is = p.only bytes n rest are (first.1 ∙ ap Some passed.1) in
      (is.0, (subst (λ (m : ℕ × List ℕ). m.0 ≤ most) passed.1 (leb-true first.0.0 most passed.0), is.1));
}

pub at_least_is : {c : Codec ℕ} (least : ℕ) → IsCodec c → IsCodec (at_least least c)
at_least_is {c} least p = record {
  back = λ n rest fits. rw (p.back n rest fits.1, le-leb least n fits.0) refl;
  only = λ bytes n rest are h.
      let first = option_then (c.at bytes) (λ (m : ℕ × List ℕ). cond (nat_le least m.0) (Some m) None) (n, rest) h in
      let passed = cond_some (nat_le least first.0.0) first.0 (n, rest) first.2 in
      let is = p.only bytes n rest are (first.1 ∙ ap Some passed.1) in
      (is.0, (subst (λ (m : ℕ × List ℕ). least ≤ m.0) passed.1 (leb-true least first.0.0 passed.0), is.1));
}

-- what stands there is both, one after the other
pub both_parts : {A B : Type 0} (a : Codec A) (b : Codec B) (bytes : List ℕ) (x : A × B) (rest : List ℕ) → (both a b).at bytes ≡ Some (x, rest) → (mid : List ℕ) × (a.at bytes ≡ Some (x.0, mid)) × (b.at mid ≡ Some (x.1, rest))
both_parts {A} {B} a b bytes x rest h =
    let first = option_then (a.at bytes) (λ (v : A × List ℕ). b.at v.1 >>= λ (w : B × List ℕ). Some ((v.0, w.0), w.1)) (x, rest) h in
    let second = option_then (b.at first.0.1) (λ (w : B × List ℕ). Some ((first.0.0, w.0), w.1)) (x, rest) first.2 in
    let parts = some_pair_parts (first.0.0, second.0.0) x second.0.1 rest second.2 in
    subst (λ (r : List ℕ). (mid : List ℕ) × (a.at bytes ≡ Some (x.0, mid)) × (b.at mid ≡ Some (x.1, r))) parts.1
    (subst (λ (v : A × B). (mid : List ℕ) × (a.at bytes ≡ Some (v.0, mid)) × (b.at mid ≡ Some (v.1, second.0.1))) parts.0 (first.0.1, first.1, second.1))

pub both_is : {A B : Type 0} {a : Codec A} {b : Codec B} → IsCodec a → IsCodec b → IsCodec (both a b)
both_is {A} {B} {a} {b} p q = record {
  back = λ x rest fits. rw (append_assoc (a.text x.0) (b.text x.1) rest, p.back x.0 (b.text x.1 ++ rest) fits.0, q.back x.1 rest fits.1) refl;
  only = λ bytes x rest are h.
      let parts = both_parts a b bytes x rest h in
      let one = p.only bytes x.0 parts.0 are parts.1 in
      let two = q.only parts.0 x.1 rest one.0.rest_bytes parts.2 in
      (both_taken bytes (a.text x.0) parts.0 (b.text x.1) rest one.0 two.0, (one.1, two.1));
}

-- what stands there is made of parts that stand there
pub made_parts : {A P : Type 0} (c : Codec P) (made : P → A) (bytes : List ℕ) (x : A) (rest : List ℕ) → made_at c made bytes ≡ Some (x, rest) → (p : P) × (c.at bytes ≡ Some (p, rest)) × (made p ≡ x)
made_parts {A} {P} c made bytes x rest h =
    let first = option_then (c.at bytes) (λ (v : P × List ℕ). Some (made v.0, v.1)) (x, rest) h in
    let parts = some_pair_parts (made first.0.0) x first.0.1 rest first.2 in
    (first.0.0, first.1 ∙ ap (λ (r : List ℕ). Some (first.0.0, r)) parts.1, parts.0)

pub of_parts_is : {A B : Type 0} {c : Codec A} (to : A → B) (from : B → A) → IsCodec c → ((y : B) → to (from y) ≡ y) → ((x : A) → x ≡ from (to x)) → IsCodec (of_parts c to from)
of_parts_is {A} {B} {c} to from p there again = record {
  back = λ y rest fits. rw (p.back (from y) rest fits) (ap (λ (w : B). Some (w, rest)) (there y));
  only = λ bytes y rest are h.
      let parts = made_parts c to bytes y rest h in
      subst (λ (v : A). IsTaken bytes (c.text v) rest × c.Fits v) (again parts.0 ∙ ap from parts.2) (p.only bytes parts.0 rest are parts.1);
}

pub form_is : {A B : Type 0} {c : Codec A} (to : A → Option B) (from : B → A) → IsCodec c → ((y : B) → to (from y) ≡ Some y) → ((x : A) (y : B) → to x ≡ Some y → x ≡ from y) → IsCodec (form c to from)
form_is {A} {B} {c} to from p there again = record {
  back = λ y rest fits. rw (p.back (from y) rest fits, there y) refl;
  only = λ bytes y rest are h.
      let first = option_then (c.at bytes) (λ (v : A × List ℕ). to v.0 >>= λ (w : B). Some (w, v.1)) (y, rest) h in
      let second = option_then (to first.0.0) (λ (w : B). Some (w, first.0.1)) (y, rest) first.2 in
      let parts = some_pair_parts second.0 y first.0.1 rest second.2 in
      let is : first.0.0 ≡ from y = again first.0.0 second.0 second.1 ∙ ap from parts.0 in
      subst (λ r. IsTaken bytes (c.text (from y)) r × c.Fits (from y)) parts.1
      (subst (λ (v : A). IsTaken bytes (c.text v) first.0.1 × c.Fits v) is (p.only bytes first.0.0 first.0.1 are first.1));
}

pub exactly_is : (count : ℕ) → IsCodec (exactly count)
unfolding bytes_at
exactly_is count = record {
  back = bytes_at-put count;
  only = λ bytes front rest are h.
      let passed = long_enough (nat_lt (length bytes) count) (take count bytes, drop count bytes) (front, rest) h in
      let all : bytes ≡ front ++ rest = sym (take-append-drop count bytes) ∙ ap (λ t. t ++ drop count bytes) passed.1 ∙ ap (λ t. front ++ t) passed.2 in
      (record { all = all; rest_bytes = subst AreBytes passed.2 (drop_bytes count bytes are) }, ap length (sym passed.1) ∙ length-take-le count bytes (long_from (length bytes) count passed.0));
}

pub sized_is : {c : Codec ℕ} → IsCodec c → IsCodec (sized c)
sized_is {c} p = record {
  back = λ bytes rest fits.
      rw (append_assoc (c.text (length bytes)) bytes rest, p.back (length bytes) (bytes ++ rest) fits) ((exactly_is (length bytes)).back bytes rest refl);
  only = λ bytes front rest are h.
      let first = option_then (c.at bytes) (λ (n : ℕ × List ℕ). bytes_at n.0 n.1) (front, rest) h in
      let one = p.only bytes first.0.0 first.0.1 are first.1 in
      let two = (exactly_is first.0.0).only first.0.1 front rest one.0.rest_bytes first.2 in
      subst (λ n. IsTaken bytes (c.text n ++ front) rest × c.Fits n) (sym two.1) (both_taken bytes (c.text first.0.0) first.0.1 front rest one.0 two.0, one.1);
}

pub text_is : IsCodec text
text_is = sized_is u64_is

pub empty_is : IsCodec empty
empty_is = record {
  back = λ u rest fits. refl;
  only = λ bytes u rest are h.
      let parts = some_pair_parts tt u bytes rest h in
      (record { all = parts.1; rest_bytes = subst AreBytes parts.1 are }, tt);
}

-- what is put as parts in this format is taken
pub made_back : {A P : Type 0} {c : Codec P} (p : IsCodec c) (made : P → A) (parts : P) (rest : List ℕ) → c.Fits parts → made_at c made (c.text parts ++ rest) ≡ Some (made parts, rest)
made_back p made parts rest fits = rw (p.back parts rest fits) refl

-- what is taken after a kind is of this kind, and is spelled so
abbrev pub IsKind : {A : Type 0} → (A → Spelled) → ℕ → (bytes : List ℕ) (x : A) (rest : List ℕ) → Type 0
IsKind of number bytes x rest = (number ≡ (of x).kind) × IsTaken bytes (of x).text rest × (of x).Fits

pub made_only : {A P : Type 0} {c : Codec P} (p : IsCodec c) (of : A → Spelled) (number : ℕ) (made : P → A) → ((bytes rest : List ℕ) (parts : P) → IsTaken bytes (c.text parts) rest → c.Fits parts → IsKind of number bytes (made parts) rest)
    → (bytes : List ℕ) (x : A) (rest : List ℕ) → AreBytes bytes → made_at c made bytes ≡ Some (x, rest) → IsKind of number bytes x rest
made_only {A} {P} {c} p of number made are_kind bytes x rest are h =
    let parts = made_parts c made bytes x rest h in
    let taken = p.only bytes parts.0 rest are parts.1 in
    subst (λ (y : A). IsKind of number bytes y rest) parts.2 (are_kind bytes rest parts.0 taken.0 taken.1)

pub tagged_is : {A : Type 0} (of : A → Spelled) (by : ℕ → List ℕ → Option (A × List ℕ)) → ((x : A) (rest : List ℕ) → (of x).Fits → by (of x).kind ((of x).text ++ rest) ≡ Some (x, rest))
    → ((number : ℕ) (bytes : List ℕ) (x : A) (rest : List ℕ) → AreBytes bytes → by number bytes ≡ Some (x, rest) → IsKind of number bytes x rest) → IsCodec (tagged of by)
unfolding u8_at
tagged_is {A} of by back only = record {
  back = back;
  only = λ bytes x rest are h.
      let first = option_then (u8_at bytes) (λ (n : ℕ × List ℕ). by n.0 n.1) (x, rest) h in
      let head = u8_at_taken bytes first.0.0 first.0.1 are first.1 in
      let inner = only first.0.0 first.0.1 x rest head.0.rest_bytes first.2 in
      (subst (λ n. IsTaken bytes (n ∷ (of x).text) rest) inner.0 (both_taken bytes (first.0.0 ∷ []) first.0.1 (of x).text rest head.0 inner.1), inner.2);
}

-- a list that was put is taken
pub times_back : {A : Type 0} {c : Codec A} (p : IsCodec c) (xs : List A) (rest : List ℕ) → AllByRecursion c.Fits xs → times c (length xs) (flat_map c.text xs ++ rest) ≡ Some (xs, rest)
times_back p [] rest fits = refl
times_back {A} {c} p (x ∷ xs) rest fits = rw (append_assoc (c.text x) (flat_map c.text xs) rest, p.back x (flat_map c.text xs ++ rest) fits.0, times_back p xs rest fits.1) refl

pub counted_is : {A : Type 0} {n : Codec ℕ} {c : Codec A} → IsCodec n → IsCodec c → IsCodec (counted n c)
counted_is {A} {n} {c} p q = record {
  back = λ xs rest fits. rw (append_assoc (n.text (length xs)) (flat_map c.text xs) rest, p.back (length xs) (flat_map c.text xs ++ rest) fits.0) (times_back q xs rest fits.1);
  only = λ bytes xs rest are h.
      let first = option_then (n.at bytes) (λ (k : ℕ × List ℕ). times c k.0 k.1) (xs, rest) h in
      let head = p.only bytes first.0.0 first.0.1 are first.1 in
      let tail = took first.0.0 first.0.1 xs rest head.0.rest_bytes first.2 in
      let all : IsTaken bytes (n.text first.0.0 ++ flat_map c.text xs) rest = both_taken bytes (n.text first.0.0) first.0.1 (flat_map c.text xs) rest head.0 tail.0 in
      subst (λ k. IsTaken bytes (n.text k ++ flat_map c.text xs) rest × (n.Fits k × AllByRecursion c.Fits xs)) (sym tail.2) (all, (head.1, tail.1));
}
  where
    took : (k : ℕ) (bytes : List ℕ) (xs : List A) (rest : List ℕ) → AreBytes bytes → times c k bytes ≡ Some (xs, rest) → IsTaken bytes (flat_map c.text xs) rest × AllByRecursion c.Fits xs × (length xs ≡ k)
    took zero bytes xs rest are h =
        let parts = some_pair_parts [] xs bytes rest h in
        subst (λ (ys : List A). IsTaken bytes (flat_map c.text ys) rest × AllByRecursion c.Fits ys × (length ys ≡ 0)) parts.0 (record { all = parts.1; rest_bytes = subst AreBytes parts.1 are }, tt, refl)
    took (suc k) bytes xs rest are h =
        let one = option_then (c.at bytes) (λ (x : A × List ℕ). times c k x.1 >>= λ (ys : List A × List ℕ). Some (x.0 ∷ ys.0, ys.1)) (xs, rest) h in
        let more = option_then (times c k one.0.1) (λ (ys : List A × List ℕ). Some (one.0.0 ∷ ys.0, ys.1)) (xs, rest) one.2 in
        let parts = some_pair_parts (one.0.0 ∷ more.0.0) xs more.0.1 rest more.2 in
        let head = q.only bytes one.0.0 one.0.1 are one.1 in
        let tail = took k one.0.1 more.0.0 more.0.1 head.0.rest_bytes more.1 in
        let made : IsTaken bytes (flat_map c.text (one.0.0 ∷ more.0.0)) more.0.1 × AllByRecursion c.Fits (one.0.0 ∷ more.0.0) × (length (one.0.0 ∷ more.0.0) ≡ suc k) =
        (both_taken bytes (c.text one.0.0) one.0.1 (flat_map c.text more.0.0) more.0.1 head.0 tail.0, (head.1, tail.1), ap suc tail.2) in
        subst (λ r. IsTaken bytes (flat_map c.text xs) r × AllByRecursion c.Fits xs × (length xs ≡ suc k)) parts.1
        (subst (λ (ys : List A). IsTaken bytes (flat_map c.text ys) more.0.1 × AllByRecursion c.Fits ys × (length ys ≡ suc k)) parts.0 made)

-- ---- texts that are the same with what follows them

pub apart : {A : Type 0} {c : Codec A} (p : IsCodec c) (x y : A) (r s : List ℕ) → c.Fits x → c.Fits y → c.text x ++ r ≡ c.text y ++ s → (x ≡ y) × (r ≡ s)
apart {A} {c} p x y r s f g h = some_pair_parts x y r s (sym (p.back x r f) ∙ ap c.at h ∙ p.back y s g)

pub each_apart : {A : Type 0} {c : Codec A} (p : IsCodec c) (xs ys : List A) (r s : List ℕ) → length xs ≡ length ys → AllByRecursion c.Fits xs → AllByRecursion c.Fits ys
    → flat_map c.text xs ++ r ≡ flat_map c.text ys ++ s → (xs ≡ ys) × (r ≡ s)
each_apart {A} {c} p xs ys r s n f g h =
    some_pair_parts xs ys r s (sym (times_back p xs r f) ∙ ap (times c (length xs)) h ∙ ap (λ k. times c k (flat_map c.text ys ++ s)) n ∙ times_back p ys s g)

-- ---- all of the bytes

pub whole_back : {A : Type 0} {c : Codec A} (p : IsCodec c) (x : A) → c.Fits x → whole c (c.text x) ≡ Some x
whole_back {A} {c} p x fits = ap (λ (t : List ℕ). all_of (c.at t)) (sym (append-nil (c.text x))) ∙ ap all_of (p.back x [] fits)

pub whole_only : {A : Type 0} {c : Codec A} (p : IsCodec c) (bytes : List ℕ) (x : A) → AreBytes bytes → whole c bytes ≡ Some x → (bytes ≡ c.text x) × c.Fits x
whole_only {A} {c} p bytes x are h = by_taken (c.at bytes) refl h
  where
    not_none : (n : ℕ) → (suc n == 0) ≡ false
    not_none n = grind (arith, nat_tests)

    none_is : ◌≡◌ {A = Option A} None (Some x) → (bytes ≡ c.text x) × c.Fits x
    none_is h = absurd cc

    by_rest : (y : A) (rest : List ℕ) → IsTaken bytes (c.text y) rest × c.Fits y → cond (length rest == 0) (Some y) None ≡ Some x → (bytes ≡ c.text x) × c.Fits x
    by_rest y [] taken h = subst (λ (z : A). (bytes ≡ c.text z) × c.Fits z) (same_Some y x h) (taken.0.all ∙ append-nil (c.text y), taken.1)
    by_rest y (b ∷ rest) taken h = none_is (rw (not_none (length rest)) at h)

    by_taken : (o : Option (A × List ℕ)) → c.at bytes ≡ o → all_of o ≡ Some x → (bytes ≡ c.text x) × c.Fits x
    by_taken None e h = cc
    by_taken (Some (y, rest)) e h = by_rest y rest (p.only bytes y rest are e) h

-- Each key once, one key after the other.
use Rattle.std.proofs.Common.{◌≡◌, ℕ, Bool, true, false, not, ◌&&◌, ◌||◌, cond, ◌+◌, ◌<◌, length, get_or, drop, List, [], ◌∷◌, ◌++◌, Option, Some, None, refl, sym, ap, ◌∙◌, append_assoc}
use Rattle.std.specs.Prelude.{filter, bytes_eq, unwrap_or, if◌then◌else◌}
use Rattle.std.specs.Option.{option_or}
use Rattle.std.proofs.lemmas.List.{at_drop_more}
use Rattle.std.proofs.lemmas.List.Elements.{filter_agree}
use Rattle.std.proofs.lemmas.List.Folds.{list_any-append}
use Rattle.std.proofs.lemmas.Slice.Eq.{bytes_eq-Decides}
use Rattle.std.proofs.lemmas.Bool.{and_parts}
use Rattle.bin_routes.specs.Key.{RouteKey}
use Rattle.rejected_rows.specs.Keys.{Request, same_key, is_among, with_key, keys_in}

-- a key is none of these
abbrev pub is_new : List RouteKey → RouteKey → Bool
is_new keys key = not (is_among keys key)

-- those that are none of these
abbrev pub not_among : List RouteKey → List RouteKey → List RouteKey
not_among keys others = filter (is_new keys) others

-- at first all are left
pub none_yet : (keys : List RouteKey) → not_among [] keys ≡ keys
none_yet [] = refl
none_yet (key ∷ keys) = ap (λ (ks : List RouteKey). key ∷ ks) (none_yet keys)

-- one filter after another is one with both tests
twice_by : {A : Type 0} (p : A → Bool) (b : Bool) (x : A) (xs ys : List A) → filter p xs ≡ ys → filter p (cond b (x ∷ xs) xs) ≡ cond (b && p x) (x ∷ ys) ys
twice_by p true x xs ys e = ap (λ zs. cond (p x) (x ∷ zs) zs) e
twice_by p false x xs ys e = e

twice : {A : Type 0} (p q : A → Bool) (xs : List A) → filter p (filter q xs) ≡ filter (λ x. q x && p x) xs
twice p q [] = refl
twice p q (x ∷ xs) = twice_by p (q x) x (filter q xs) (filter (λ y. q y && p y) xs) (twice p q xs)

-- two keys are the same where their fields are
is_same : (a b : RouteKey) → same_key a b ≡ true → a ≡ b
is_same a b e =
    let halves = and_parts (bytes_eq a.bin b.bin && bytes_eq a.pcn b.pcn) (bytes_eq a.qualifier b.qualifier && bytes_eq a.provider b.provider) e in
    let first = and_parts (bytes_eq a.bin b.bin) (bytes_eq a.pcn b.pcn) halves.0 in
    let second = and_parts (bytes_eq a.qualifier b.qualifier) (bytes_eq a.provider b.provider) halves.1 in
    let bin : a.bin ≡ b.bin = (bytes_eq-Decides a.bin b.bin).0 first.0 in
    let pcn : a.pcn ≡ b.pcn = (bytes_eq-Decides a.pcn b.pcn).0 first.1 in
    let qualifier : a.qualifier ≡ b.qualifier = (bytes_eq-Decides a.qualifier b.qualifier).0 second.0 in
    let provider : a.provider ≡ b.provider = (bytes_eq-Decides a.provider b.provider).0 second.1 in
    λ i. record { bin = bin i; pcn = pcn i; qualifier = qualifier i; provider = provider i }

-- a key is none of these and one more
new_after : (keys : List RouteKey) (key other : RouteKey) → is_new (keys ++ key ∷ []) other ≡ (not (same_key key other) && is_new keys other)
new_after keys key other = rw (list_any-append (λ (k : RouteKey). same_key k other) keys (key ∷ [])) (by_tests (is_among keys other) (same_key key other))
  where
    by_tests : (a b : Bool) → not (a || (b || false)) ≡ (not b && not a)
    by_tests true true = refl
    by_tests true false = refl
    by_tests false true = refl
    by_tests false false = refl

kept : {A : Type 0} (b : Bool) (x : A) (xs ys : List A) → b ≡ false → xs ≡ ys → x ∷ xs ≡ cond (not b) (x ∷ ys) ys
kept b x xs ys e f = rw e (ap (λ zs. x ∷ zs) f)

left_out : {A : Type 0} (b : Bool) (x : A) (xs ys : List A) → b ≡ true → xs ≡ ys → xs ≡ cond (not b) (x ∷ ys) ys
left_out b x xs ys e f = rw e f

-- a key that is none of them is one more
pub one_more : (keys : List RouteKey) (key : RouteKey) (rest : List RouteKey) → is_among keys key ≡ false
    → (keys ++ key ∷ []) ++ not_among (keys ++ key ∷ []) rest ≡ keys ++ not_among keys (key ∷ filter (λ other. not (same_key key other)) rest)
one_more keys key rest new =
    append_assoc keys (key ∷ []) (not_among (keys ++ key ∷ []) rest)
    ∙ ap (λ (ks : List RouteKey). keys ++ ks)
    (kept (is_among keys key) key (not_among (keys ++ key ∷ []) rest) (not_among keys (filter (λ other. not (same_key key other)) rest)) new
    (filter_agree (is_new (keys ++ key ∷ [])) (λ other. not (same_key key other) && is_new keys other) (new_after keys key) rest
    ∙ sym (twice (is_new keys) (λ other. not (same_key key other)) rest)))

-- who is among them is not the same as who is not
apart : (keys : List RouteKey) (key other : RouteKey) → is_among keys key ≡ true → (not (same_key key other) && is_new keys other) ≡ is_new keys other
apart keys key other old = by_test (same_key key other) refl
  where
    by_test : (b : Bool) → same_key key other ≡ b → (not b && is_new keys other) ≡ is_new keys other
    by_test true e = ap not (sym (sym (ap (is_among keys) (is_same key other e)) ∙ old))
    by_test false e = refl

-- a key that is one of them is passed over
pub once_more : (keys : List RouteKey) (key : RouteKey) (rest : List RouteKey) → is_among keys key ≡ true
    → not_among keys rest ≡ not_among keys (key ∷ filter (λ other. not (same_key key other)) rest)
once_more keys key rest old =
    left_out (is_among keys key) key (not_among keys rest) (not_among keys (filter (λ other. not (same_key key other)) rest)) old
    (sym (twice (is_new keys) (λ other. not (same_key key other)) rest ∙ filter_agree (λ other. not (same_key key other) && is_new keys other) (is_new keys) (λ other. apart keys key other old) rest))

-- the next key
pub next_key : (keys : List RouteKey) (key : RouteKey) (rest : List RouteKey)
    → with_key keys key ++ not_among (with_key keys key) rest ≡ keys ++ not_among keys (key ∷ filter (λ other. not (same_key key other)) rest)
next_key keys key rest = by_test (is_among keys key) refl
  where
    by_test : (b : Bool) → is_among keys key ≡ b
        → (if b then keys else (keys ++ key ∷ [])) ++ not_among (if b then keys else (keys ++ key ∷ [])) rest ≡ keys ++ not_among keys (key ∷ filter (λ other. not (same_key key other)) rest)
    by_test true e = ap (λ (ks : List RouteKey). keys ++ ks) (once_more keys key rest e)
    by_test false e = one_more keys key rest e

-- the next request
pub next_request : (keys : List RouteKey) (requests : List Request) (i : ℕ) (r : Request) → i < length requests → r ≡ get_or requests i r
    → with_key keys r.1 ++ not_among (with_key keys r.1) (keys_in (drop (i + 1) requests)) ≡ keys ++ not_among keys (keys_in (drop i requests))
next_request keys requests i r within is =
    let left : List Request → List RouteKey = λ rs. keys ++ not_among keys (keys_in rs) in
    next_key keys r.1 (keys_in (drop (i + 1) requests))
    ∙ sym (at_drop_more left requests i r within ∙ sym (ap (λ (x : Request). left (x ∷ drop (i + 1) requests)) is))

-- the last of those that are left
pub last_step : (found : Option ℕ) (same : Bool) (number last : ℕ) → unwrap_or (option_or found (if same then Some number else None)) last ≡ unwrap_or found (if same then number else last)
last_step (Some n) same number last = refl
last_step None true number last = refl
last_step None false number last = refl

-- A room that holds a list, filled up with one value.
use Rattle.std.proofs.Common.{◌≡◌, ℕ, ◌+◌, ◌-◌, ◌<◌, ◌≤◌, List, [], ◌∷◌, ◌++◌, length, take, drop, slice_set, refl, sym, ap, ◌∙◌, arith, add-one, length-append, length-drop}
use Rattle.std.specs.Prelude.{replicate}
use Rattle.std.proofs.lemmas.List.{take_at, drop_at, drop-replicate, length-replicate, length-set, length-take-le, drop-set-lt, drop-drop}
use Rattle.std.proofs.Math.Seq.{take-suc-set}

-- a list copied over the front of a room of fillers
abbrev pub in_room : {A : Type 0} → ℕ → A → List A → List A
in_room room d p = p ++ drop (length p) (replicate room d)

pub length-in_room : {A : Type 0} (room : ℕ) (d : A) (p : List A) → length p ≤ room → length (in_room room d p) ≡ room
length-in_room room d p le =
    omega (arith, length-append p (drop (length p) (replicate room d)), length-drop (length p) (replicate room d), length-replicate room d)

pub take-in_room : {A : Type 0} (room : ℕ) (d : A) (p : List A) → take (length p) (in_room room d p) ≡ p
take-in_room room d p = take_at p (drop (length p) (replicate room d)) (length p) refl

pub drop-in_room : {A : Type 0} (room : ℕ) (d : A) (p : List A) → drop (length p) (in_room room d p) ≡ replicate (room - length (take (length p) (in_room room d p))) d
drop-in_room room d p =
    drop_at p (drop (length p) (replicate room d)) (length p) refl ∙ drop-replicate (length p) room d
    ∙ ap (λ (q : List _). replicate (room - length q) d) (sym (take-in_room room d p))

-- one element more in a room
pub length-one_more : {A : Type 0} (room : ℕ) (xs : List A) (i : ℕ) (x : A) → length xs ≡ room → length (slice_set xs i x) ≡ room
length-one_more room xs i x len = length-set xs i x ∙ len

pub take-one_more : {A : Type 0} (xs : List A) (i : ℕ) (x : A) → i < length xs → take (i + 1) (slice_set xs i x) ≡ take i xs ++ x ∷ []
take-one_more xs i x lt = rw add-one (take-suc-set xs i x lt)

pub drop-one_more : {A : Type 0} (room : ℕ) (xs : List A) (i : ℕ) (x d : A) → length xs ≡ room → i < room → drop i xs ≡ replicate (room - length (take i xs)) d
    → drop (i + 1) (slice_set xs i x) ≡ replicate (room - length (take (i + 1) (slice_set xs i x))) d
drop-one_more room xs i x d len lt h =
    let below : i < length xs = omega arith in
    let short : length (take i xs) ≡ i = length-take-le i xs (omega arith) in
    let longer : length (take (i + 1) (slice_set xs i x)) ≡ i + 1 = rw (take-one_more xs i x below) (length-append (take i xs) (x ∷ []) ∙ ap (λ (n : ℕ). n + 1) short) in
    let rest : drop i xs ≡ replicate (room - i) d = h ∙ ap (λ (n : ℕ). replicate (room - n) d) short in
    rw longer (drop-set-lt (i + 1) xs i x (omega arith) ∙ sym (drop-drop 1 i xs) ∙ ap (λ (ys : List _). drop 1 ys) rest ∙ drop-replicate 1 (room - i) d ∙ ap (λ (n : ℕ). replicate n d) (omega arith))

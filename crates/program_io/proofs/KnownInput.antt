-- What several reads in a row took from the bytes that were left.
use Rattle.std.proofs.Common.{take, ◌≡◌, ℕ, ◌<◌, ◌≤◌, List, [], ◌++◌, length, Option, Some, None, IfSome, refl, sym, ◌∙◌, ap, append_assoc, append-nil, arith, length-append, subst}
use Rattle.std.proofs.lemmas.List.{take-take, take-append-le}
use Rattle.std.specs.Io.KnownBytes.{Consumes, IsAtEnd}

pub Consumes-nothing : (known : Option (List ℕ)) → Consumes known known []
Consumes-nothing None = tt
Consumes-nothing (Some xs) = refl

pub Consumes-append : (old mid new : Option (List ℕ)) (xs ys : List ℕ) → Consumes old mid xs → Consumes mid new ys → Consumes old new (xs ++ ys)
Consumes-append None mid new xs ys p q = tt
Consumes-append (Some a) None new xs ys p q = absurd p
Consumes-append (Some a) (Some b) None xs ys p q = absurd q
Consumes-append (Some a) (Some b) (Some c) xs ys p q = p ∙ ap (λ rest. xs ++ rest) q ∙ sym (append_assoc xs ys c)

-- all was taken where nothing is left
pub Consumes-all : (old new : Option (List ℕ)) (xs : List ℕ) → Consumes old new xs → IsAtEnd new → IfSome old (λ bytes. xs ≡ bytes)
Consumes-all None new xs p e = tt
Consumes-all (Some a) None xs p e = absurd p
Consumes-all (Some a) (Some b) xs p e = sym (p ∙ ap (λ rest. xs ++ rest) e ∙ append-nil xs)

-- there were at least as many bytes as were taken
pub Consumes-bound : (old new : Option (List ℕ)) (xs : List ℕ) (n : ℕ) → Consumes old new xs → n < length xs → IfSome old (λ bytes. n < length bytes)
Consumes-bound None new xs n p h = tt
Consumes-bound (Some a) None xs n p h = absurd p
Consumes-bound (Some a) (Some b) xs n p h = omega (arith, ap length p, length-append xs b)

-- a call that gave nothing into a buffer with room says that all was taken
pub Consumes-end : (old mid new : Option (List ℕ)) (xs buffer : List ℕ) (count : ℕ) → Consumes old mid xs
    → Consumes mid new (take count buffer) × (count ≡ 0 → 0 < length buffer → IsAtEnd new) → count ≡ 0 → 0 < length buffer
    → IfSome old (λ bytes. xs ≡ bytes)
Consumes-end old mid new xs buffer count p q none room =
    let nothing : take count buffer ≡ [] = rw none refl in
    let whole : Consumes old new (xs ++ []) = let P : List ℕ → Type 0 = λ ys. Consumes old new (xs ++ ys) in subst P nothing (Consumes-append old mid new xs (take count buffer) p q.0) in
    let whole' : Consumes old new xs = let P : List ℕ → Type 0 = λ ys. Consumes old new ys in subst P (append-nil xs) whole in
    Consumes-all old new xs whole' (q.1 none room)

-- the bytes at the front of a buffer, seen through the room that holds it
pub take-room : (count room : ℕ) (buffer rest : List ℕ) → count ≤ length buffer → count ≤ room → take count (take room (buffer ++ rest)) ≡ take count buffer
take-room count room buffer rest within fits = take-take count room (buffer ++ rest) fits ∙ take-append-le count buffer rest within

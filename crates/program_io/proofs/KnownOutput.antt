-- What several writes in a row added to the bytes that a sink holds.
use Rattle.std.proofs.Common.{◌≡◌, ℕ, ◌+◌, ◌-◌, ◌≤◌, take, drop, List, ◌++◌, length, Option, Some, None, sym, ◌∙◌, ap, append_assoc, arith}
use Rattle.std.proofs.lemmas.List.{take-take, drop-take, take-append-drop}
use Rattle.std.specs.Io.KnownBytes.{Appends, Keeps}

pub Appends-append : (old mid new : Option (List ℕ)) (xs ys : List ℕ) → Appends old mid xs → Appends mid new ys → Appends old new (xs ++ ys)
Appends-append None mid new xs ys p q = tt
Appends-append (Some a) None new xs ys p q = absurd p
Appends-append (Some a) (Some b) None xs ys p q = absurd q
Appends-append (Some a) (Some b) (Some c) xs ys p q = q ∙ ap (λ front. front ++ ys) p ∙ append_assoc a xs ys

pub Appends-keeps : (old mid new : Option (List ℕ)) (xs : List ℕ) → Appends old mid xs → Keeps mid new → Appends old new xs
Appends-keeps None mid new xs p q = tt
Appends-keeps (Some a) None new xs p q = absurd p
Appends-keeps (Some a) (Some b) None xs p q = absurd q
Appends-keeps (Some a) (Some b) (Some c) xs p q = q ∙ p

-- the next bytes of a list, after those that were taken
pub take-next : (done count : ℕ) (xs : List ℕ) → count ≤ length xs - done → take done xs ++ take count (take (length xs - done) (drop done xs)) ≡ take (done + count) xs
take-next done count xs within =
    let e1 = take-take done (done + count) xs (omega arith) in
    let e2 = drop-take done count xs in
    let e3 = take-take count (length xs - done) (drop done xs) within in
    ap (λ ys. take done xs ++ ys) e3 ∙ sym (ap (λ ys. take done xs ++ ys) e2) ∙ sym (ap (λ ys. ys ++ drop done (take (done + count) xs)) e1) ∙ take-append-drop done (take (done + count) xs)

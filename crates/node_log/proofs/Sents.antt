-- What was sent, compared.
use Rattle.std.proofs.Common.{◌≡◌, ℕ, List, [], ◌∷◌, map, ap, sym, ◌∙◌, ◌<◌, zero, suc, length, get_or, arith}

-- equal lists, seen, have equal elements, seen, at each place
pub same_at : {A B : Type 0} (f : A → B) (a b : List A) (k : ℕ) (x y : A) → k < length a → k < length b → x ≡ get_or a k x → y ≡ get_or b k y → map f a ≡ map f b → f x ≡ f y
same_at f [] b k x y h g p q e = absurd (omega arith)
same_at f (p ∷ a) [] k x y h g s t e = absurd (omega arith)
same_at f (p ∷ a) (q ∷ b) zero x y h g s t e = let u : f p ≡ f q = cc in ap f s ∙ (u ∙ ap f (sym t))
same_at f (p ∷ a) (q ∷ b) (suc k) x y h g s t e = same_at f a b k x y (omega arith) (omega arith) s t cc

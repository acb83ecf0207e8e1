-- The comma at the end of a text.
use Rattle.std.proofs.Common.{◌≡◌, ℕ, ◌+◌, ◌-◌, Bool, true, false, cond, List, [], ◌∷◌, ◌++◌, length, take, get_or, refl, sym, ap, ◌∙◌, append_assoc, length-append, arith}
use Rattle.std.specs.Prelude.{◌==◌}
use Rattle.std.proofs.lemmas.List.{get_or-append-add}
use Rattle.std.proofs.Math.Seq.{take-append-add}
use Rattle.log_audit.specs.Commas.{ends_in_comma, without_comma}

cond_inside : (b : Bool) (h a c : List ℕ) → cond b (h ++ a) (h ++ c) ≡ h ++ cond b a c
cond_inside true h a c = refl
cond_inside false h a c = refl

-- the end of a text is that of what stands last in it
pub comma_inside : (h : List ℕ) (x : ℕ) (t : List ℕ) → without_comma (h ++ (x ∷ t)) ≡ h ++ without_comma (x ∷ t)
comma_inside h x t =
    let ys : List ℕ = x ∷ t in
    let n : length (h ++ ys) - 1 ≡ length h + (length ys - 1) = rw (length-append h ys) (omega arith) in
    let ends : ends_in_comma (h ++ ys) ≡ ends_in_comma ys = ap (λ (i : ℕ). get_or (h ++ ys) i 0 == 44) n ∙ ap (λ (v : ℕ). v == 44) (get_or-append-add h ys (length ys - 1) 0) in
    let front : take (length (h ++ ys) - 1) (h ++ ys) ≡ h ++ take (length ys - 1) ys = ap (λ (i : ℕ). take i (h ++ ys)) n ∙ take-append-add h ys (length ys - 1) in
    ap (λ (b : Bool). cond b (take (length (h ++ ys) - 1) (h ++ ys)) (h ++ ys)) ends
    ∙ (ap (λ (f : List ℕ). cond (ends_in_comma ys) f (h ++ ys)) front ∙ cond_inside (ends_in_comma ys) h (take (length ys - 1) ys) ys)

-- a list ends in the part of a text that is kept
pub ended : (h t e new : List ℕ) → (t ≡ [] → h ≡ []) → new ≡ without_comma t ++ e → h ++ new ≡ without_comma (h ++ t) ++ e
ended h [] e new none is = rw (none refl, is) refl
ended h (x ∷ t) e new none is =
    ap (λ (n : List ℕ). h ++ n) is ∙ (sym (append_assoc h (without_comma (x ∷ t)) e) ∙ ap (λ (n : List ℕ). n ++ e) (sym (comma_inside h x t)))

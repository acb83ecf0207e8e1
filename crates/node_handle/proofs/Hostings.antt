-- What a host has of a node, as records come and are kept.
use Rattle.std.proofs.Common.{◌≡◌, ℕ, ◌+◌, ◌-◌, List, [], ◌∷◌, refl, ap, ◌∙◌, arith}
use Rattle.node_handle.specs.Waiting.{Waiting, all_lowered}

-- what is kept in two steps is kept in one
pub lowered_twice : (kept size : ℕ) (words : List Waiting) → all_lowered (kept + size) words ≡ all_lowered size (all_lowered kept words)
lowered_twice kept size [] = refl
lowered_twice kept size (w ∷ words) =
    let same : w.mark - (kept + size) ≡ w.mark - kept - size = omega arith in
    ap (λ (n : ℕ). record { mark = n; text = w.text } ∷ all_lowered (kept + size) words) same
    ∙ ap (λ (more : List Waiting). record { mark = w.mark - kept - size; text = w.text } ∷ more) (lowered_twice kept size words)

-- How the calls of a log, and their packets and bytes, are compared one after another.
use Rattle.std.proofs.Common.{◌≡◌, ℕ, ◌+◌, ◌≤◌, List, [], ◌∷◌, length, drop, refl, sym, ap, ◌∙◌, add-zero}
use Rattle.std.proofs.lemmas.List.{drop_all}
use Rattle.log_audit.specs.Wrongs.{common}

-- nothing is the same as nothing
common_none : (xs : List ℕ) → common xs [] ≡ 0
common_none [] = refl
common_none (x ∷ xs) = refl

pub common_past : (made kept : List ℕ) (passed whole : ℕ) → length kept ≤ passed → passed + common (drop passed made) (drop passed kept) ≡ whole → passed ≡ whole
common_past made kept passed whole le so_far =
    let none : common (drop passed made) (drop passed kept) ≡ 0 = ap (common (drop passed made)) (drop_all passed kept le) ∙ common_none (drop passed made) in
    sym (add-zero passed) ∙ (ap (λ (n : ℕ). passed + n) (sym none) ∙ so_far)

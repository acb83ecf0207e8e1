-- Entries with such an answer, one after the other.
use Rattle.std.proofs.Common.{◌≡◌, ℕ, suc, ◌+◌, List, ◌++◌, ap, subst, ◌∙◌, arith}
use Rattle.bin_routes.specs.Key.{RouteKey}
use Rattle.node_service.specs.Serving.{Serving}
use Rattle.log_growth.specs.Rejected.{rerouted_to, rerouted_at, rerouted_key}

-- one entry more
pub one_more : (s : Serving) (pharmacy n : ℕ) (before after : List (ℕ × RouteKey)) → before ≡ rerouted_to s pharmacy n → after ≡ before ++ rerouted_at (n + 1) (rerouted_key s pharmacy (n + 1)) → after ≡ rerouted_to s pharmacy (n + 1)
one_more s pharmacy n before after is more =
    let next : suc n ≡ n + 1 = omega arith in
    subst (λ (k : ℕ). after ≡ rerouted_to s pharmacy k) next (more ∙ ap (λ (xs : List (ℕ × RouteKey)). xs ++ rerouted_at (n + 1) (rerouted_key s pharmacy (n + 1))) is)

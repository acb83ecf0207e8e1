-- Logs that fit, and those that break.
use Rattle.std.proofs.Common.{◌≡◌, ℕ, zero, suc, List, [], ◌∷◌, refl, ap, ◌∙◌}
use Rattle.std.specs.Prelude.{Bool, true, false, not, Option, Some, None, is_some}
use Rattle.claim_model.specs.Context.{Context}
use Rattle.claim_model.specs.Node.{Outcome, Done, Refused}
use Rattle.claim_model.specs.Nodes.{AnyNode, node_step}
use Rattle.claim_model.specs.Logs.{Logged}
use Rattle.node_log.specs.Fits.{FitsBy, Fits, Tells}
use Rattle.node_log.specs.declared.misfit.FirstMisfit.{FirstMisfit}
use Rattle.node_log.specs.Misfits.{DoesNot, BreaksAt, IsFirst}

-- a call that a node does not make does not fit
not_here : (ctx : Context) (s : AnyNode) (r : Logged) (P : AnyNode → Type 0) (o : Outcome AnyNode) → node_step ctx s r.call ≡ o → DoesNot ctx s r → FitsBy P r.sent o → ⊥
not_here ctx s r P (Refused why) e n h = h
not_here ctx s r P (Done after out) e n h = n after (e ∙ ap (Done after) h.0)

-- where what follows a call does not fit, nothing does
not_behind : (P Q : AnyNode → Type 0) (r : Logged) (o : Outcome AnyNode) → ((after : AnyNode) → P after → Q after → ⊥) → FitsBy P r.sent o → FitsBy Q r.sent o → ⊥
not_behind P Q r (Refused why) n g h = h
not_behind P Q r (Done after out) n g h = n after g.1 h.1

breaks_apart : (ctx : Context) (s : AnyNode) (calls : List Logged) (place : ℕ) → BreaksAt ctx s calls place → Fits ctx s calls → ⊥
breaks_apart ctx s [] place b h = b
breaks_apart ctx s (r ∷ more) zero b h = not_here ctx s r (λ after. Fits ctx after more) (node_step ctx s r.call) refl b h
breaks_apart ctx s (r ∷ more) (suc place) b h =
    not_behind (λ after. BreaksAt ctx after more place) (λ after. Fits ctx after more) r (node_step ctx s r.call) (λ after. breaks_apart ctx after more place) b h

-- whether there is no first misfit tells whether all fit
pub tells_whole : (ctx : Context) (s : AnyNode) (calls : List Logged) (found : Option FirstMisfit) (none : Bool) → is_some found ≡ not none → IsFirst ctx s calls found → Tells none (Fits ctx s calls)
tells_whole ctx s calls None true e h = h
tells_whole ctx s calls None false e h = absurd cc
tells_whole ctx s calls (Some first) true e h = absurd cc
tells_whole ctx s calls (Some first) false e h = breaks_apart ctx s calls first.place h

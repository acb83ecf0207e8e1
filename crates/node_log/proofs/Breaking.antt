-- Calls that a node makes one after another, up to the first that it does not.
use Rattle.std.proofs.Common.{◌≡◌, ℕ, suc, ◌+◌, List, [], ◌∷◌, refl, sym, ap, ◌∙◌, subst, arith}
use Rattle.std.specs.Prelude.{Option, None, Ok}
use Rattle.claim_model.specs.Context.{Context}
use Rattle.claim_model.specs.Node.{Outcome, Done, Refused}
use Rattle.claim_model.specs.Nodes.{AnyNode, node_step}
use Rattle.claim_model.specs.Logs.{Logged, node_after, replay, Makes}
use Rattle.node_log.specs.Fits.{FitsBy, Fits}
use Rattle.node_log.specs.declared.misfit.FirstMisfit.{FirstMisfit}
use Rattle.node_log.specs.Misfits.{Does, DoesNot, BreaksAt, IsFirst, IsMadeFrom}

-- what these calls come to from this state, all calls come to from that one, this many calls before
pub record Leads (ctx : Context) (s : AnyNode) (calls : List Logged) (t : AnyNode) (all : List Logged) (passed : ℕ) : Type 0 where
  pub fits : Fits ctx s calls → Fits ctx t all
  pub breaks : (p q : ℕ) → q ≡ passed + p → BreaksAt ctx s calls p → BreaksAt ctx t all q
  pub ends : replay ctx t all ≡ replay ctx s calls

pub leads_step : (ctx : Context) (s after t : AnyNode) (r : Logged) (calls all : List Logged) (passed : ℕ) → Does ctx s r after → Leads ctx s (r ∷ calls) t all passed → Leads ctx after calls t all (passed + 1)
leads_step ctx s after t r calls all passed e f = record {
  fits = λ h. f.fits (subst (λ (o : Outcome AnyNode). FitsBy (λ x. Fits ctx x calls) r.sent o) (sym e) (refl, h));
  breaks = λ p q is h. f.breaks (suc p) q (omega arith) (subst (λ (o : Outcome AnyNode). FitsBy (λ x. BreaksAt ctx x calls p) r.sent o) (sym e) (refl, h));
  ends = f.ends ∙ ap (λ (o : Outcome AnyNode). replay ctx (node_after s o) calls) e;
}

pub breaks_here : (ctx : Context) (s t : AnyNode) (r : Logged) (calls all : List Logged) (passed : ℕ) → DoesNot ctx s r → Leads ctx s (r ∷ calls) t all passed → BreaksAt ctx t all passed
breaks_here ctx s t r calls all passed n f = f.breaks 0 passed (omega arith) n

-- calls that fit are made
made_by : (ctx : Context) (s : AnyNode) (r : Logged) (more : List Logged) (o : Outcome AnyNode) → node_step ctx s r.call ≡ o → ((after : AnyNode) → Fits ctx after more → Makes ctx after more) → FitsBy (λ after. Fits ctx after more) r.sent o → Makes ctx s (r ∷ more)
made_by ctx s r more (Refused why) e rest h = absurd h
made_by ctx s r more (Done after out) e rest h =
    let next : node_after s (node_step ctx s r.call) ≡ after = ap (node_after s) e in
    (e ∙ ap (Done after) h.0 ∙ ap (λ (x : AnyNode). Done x r.sent) (sym next), subst (λ (x : AnyNode). Makes ctx x more) (sym next) (rest after h.1))

pub fits_makes : (ctx : Context) (s : AnyNode) (calls : List Logged) → Fits ctx s calls → Makes ctx s calls
fits_makes ctx s [] h = tt
fits_makes ctx s (r ∷ more) h = made_by ctx s r more (node_step ctx s r.call) refl (λ after g. fits_makes ctx after more g) h

-- where no call is a misfit, all are made, and the node is their replay
pub made_whole : (ctx : Context) (before after : AnyNode) (calls : List Logged) (found : Option FirstMisfit) → found ≡ None → IsFirst ctx before calls found → (found ≡ None → after ≡ replay ctx before calls) → IsMadeFrom ctx before calls (Ok after)
made_whole ctx before after calls found none first ends = (fits_makes ctx before calls (subst (IsFirst ctx before calls) none first), ends none)

-- A log and one accepted call more, replayed.
use Rattle.std.proofs.Common.{◌≡◌, List, [], ◌∷◌, ◌++◌, Option, Some, None, refl, sym, ap, ◌∙◌, subst}
use Rattle.std.specs.Prelude.{option_map}
use Rattle.claim_model.specs.Context.{Context}
use Rattle.claim_model.specs.Node.{Call, Sent, Outcome, Done, Refused}
use Rattle.claim_model.specs.Nodes.{AnyNode, node_step}
use Rattle.claim_model.specs.Logs.{Logged, NodeLog, node_after, replay}
use Rattle.world_setup.specs.declared.settings.WorldSettings.{WorldSettings}
use Rattle.node_log.specs.Fits.{Fits, FitsBy}
use Rattle.run_merge.specs.Merged.{FitsThere}
use Rattle.node_logged.specs.Setting.{context_of, opened}
use Rattle.node_logged.specs.Holding.{IsKept, recorded}

-- the replay of a log and one call more is that call on the replay of the log
replayed_more : (ctx : Context) (calls : List Logged) (l : Logged) (s : AnyNode) → replay ctx s (calls ++ l ∷ []) ≡ node_after (replay ctx s calls) (node_step ctx (replay ctx s calls) l.call)
replayed_more ctx [] l s = refl
replayed_more ctx (k ∷ calls) l s = replayed_more ctx calls l (node_after s (node_step ctx s k.call))

replayed_on : (ctx : Context) (o : Option AnyNode) (calls : List Logged) (l : Logged) (state next : AnyNode) → option_map (λ s. replay ctx s calls) o ≡ Some state → node_step ctx state l.call ≡ Done next l.sent
    → option_map (λ s. replay ctx s (calls ++ l ∷ [])) o ≡ Some next
replayed_on ctx None calls l state next was step = absurd (cc)
replayed_on ctx (Some s) calls l state next was step =
    let there : replay ctx s calls ≡ state = cc in
    let after : node_after (replay ctx s calls) (node_step ctx (replay ctx s calls) l.call) ≡ next = rw (there, step) refl in
    ap (λ n. Some n) (replayed_more ctx calls l s ∙ after)

-- a log that fits a node fits it with one more call, which the replay of the log accepts and sends this for
fits_more : (ctx : Context) (calls : List Logged) (l : Logged) (s next : AnyNode) → Fits ctx s calls → node_step ctx (replay ctx s calls) l.call ≡ Done next l.sent → Fits ctx s (calls ++ l ∷ [])
fits_more ctx [] l s next fits step = subst (λ (o : Outcome AnyNode). FitsBy (λ after. Fits ctx after []) l.sent o) (sym step) (refl, tt)
fits_more ctx (k ∷ calls) l s next fits step = by (λ after. fits_more ctx calls l after next) (node_step ctx s k.call) fits step
  where
    by : ((after : AnyNode) → Fits ctx after calls → node_step ctx (replay ctx after calls) l.call ≡ Done next l.sent → Fits ctx after (calls ++ l ∷ [])) → (o : Outcome AnyNode)
        → FitsBy (λ after. Fits ctx after calls) k.sent o → node_step ctx (replay ctx (node_after s o) calls) l.call ≡ Done next l.sent → FitsBy (λ after. Fits ctx after (calls ++ l ∷ [])) k.sent o
    by again (Done after out) fits step = (fits.0, again after fits.1 step)
    by again (Refused why) fits step = absurd fits

fits_on : (ctx : Context) (o : Option AnyNode) (calls : List Logged) (l : Logged) (state next : AnyNode) → option_map (λ s. replay ctx s calls) o ≡ Some state → FitsThere ctx o calls → node_step ctx state l.call ≡ Done next l.sent
    → FitsThere ctx o (calls ++ l ∷ [])
fits_on ctx None calls l state next was fits step = absurd (cc)
fits_on ctx (Some s) calls l state next was fits step =
    let there : state ≡ replay ctx s calls = cc in
    fits_more ctx calls l s next fits (subst (λ (n : AnyNode). node_step ctx n l.call ≡ Done next l.sent) there step)

-- a node that is kept by its log is so after a step that is recorded
pub stays_kept : (settings : WorldSettings) (state next : AnyNode) (log new : NodeLog) (call : Call) (sent : List Sent) → IsKept settings state log → node_step (context_of settings) state call ≡ Done next sent
    → new ≡ recorded log call sent → IsKept settings next new
stays_kept settings state next log new call sent was step is =
    subst (λ (n : NodeLog). IsKept settings next n) (sym is)
    (record {
      replay = replayed_on (context_of settings) (opened settings log.node) log.calls (record { call = call; sent = sent }) state next was.replay step;
      fits = fits_on (context_of settings) (opened settings log.node) log.calls (record { call = call; sent = sent }) state next was.replay was.fits step;
    })

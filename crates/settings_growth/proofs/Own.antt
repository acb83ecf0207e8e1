-- In a run each request that is taken is of a pharmacy of the settings.
use Rattle.std.proofs.Common.{◌≡◌, ℕ, Bool, true, false, cond, List, [], ◌∷◌, Option, Some, None, refl, sym, ◌∙◌, subst}
use Rattle.std.specs.List.{AllByRecursion}
use Rattle.claim_model.specs.Words.{Envelope}
use Rattle.claim_model.specs.Context.{Context}
use Rattle.claim_model.specs.Laws.{Laws}
use Rattle.claim_model.specs.Readable.{is_request}
use Rattle.claim_model.specs.Numbered.{numbered}
use Rattle.claim_model.specs.Node.{Node, Outcome, Done, Refused}
use Rattle.claim_model.specs.World.{World, Packet, Event, Submission, Ticking, Delivery, Stopping, Starting, Revising, Adjudication, step, world_after}
use Rattle.claim_model.specs.Settings.{WorldSettings, Accepts, opening}
use Rattle.claim_model.specs.Nodes.{Asked, same_node, asked, taking, adjudicating}
use Rattle.claim_model.specs.Held.{asked as asked_for}
use Rattle.claim_model.specs.Logs.{Logged, NodeLog, logged_if, logged_by, log_in}
use Rattle.claim_model.specs.Interleavings.{IsInterleaving}
use Rattle.claim_model.proofs.Lists.{all_at, all_from, all_append}
use Rattle.claim_model.proofs.Options.{same_some, same_ok}
use Rattle.claim_model.proofs.Sound.{Sound}
use Rattle.claim_model.proofs.Held.{journal_sound, requests_submitted}
use Rattle.claim_model.proofs.Owners.{asker}
use Rattle.claim_model.proofs.Runs.{run_sound, opening_sound}
use Rattle.settings_growth.specs.Growth.{IsOwnPacket, IsOwnCall, HasOwnCalls}

-- a packet's request is of the pharmacy that asked for it
own_packet : (ctx : Context) (s : WorldSettings) (w : World) (k : ℕ) (p : Packet) → Laws ctx → Sound ctx s w → numbered w.packets k ≡ Some p → IsOwnPacket ctx s p.bytes
own_packet ctx s w k p laws x at = λ e h opened is reads.
    let a = (requests_submitted ctx s w laws x).packets k p at in
    let same : a.envelope ≡ e = same_ok a.envelope e (sym a.reads ∙ opened) in
    let asks : asked_for w e.id ≡ Some e.payload = subst (λ (v : Envelope). is_request v ≡ true → asked_for w v.id ≡ Some v.payload) same a.asks is in
    let o = asker ctx s w e.id e.payload h x asks reads in
    record {
      number = e.id.pharmacy;
      pharmacy = o.journal.settings;
      at = (journal_sound ctx s w e.id.pharmacy o.journal x o.there).settings;
      qualifier_is = sym o.qualifier;
      provider_is = sym o.provider;
    }

delivers : (ctx : Context) (s : WorldSettings) (w : World) (k : ℕ) (o : Option Packet) (a : Asked) → Laws ctx → Sound ctx s w → numbered w.packets k ≡ o → Rattle.std.specs.Prelude.option_map taking o ≡ Some a → IsOwnCall ctx s a.call
delivers ctx s w k None a laws x at e = absurd cc
delivers ctx s w k (Some p) a laws x at e = subst (λ (b : Asked). IsOwnCall ctx s b.call) (same_some (taking p) a e) (own_packet ctx s w k p laws x at)

advises : (ctx : Context) (s : WorldSettings) (w : World) (k : ℕ) (advice : List ℕ) (o : Option Packet) (a : Asked) → Laws ctx → Sound ctx s w → numbered w.packets k ≡ o → Rattle.std.specs.Prelude.option_map (adjudicating advice) o ≡ Some a → IsOwnCall ctx s a.call
advises ctx s w k advice None a laws x at e = absurd cc
advises ctx s w k advice (Some p) a laws x at e = subst (λ (b : Asked). IsOwnCall ctx s b.call) (same_some (adjudicating advice p) a e) (own_packet ctx s w k p laws x at)

-- what an event asks for
own_asked : (ctx : Context) (s : WorldSettings) (w : World) (event : Event) (a : Asked) → Laws ctx → Sound ctx s w → asked w.packets event ≡ Some a → IsOwnCall ctx s a.call
own_asked ctx s w (Submission n text) a laws x e = subst (λ (b : Asked). IsOwnCall ctx s b.call) (same_some _ a e) tt
own_asked ctx s w (Ticking n) a laws x e = subst (λ (b : Asked). IsOwnCall ctx s b.call) (same_some _ a e) tt
own_asked ctx s w (Delivery k) a laws x e = delivers ctx s w k (numbered w.packets k) a laws x refl e
own_asked ctx s w (Stopping node) a laws x e = subst (λ (b : Asked). IsOwnCall ctx s b.call) (same_some _ a e) tt
own_asked ctx s w (Starting node) a laws x e = subst (λ (b : Asked). IsOwnCall ctx s b.call) (same_some _ a e) tt
own_asked ctx s w (Revising n change) a laws x e = subst (λ (b : Asked). IsOwnCall ctx s b.call) (same_some _ a e) tt
own_asked ctx s w (Adjudication k advice) a laws x e = advises ctx s w k advice (numbered w.packets k) a laws x refl e

one_logged : (ctx : Context) (s : WorldSettings) (b : Bool) (l : Logged) → IsOwnCall ctx s l.call → HasOwnCalls ctx s (cond b (l ∷ []) [])
one_logged ctx s true l own = (own, tt)
one_logged ctx s false l own = tt

by_outcome : (ctx : Context) (s : WorldSettings) (node : Node) (a : Asked) (o : Outcome World) → IsOwnCall ctx s a.call → HasOwnCalls ctx s (logged_if node a o)
by_outcome ctx s node a (Refused why) own = tt
by_outcome ctx s node a (Done next sent) own = one_logged ctx s (same_node a.node node) (record { call = a.call; sent = sent }) own

by_call : (ctx : Context) (s : WorldSettings) (node : Node) (q : Option Asked) (o : Outcome World) → ((a : Asked) → q ≡ Some a → IsOwnCall ctx s a.call) → HasOwnCalls ctx s (logged_by node q o)
by_call ctx s node None o own = tt
by_call ctx s node (Some a) o own = by_outcome ctx s node a o (own a refl)

own_log : (ctx : Context) (s : WorldSettings) (w : World) (events : List Event) (node : Node) → Laws ctx → Accepts ctx s → Sound ctx s w → HasOwnCalls ctx s (log_in ctx w events node)
own_log ctx s w [] node laws accepts x = tt
own_log ctx s w (event ∷ events) node laws accepts x =
    all_append (λ (l : Logged). IsOwnCall ctx s l.call) (logged_by node (asked w.packets event) (step ctx w event)) (log_in ctx (world_after w (step ctx w event)) events node)
    (by_call ctx s node (asked w.packets event) (step ctx w event) (λ a e. own_asked ctx s w event a laws x e))
    (own_log ctx s (world_after w (step ctx w event)) events node laws accepts (run_sound ctx s w (event ∷ []) laws accepts x).sound)

-- the logs of a run
pub all_own : (ctx : Context) (s : WorldSettings) (logs : List NodeLog) (events : List Event) → Laws ctx → Accepts ctx s → IsInterleaving ctx s logs events → AllByRecursion (λ (log : NodeLog). HasOwnCalls ctx s log.calls) logs
all_own ctx s logs events laws accepts i =
    all_from (λ (log : NodeLog). HasOwnCalls ctx s log.calls) logs (λ n log at.
    subst (HasOwnCalls ctx s) (all_at (λ (x : NodeLog). log_in ctx (opening s) events x.node ≡ x.calls) logs n log i.same at)
    (own_log ctx s (opening s) events log.node laws accepts (opening_sound ctx s)))

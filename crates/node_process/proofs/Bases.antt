-- The file that a history begins with, and steps to the process that has its calls.
use Rattle.std.proofs.Common.{◌≡◌, inl, inr, ℕ, List, [], ◌∷◌, ◌++◌, length, take, Option, Some, None, refl, sym, ap, ◌∙◌, subst, arith, append-nil}
use Rattle.std.proofs.lemmas.List.{take_all}
use Rattle.claim_model.specs.Context.{Context}
use Rattle.claim_model.specs.Node.{Node}
use Rattle.claim_model.specs.Nodes.{AnyNode}
use Rattle.claim_model.specs.Logs.{Logged, replay, Makes as MakesLog}
use Rattle.claim_model.proofs.Options.{map_some, same_some}
use Rattle.crash_safety.specs.Network.{Process}
use Rattle.crash_safety.specs.Steps.{Crashes, Restarts, replayed_from, steps_from}
use Rattle.world_setup.specs.declared.settings.WorldSettings.{WorldSettings as Settings}
use Rattle.world_settings.specs.Document.{document_seen}
use Rattle.node_logged.specs.Setting.{context_of}
use Rattle.kept_logs.specs.Stamps.{Stamped, bare_calls}
use Rattle.kept_logs.specs.Logs.{kept_text}
use Rattle.kept_logs.specs.Fits.{FitsNode, FitsKept}
use Rattle.kept_logs.specs.Rests.{begins}
use Rattle.node_service.specs.Serving.{Serving}
use Rattle.node_service.specs.Opened.{Spells, IsBegun, IsOpened}
use Rattle.settings_digest.specs.Digests.{digest_under, turned_in, turned_under}
use Rattle.node_process.specs.Safe.{Whose}
use Rattle.node_process.specs.Histories.{digest_of, OpensWhole, CanBegin, HasCalls, HasBegun}
use Rattle.node_process.proofs.Bare.{bare_has}
use Rattle.node_process.proofs.Left.{IsTornOf, untorn, text_cut, nothing_cut}
use Rattle.node_process.proofs.Spoken.{told_nothing}
use Rattle.node_process.proofs.Stepping.{steps_append, makes_of, makes_all, syncs_of, syncs_all}
use Rattle.node_process.proofs.Texts.{same_begin, same_context}
use Rattle.node_process.proofs.Fronts.{all_of}
use Rattle.node_process.proofs.Between.{IsInner, digest_length}

-- steps to a process that has these calls
begun_with : (ctx : Context) (first : Option AnyNode) (before : AnyNode) (calls : List Logged) → first ≡ Some before → MakesLog ctx before calls → HasBegun ctx first calls
begun_with ctx first before calls opens makes =
    let woken : Process = record { memory = replayed_from ctx first []; synced = []; unsynced = [] } in
    let lives : woken.memory ≡ Some (replay ctx before []) = ap (λ (x : Option AnyNode). replayed_from ctx x []) opens in
    let m = makes_all ctx first before woken [] calls lives makes in
    let made = steps_from ctx first woken (makes_of calls) in
    let is_made : made ≡ record { memory = made.memory; synced = []; unsynced = calls } = same_process made m.synced m.unsynced in
    let synced : steps_from ctx first made (syncs_of calls) ≡ record { memory = made.memory; synced = calls; unsynced = [] } =
    ap (λ (x : Process). steps_from ctx first x (syncs_of calls)) is_made ∙ syncs_all ctx first made.memory [] calls in
    record {
      steps = Restarts ∷ (makes_of calls ++ (syncs_of calls ++ Crashes 0 ∷ []));
      is = steps_append ctx first woken (makes_of calls) (syncs_of calls ++ Crashes 0 ∷ [])
          ∙ (steps_append ctx first made (syncs_of calls) (Crashes 0 ∷ []) ∙ ap (λ (x : Process). steps_from ctx first x (Crashes 0 ∷ [])) synced);
    }
  where
    same_process : (p : Process) → p.synced ≡ [] → p.unsynced ≡ calls → p ≡ record { memory = p.memory; synced = []; unsynced = calls }
    same_process p a b =
        ap (λ (x : List Logged). let q : Process = record { memory = p.memory; synced = x; unsynced = p.unsynced } in q) a
        ∙ ap (λ (x : List Logged). let q : Process = record { memory = p.memory; synced = []; unsynced = x } in q) b

-- a log that begins is of version 2
new_version : (settings : List ℕ) (rest : Option (List ℕ)) → turned_under settings rest [] ≡ turned_in settings rest
unfolding digest_under
new_version settings None = refl
new_version settings (Some rest) = refl

pub record HasBase (whose : Whose) (begun : List ℕ) (settings : Settings) : Type 0 where
  pub calls : List Logged
  pub has : HasCalls (digest_of whose begun) whose.node begun calls
  pub begins_at : HasBegun (context_of settings) (begins settings whose.node whose.rest) calls
  pub inner : IsInner whose begun [] (record { memory = None; synced = calls; unsynced = [] })

empty_base : (whose : Whose) (begun : List ℕ) (settings : Settings) → FitsNode whose.node → begun ≡ [] → HasBase whose begun settings
empty_base whose begun settings fits none = subst (λ (b : List ℕ). HasBase whose b settings) (sym none) (record {
  calls = [];
  has = inr (refl, refl);
  begins_at = record { steps = []; is = refl };
  inner = record {
    synced = [];
    unsynced = [];
    synced_are = refl;
    unsynced_are = refl;
    disk = inr (refl, refl);
    under = all_of [];
    lies = nothing;
    first = [];
    more = [];
    goes = refl;
    was = nothing;
    keeps = inl refl;
    told = told_nothing whose.node [] [] refl;
    second = refl;
    stands = inl (new_version whose.settings whose.rest);
  };
})
  where
    nothing : IsTornOf (digest_of whose []) whose.node [] []
    nothing = untorn (digest_of whose []) whose.node [] [] (nothing_cut (digest_of whose []) whose.node fits)

text_base : (whose : Whose) (begun : List ℕ) (settings : Settings) (calls : List Stamped) (before : AnyNode) → FitsKept (record { node = whose.node; calls = calls }) → begun ≡ kept_text (digest_of whose begun) (record { node = whose.node; calls = calls })
    → begins settings whose.node whose.rest ≡ Some before → MakesLog (context_of settings) before (bare_calls calls) → HasBase whose begun settings
text_base whose begun settings calls before fits text opens makes =
    let digest = digest_of whose begun in
    let d = digest_length whose.settings whose.rest begun in
    let lies : IsTornOf digest whose.node begun calls = subst (λ (b : List ℕ). IsTornOf digest whose.node b calls) (sym text) (untorn digest whose.node _ calls (text_cut digest whose.node calls d fits)) in
    let all : calls ++ [] ≡ calls = append-nil calls in
    record {
      calls = bare_calls calls;
      has = bare_has digest whose.node begun calls fits (inl text);
      begins_at = begun_with (context_of settings) (begins settings whose.node whose.rest) before (bare_calls calls) opens makes;
      inner = record {
        synced = calls;
        unsynced = [];
        synced_are = refl;
        unsynced_are = refl;
        disk = inl text;
        under = all_of begun;
        lies = subst (IsTornOf digest whose.node begun) (sym all) lies;
        first = calls;
        more = [];
        goes = refl;
        was = lies;
        keeps = inl refl;
        told = told_nothing whose.node (bare_calls calls) [] refl;
        second = refl;
        stands = inr text;
      };
    }

pub no_bytes : (bytes : List ℕ) → length bytes ≡ 0 → bytes ≡ []
no_bytes [] e = refl
no_bytes (b ∷ bytes) e = absurd (omega (arith, e))

open_base : (whose : Whose) (begun : List ℕ) (settings : Settings) → Spells whose.settings settings → FitsNode whose.node → OpensWhole whose begun → HasBase whose begun settings
open_base whose begun settings spells fits o = by_begun opened.begun
  where
    start : Serving
    start = o.start

    opened : IsOpened whose.settings whose.node whose.rest begun (length begun) start
    opened = o.opened

    by_begun : IsBegun (digest_of whose begun) whose.node begun opened.log (length begun) start.records → HasBase whose begun settings
    by_begun (inr new) = empty_base whose begun settings fits (no_bytes begun new.1.1.0)
    by_begun (inl read) =
        let calls = opened.log.calls in
        let own : opened.log.node ≡ whose.node = opened.own in
        let same : document_seen start.settings ≡ document_seen settings = same_some (document_seen start.settings) (document_seen settings) (sym opened.spells.spelled ∙ spells.spelled) in
        let first = map_some (λ (n : AnyNode). replay (context_of start.settings) n (bare_calls calls)) (begins start.settings whose.node whose.rest) start.state opened.state in
        let text : begun ≡ kept_text (digest_of whose begun) (record { node = whose.node; calls = calls }) =
        sym (take_all (length begun) begun (omega arith)) ∙ (sym (append-nil (take (length begun) begun)) ∙ (ap (λ (x : List ℕ). take (length begun) begun ++ x) (sym read.1) ∙ (opened.text ∙ ap (λ (n : Node). kept_text (digest_of whose begun) (record { node = n; calls = calls })) own))) in
        text_base whose begun settings calls first.0 (subst (λ (n : Node). FitsKept (record { node = n; calls = calls })) own opened.fits) text
        (sym (same_begin start.settings settings whose.node whose.rest same) ∙ first.1)
        (subst (λ (ctx : Context). MakesLog ctx first.0 (bare_calls calls)) (same_context start.settings settings same) (opened.makes first.0 first.1))

pub base : (whose : Whose) (begun : List ℕ) (settings : Settings) → Spells whose.settings settings → FitsNode whose.node → CanBegin whose begun → HasBase whose begun settings
base whose begun settings spells fits (inl none) = empty_base whose begun settings fits none
base whose begun settings spells fits (inr o) = open_base whose begun settings spells fits o

-- the calls of that file
pub record HasCallsAt (whose : Whose) (begun : List ℕ) : Type 0 where
  pub calls : List Logged
  pub has : HasCalls (digest_of whose begun) whose.node begun calls

pub idle_calls : (whose : Whose) (begun : List ℕ) → CanBegin whose begun → HasCallsAt whose begun
idle_calls whose begun (inl none) = record { calls = []; has = inr (none, refl) }
idle_calls whose begun (inr o) = by_begun o.opened.begun
  where
    by_begun : IsBegun (digest_of whose begun) whose.node begun o.opened.log (length begun) o.start.records → HasCallsAt whose begun
    by_begun (inr new) = record { calls = []; has = inr (no_bytes begun new.1.1.0, refl) }
    by_begun (inl read) =
        let calls = o.opened.log.calls in
        let own : o.opened.log.node ≡ whose.node = o.opened.own in
        let text : begun ≡ kept_text (digest_of whose begun) (record { node = whose.node; calls = calls }) =
        sym (take_all (length begun) begun (omega arith)) ∙ (sym (append-nil (take (length begun) begun)) ∙ (ap (λ (x : List ℕ). take (length begun) begun ++ x) (sym read.1) ∙ (o.opened.text ∙ ap (λ (n : Node). kept_text (digest_of whose begun) (record { node = n; calls = calls })) own))) in
        record { calls = bare_calls calls; has = bare_has (digest_of whose begun) whose.node begun calls (subst (λ (n : Node). FitsKept (record { node = n; calls = calls })) own o.opened.fits) (inl text) }

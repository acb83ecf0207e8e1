-- What a line leaves as it was, and what a start comes to.
use Rattle.std.proofs.Common.{◌≡◌, ◌⊎◌, inl, inr, ℕ, Bool, true, false, cond, List, [], ◌++◌, take, Option, Some, None, Result, Ok, Err, refl, sym, ap, ◌∙◌, subst, append_assoc}
use Rattle.std.specs.Prelude.{codes, OnOk}
use Rattle.std.specs.List.{AllByRecursion}
use Rattle.claim_model.specs.Node.{Call, Stop, Start, Outcome, Done, Refused}
use Rattle.claim_model.specs.Nodes.{AnyNode, node_step}
use Rattle.kept_logs.specs.Stamps.{Stamp, Stamped, no_stamp}
use Rattle.claim_model.proofs.Lists.{all_append}
use Rattle.world_setup.specs.Seen.{call_seen, settings_seen}
use Rattle.world_setup.specs.declared.call.Call.TheVariants as call
use Rattle.world_setup.specs.declared.settings.WorldSettings.{WorldSettings}
use Rattle.node_state.specs.Resting.{IsRecord}
use Rattle.node_logged.specs.Setting.{context_of}
use Rattle.kept_logs.specs.Fits.{FitsStamped}
use Rattle.settings_digest.specs.Digests.{turned_under}
use Rattle.node_service.specs.Asking.{Asked, Calls, Tells, asked_of, call_of, named_of, noted_of, plain_call_of}
use Rattle.node_service.specs.Serving.{Serving, after_call, after_asked, after_line, is_idle_call, known, making, making_once, saying}
use Rattle.node_service.specs.Answering.{idle_line}
use Rattle.node_service.specs.Opened.{Spells}
use Rattle.node_service.specs.Lines.{kept_asked, kept_call, line_kept, with_records}
use Rattle.node_service.proofs.Lines.{line_serves}
use Rattle.log_turning.specs.Turned.{IsEnd, IsStarted, ServesOn}

-- ---- the settings and the name

abbrev Keeps : Serving → Serving → Type 0
Keeps s t = (t.settings ≡ s.settings) × (t.node ≡ s.node)

call_keeps : (s : Serving) (stamp : Stamp) (call : Call) (o : Outcome AnyNode) → Keeps s (after_call s stamp call o)
unfolding after_call
call_keeps s stamp call (Done next sent) = (refl, refl)
call_keeps s stamp call (Refused why) = (refl, refl)

making_keeps : (s : Serving) (stamp : Stamp) (call : Call) → Keeps s (making s stamp call)
making_keeps s stamp call = by_idle (is_idle_call s.state call)
  where
    outcome : Outcome AnyNode
    outcome = node_step (context_of s.settings) s.state call

    by_idle : (idle : Bool) → Keeps s (cond idle (saying s idle_line) (after_call s stamp call outcome))
    by_idle true = (refl, refl)
    by_idle false = call_keeps s stamp call outcome

once_keeps : (s : Serving) (stamp : Stamp) (call : Call) (o : Option ℕ) → Keeps s (making_once s stamp call o)
once_keeps s stamp call (Some number) = (refl, refl)
once_keeps s stamp call None = making_keeps s stamp call

asked_keeps : (s : Serving) (a : Option Asked) → Keeps s (after_asked s a)
asked_keeps s None = (refl, refl)
asked_keeps s (Some (Calls n)) = once_keeps s n.stamp (call_seen n.call) (known s.references n.stamp.reference (call_seen n.call))
asked_keeps s (Some (Tells question)) = (refl, refl)

line_keeps : (s : Serving) (line : List ℕ) → Keeps s (after_line s line)
unfolding after_line
line_keeps s line = asked_keeps s (asked_of line)

-- ---- the log

pub line_on : (s : Serving) (line : List ℕ) → AllByRecursion FitsStamped (line_kept s line) → AllByRecursion IsEnd (line_kept s line) → ServesOn s (after_line s line)
line_on s line fits ends = λ text node rest bytes kept is.
    let keeps = line_keeps s line in
    record {
      spells = subst (λ (settings : WorldSettings). Spells text settings) (sym keeps.0) is.spells;
      named = keeps.1 ∙ is.named;
      log = with_records is.log (line_kept s line);
      own = is.own;
      served = line_serves rest (turned_under text rest bytes) (take kept bytes) is.log s line is.served fits;
      start = is.start;
      opened = is.opened;
      more = is.more ++ line_kept s line;
      calls = ap (λ (calls : List Stamped). calls ++ line_kept s line) is.calls ∙ append_assoc is.opened.log.calls is.more (line_kept s line);
      ends = all_append IsEnd is.more (line_kept s line) is.ends ends;
    }

pub asked_on : {A E : Type 0} (r : Result A E) (s t : Serving) (line : List ℕ) → OnOk r (t ≡ after_line s line) → OnOk r (AllByRecursion FitsStamped (line_kept s line))
    → OnOk r (AllByRecursion IsEnd (line_kept s line) → ServesOn s t)
asked_on (Ok x) s t line served fits = λ ends. subst (λ (u : Serving). ServesOn s u) (sym served) (line_on s line fits ends)
asked_on (Err why) s t line served fits = tt

-- ---- a stop and a start

made_ends : (stamp : Stamp) (call : Call) (o : Outcome AnyNode) → (call ≡ Stop) ⊎ (call ≡ Start) → AllByRecursion IsEnd (kept_call stamp call o)
made_ends stamp call (Done next sent) is = (is, tt)
made_ends stamp call (Refused why) is = tt

pub stop_asks : asked_of (codes "stop") ≡ Some (Calls (plain_call_of call.Stop))
unfolding asked_of noted_of named_of call_of
stop_asks = refl

pub stop_ends : (s : Serving) → AllByRecursion IsEnd (line_kept s (codes "stop"))
stop_ends s =
    subst (λ (a : Option Asked). AllByRecursion IsEnd (kept_asked s a)) (sym stop_asks)
    (made_ends no_stamp Stop (node_step (context_of s.settings) s.state Stop) (inl refl))

start_asks : asked_of (codes "start") ≡ Some (Calls (plain_call_of call.Start))
unfolding asked_of noted_of named_of call_of
start_asks = refl

pub start_ends : (s : Serving) → AllByRecursion IsEnd (line_kept s (codes "start"))
start_ends s =
    subst (λ (a : Option Asked). AllByRecursion IsEnd (kept_asked s a)) (sym start_asks)
    (made_ends no_stamp Start (node_step (context_of s.settings) s.state Start) (inr refl))

-- the node stands as its record says that it starts
call_starts : (s : Serving) (kept : List ℕ) (o : Outcome AnyNode) (is : IsRecord (settings_seen s.settings) s.node kept s.state) → o ≡ Done is.begins [] → IsStarted (after_call s no_stamp Start o) kept
unfolding after_call
call_starts s kept (Done next sent) is e = is.is ∙ ap (λ (n : AnyNode). Some n) (let same : is.begins ≡ next = cc in same)
call_starts s kept (Refused why) is e = absurd cc

pub line_starts : (s : Serving) (kept : List ℕ) → IsRecord (settings_seen s.settings) s.node kept s.state → IsStarted (after_line s (codes "start")) kept
unfolding after_line
line_starts s kept is =
    subst (λ (a : Option Asked). IsStarted (after_asked s a) kept) (sym start_asks)
    (call_starts s kept (node_step (context_of s.settings) s.state Start) is (is.starts (context_of s.settings)))

-- What a process has in memory at each moment.
use Rattle.std.proofs.Common.{◌≡◌, ◌⊎◌, inl, inr, ℕ, Bool, true, false, cond, List, [], ◌∷◌, ◌++◌, length, take, Option, Some, None, refl, sym, ap, ◌∙◌, subst, append-nil}
use Rattle.claim_model.specs.Node.{Node, Call, Outcome, Done, Refused}
use Rattle.claim_model.specs.Nodes.{AnyNode, node_step}
use Rattle.world_setup.specs.Seen.{call_seen}
use Rattle.world_setup.specs.declared.settings.WorldSettings.{WorldSettings as Settings}
use Rattle.node_logged.specs.Setting.{context_of}
use Rattle.kept_logs.specs.Stamps.{Stamp, Stamped, bare_calls}
use Rattle.kept_logs.specs.Logs.{kept_text}
use Rattle.kept_logs.specs.Fits.{FitsKept}
use Rattle.node_service.specs.Asking.{Asked, Calls, Tells as Asks, asked_of}
use Rattle.node_service.specs.Answering.{idle_line}
use Rattle.node_service.specs.Serving.{Serving, cleared, saying, after_call, is_idle_call, known, making, making_once, after_asked, after_line}
use Rattle.node_service.specs.Lines.{after_lines, lines_kept, IsServing}
use Rattle.node_service.specs.Opened.{Spells, IsOpened, replayed_behind}
use Rattle.settings_digest.specs.Digests.{turned_under}
use Rattle.node_service.proofs.Lines.{is_opened_serving, lines_serve}
use Rattle.node_process.specs.Acts.{Act, Found, Cut, Append, Sync, Say, Hear, Unheard, found, file, heard}
use Rattle.node_process.specs.Heard.{whole_lines}
use Rattle.node_process.specs.Safe.{Whose, closed_calls, greeting, asked, log_of, FitsInput, Reads, Trims, Heads, Begins, Serves, Logs}
use Rattle.node_process.specs.Ends.{Remembers, Breaks}

-- ---- a line changes no settings

call_settings : (s : Serving) (stamp : Stamp) (call : Call) (o : Outcome AnyNode) → (after_call s stamp call o).settings ≡ s.settings
unfolding after_call
call_settings s stamp call (Done next sent) = refl
call_settings s stamp call (Refused why) = refl

making_settings : (s : Serving) (stamp : Stamp) (call : Call) → (making s stamp call).settings ≡ s.settings
making_settings s stamp call = by_idle (is_idle_call s.state call)
  where
    by_idle : (idle : Bool) → (cond idle (saying s idle_line) (after_call s stamp call (node_step (context_of s.settings) s.state call))).settings ≡ s.settings
    by_idle true = refl
    by_idle false = call_settings s stamp call (node_step (context_of s.settings) s.state call)

once_settings : (s : Serving) (stamp : Stamp) (call : Call) (o : Option ℕ) → (making_once s stamp call o).settings ≡ s.settings
once_settings s stamp call (Some number) = refl
once_settings s stamp call None = making_settings s stamp call

asked_settings : (s : Serving) (a : Option Asked) → (after_asked s a).settings ≡ s.settings
asked_settings s None = refl
asked_settings s (Some (Calls n)) = once_settings s n.stamp (call_seen n.call) (known s.references n.stamp.reference (call_seen n.call))
asked_settings s (Some (Asks question)) = refl

line_settings : (s : Serving) (line : List ℕ) → (after_line s line).settings ≡ s.settings
unfolding after_line
line_settings s line = asked_settings s (asked_of line)

pub lines_settings : (s : Serving) (lines : List (List ℕ)) → (after_lines s lines).settings ≡ s.settings
lines_settings s [] = refl
lines_settings s (line ∷ lines) = lines_settings (after_line s line) lines ∙ line_settings s line

-- ---- a node that was opened, and one that has served an input

remembers_opened : (whose : Whose) (t : List Act) (whole : ℕ) (s : Serving) (pending : List ℕ) → IsOpened whose.settings whose.node whose.rest (found t) whole s → (pending ≡ []) ⊎ (pending ≡ s.records)
    → file t ++ pending ≡ take whole (found t) ++ s.records → Remembers whose t s
remembers_opened whose t whole s pending o due is =
    let digest = turned_under whose.settings whose.rest (found t) in
    record {
      calls = o.log.calls;
      pending = pending;
      due = due;
      text = is ∙ (o.text ∙ ap (λ (n : Node). kept_text digest (record { node = n; calls = o.log.calls })) o.own);
      fits = subst (λ (n : Node). FitsKept (record { node = n; calls = o.log.calls })) o.own o.fits;
      spells = o.spells;
      state = o.state;
    }

remembers_served : (whose : Whose) (t : List Act) (whole : ℕ) (start s : Serving) (pending input : List ℕ) → IsOpened whose.settings whose.node whose.rest (found t) whole start → FitsInput start input
    → cleared s ≡ cleared (asked start input) → (pending ≡ []) ⊎ (pending ≡ s.records) → file t ++ pending ≡ log_of start (take whole (found t)) input → Remembers whose t s
remembers_served whose t whole start s pending input o fits same due is =
    let digest = turned_under whose.settings whose.rest (found t) in
    let calls = o.log.calls ++ lines_kept start (whole_lines input) in
    let there = asked start input in
    let i = lines_serve whose.rest digest (take whole (found t)) o.log start (whole_lines input) (is_opened_serving whose.settings whose.node whose.rest (found t) whole start o) fits in
    let own : o.log.node ≡ whose.node = o.own in
    let settings : there.settings ≡ s.settings = ap (λ (x : Serving). x.settings) (sym same) in
    let state : there.state ≡ s.state = ap (λ (x : Serving). x.state) (sym same) in
    record {
      calls = calls;
      pending = pending;
      due = due;
      text = is ∙ (i.text ∙ ap (λ (n : Node). kept_text digest (record { node = n; calls = calls })) own);
      fits = subst (λ (n : Node). FitsKept (record { node = n; calls = calls })) own i.fits;
      spells = subst (Spells whose.settings) (sym (lines_settings start (whole_lines input)) ∙ settings) o.spells;
      state =
          ap (λ (x : Settings). replayed_behind x whose.node whose.rest (bare_calls calls)) (sym settings)
          ∙ (ap (λ (n : Node). replayed_behind there.settings n whose.rest (bare_calls calls)) (sym own) ∙ (i.state ∙ ap (λ (x : AnyNode). Some x) state));
    }

-- ---- where a call fails

pub cut_breaks : (whose : Whose) (t : List Act) (whole size : ℕ) (s : Serving) → Reads whose t whole size s → Breaks whose (Cut whole false ∷ t) s
cut_breaks whose t whole size s r =
    subst (λ (acts : List Act). Breaks whose (Cut whole false ∷ acts) s) (sym r.is)
    (record { failed = refl; held = remembers_opened whose (Cut whole false ∷ Found r.bytes ∷ []) whole s s.records r.opened (inr refl) refl })

pub head_breaks : (whose : Whose) (t : List Act) (whole : ℕ) (s : Serving) → Trims whose t whole s → Breaks whose (Append s.records false ∷ t) s
head_breaks whose t whole s h =
    record {
      failed = refl;
      held = remembers_opened whose (Append s.records false ∷ t) whole s [] h.opened (inl refl) (append-nil (file t ++ s.records) ∙ ap (λ (x : List ℕ). x ++ s.records) h.opening.is);
    }

pub settle_breaks : (whose : Whose) (t : List Act) (whole : ℕ) (s : Serving) → Heads whose t whole s → Breaks whose (Sync false ∷ t) s
settle_breaks whose t whole s h = record { failed = refl; held = remembers_opened whose (Sync false ∷ t) whole s [] h.opened (inl refl) (append-nil (file t) ∙ h.opening.is) }

pub greet_breaks : (whose : Whose) (t : List Act) (whole : ℕ) (s : Serving) → Begins whose t whole s → Breaks whose (Say (greeting (closed_calls whose) s.calls) false ∷ t) s
greet_breaks whose t whole s b =
    record { failed = refl; held = remembers_opened whose (Say (greeting (closed_calls whose) s.calls) false ∷ t) whole s [] b.opened (inl refl) (append-nil (file t) ∙ b.opening.is) }

pub append_breaks : (whose : Whose) (t : List Act) (s : Serving) → Serves whose t s → Breaks whose (Append s.records false ∷ t) s
append_breaks whose t s v =
    record {
      failed = refl;
      held = remembers_served whose (Append s.records false ∷ t) v.whole v.start s [] (heard t) v.opened v.served.on.fits v.served.on.same (inl refl) (append-nil (file t ++ s.records) ∙ v.served.log);
    }

pub sync_breaks : (whose : Whose) (t : List Act) (s : Serving) → Serves whose t s → Breaks whose (Sync false ∷ Append s.records true ∷ t) s
sync_breaks whose t s v =
    record {
      failed = refl;
      held = remembers_served whose (Sync false ∷ Append s.records true ∷ t) v.whole v.start s [] (heard t) v.opened v.served.on.fits v.served.on.same (inl refl) (append-nil (file t ++ s.records) ∙ v.served.log);
    }

pub say_breaks : (whose : Whose) (t : List Act) (s : Serving) → Logs whose t s → Breaks whose (Say s.out false ∷ t) s
say_breaks whose t s v =
    record {
      failed = refl;
      held = remembers_served whose (Say s.out false ∷ t) v.whole v.start s [] (heard t) v.opened v.logged.on.fits v.logged.on.same (inl refl) (append-nil (file t) ∙ v.logged.log);
    }

pub unheard_breaks : (whose : Whose) (t : List Act) (s : Serving) → Serves whose t s → Breaks whose (Unheard ∷ t) s
unheard_breaks whose t s v =
    record {
      failed = refl;
      held = remembers_served whose (Unheard ∷ t) v.whole v.start s s.records (heard t) v.opened v.served.on.fits v.served.on.same (inr refl) v.served.log;
    }

-- and where the input ends
pub end_held : (whose : Whose) (t : List Act) (s : Serving) → Serves whose t s → Remembers whose (Hear [] ∷ t) s
end_held whose t s v = remembers_served whose (Hear [] ∷ t) v.whole v.start s s.records (heard t) v.opened v.served.on.fits v.served.on.same (inr refl) v.served.log

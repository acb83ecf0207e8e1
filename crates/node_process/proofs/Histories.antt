-- Whatever happens to a node over bytes, happens to the process of the model.
use Rattle.std.proofs.Common.{◌≡◌, ℕ, List, [], ◌∷◌, ◌++◌, None, refl, sym, ap, ◌∙◌, subst, append_assoc, append-nil}
use Rattle.crash_safety.specs.Network.{Process}
use Rattle.crash_safety.specs.Steps.{Step, Makes, Syncs, Crashes, Restarts, steps_from, at_first, process_after}
use Rattle.world_setup.specs.declared.settings.WorldSettings.{WorldSettings as Settings}
use Rattle.node_logged.specs.Setting.{context_of}
use Rattle.kept_logs.specs.Fits.{FitsNode}
use Rattle.kept_logs.specs.Rests.{begins}
use Rattle.node_service.specs.Opened.{Spells}
use Rattle.node_process.specs.Acts.{Found, Unread, Cut, Append, Sync, Say, Hear, Unheard, heard}
use Rattle.node_process.specs.Heard.{whole_lines, begun_line}
use Rattle.node_process.specs.Safe.{Whose}
use Rattle.node_process.specs.Histories.{Happening, Does, Dies, acts_of, file_of, on_disk, digest_of, CanBegin, IsHistory, HasCalls, ReadsCalls, IsAlive, IsProcess, AreAskedIn, lines_at, lines_of, IsCourse}
use Rattle.node_process.proofs.Splitting.{whole_append}
use Rattle.node_process.proofs.Bare.{bare_has, bare_reads}
use Rattle.node_process.proofs.Left.{torn_fits, torn_reads, front_fits}
use Rattle.node_process.proofs.Stepping.{steps_append}
use Rattle.node_process.proofs.Waking.{asked_append}
use Rattle.node_process.proofs.Between.{IsInner, digest_length, recorded}
use Rattle.node_process.proofs.Running.{next_step}
use Rattle.node_process.proofs.Memory.{memories}
use Rattle.node_process.proofs.Bases.{base}

pub earlier : (whose : Whose) (begun : List ℕ) (one : Happening) (h : List Happening) → IsHistory whose begun (one ∷ h) → IsHistory whose begun h
earlier whose begun (Does act) h is = is.0
earlier whose begun (Dies left) h is = is.0

-- the lines of this life are the last of all that were heard
record EndsWith (all last : List (List ℕ)) : Type 0 where
  front : List (List ℕ)
  is : all ≡ front ++ last

nothing_more : (all last : List (List ℕ)) → EndsWith all last → EndsWith (all ++ []) last
nothing_more all last e = record { front = e.front; is = append-nil all ∙ e.is }

this_life : (h : List Happening) → EndsWith (lines_of h) (whole_lines (heard (acts_of h)))
this_life [] = record { front = []; is = refl }
this_life (Dies left ∷ h) = record { front = lines_of h; is = refl }
this_life (Does (Found bytes) ∷ h) = nothing_more (lines_of h) (whole_lines (heard (acts_of h))) (this_life h)
this_life (Does Unread ∷ h) = nothing_more (lines_of h) (whole_lines (heard (acts_of h))) (this_life h)
this_life (Does (Cut size done) ∷ h) = nothing_more (lines_of h) (whole_lines (heard (acts_of h))) (this_life h)
this_life (Does (Append bytes done) ∷ h) = nothing_more (lines_of h) (whole_lines (heard (acts_of h))) (this_life h)
this_life (Does (Sync done) ∷ h) = nothing_more (lines_of h) (whole_lines (heard (acts_of h))) (this_life h)
this_life (Does (Say bytes done) ∷ h) = nothing_more (lines_of h) (whole_lines (heard (acts_of h))) (this_life h)
this_life (Does (Hear bytes) ∷ h) =
    let before = this_life h in
    let text = heard (acts_of h) in
    let more = whole_lines (begun_line text ++ bytes) in
    record {
      front = before.front;
      is = ap (λ (x : List (List ℕ)). x ++ more) before.is ∙ (append_assoc before.front (whole_lines text) more ∙ ap (λ (x : List (List ℕ)). before.front ++ x) (sym (whole_append text bytes)));
    }
this_life (Does Unheard ∷ h) = nothing_more (lines_of h) (whole_lines (heard (acts_of h))) (this_life h)

asked_wider : (front lines behind : List (List ℕ)) (steps : List Step) → AreAskedIn lines steps → AreAskedIn (front ++ (lines ++ behind)) steps
asked_wider front lines behind [] a = tt
asked_wider front lines behind (Makes call ∷ steps) a =
    let one = a.0 in (
      record {
        before = front ++ one.before;
        line = one.line;
        after = one.after ++ behind;
        is = ap (λ (x : List (List ℕ)). front ++ (x ++ behind)) one.is
            ∙ (ap (λ (x : List (List ℕ)). front ++ x) (append_assoc one.before (one.line ∷ one.after) behind) ∙ sym (append_assoc front one.before (one.line ∷ (one.after ++ behind))));
        noted = one.noted;
        asks = one.asks;
        call_is = one.call_is;
      },
      asked_wider front lines behind steps a.1,
    )
asked_wider front lines behind (Syncs ∷ steps) a = asked_wider front lines behind steps a
asked_wider front lines behind (Crashes left ∷ steps) a = asked_wider front lines behind steps a
asked_wider front lines behind (Restarts ∷ steps) a = asked_wider front lines behind steps a

-- what was asked in this life was asked in all of them
pub asked_in_all : (h : List Happening) (steps : List Step) → AreAskedIn (whole_lines (heard (acts_of h))) steps → AreAskedIn (lines_of h) steps
asked_in_all h steps a =
    let e = this_life h in
    let all : e.front ++ (whole_lines (heard (acts_of h)) ++ []) ≡ lines_of h = ap (λ (x : List (List ℕ)). e.front ++ x) (append-nil (whole_lines (heard (acts_of h)))) ∙ sym e.is in
    subst (λ (x : List (List ℕ)). AreAskedIn x steps) all (asked_wider e.front (whole_lines (heard (acts_of h))) [] steps a)

asked_later : (one : Happening) (h : List Happening) (steps : List Step) → AreAskedIn (lines_of h) steps → AreAskedIn (lines_of (one ∷ h)) steps
asked_later one h steps a = asked_wider [] (lines_of h) (lines_at (one ∷ h)) steps a

asked_much_later : (later h : List Happening) (steps : List Step) → AreAskedIn (lines_of h) steps → AreAskedIn (lines_of (later ++ h)) steps
asked_much_later [] h steps a = a
asked_much_later (one ∷ later) h steps a = asked_later one (later ++ h) steps (asked_much_later later h steps a)

-- steps so far
record HasGone (whose : Whose) (begun : List ℕ) (settings : Settings) (h : List Happening) (p : Process) : Type 0 where
  steps : List Step
  inner : IsInner whose begun h (steps_from (context_of settings) (begins settings whose.node whose.rest) p steps)
  alive : IsAlive (context_of settings) (begins settings whose.node whose.rest) (acts_of h) (steps_from (context_of settings) (begins settings whose.node whose.rest) p steps)
  asked : AreAskedIn (lines_of h) steps

goes_on : (whose : Whose) (begun : List ℕ) (settings : Settings) (later h : List Happening) (p : Process) → Spells whose.settings settings → FitsNode whose.node → IsInner whose begun h p → IsAlive (context_of settings) (begins settings whose.node whose.rest) (acts_of h) p → IsHistory whose begun (later ++ h)
    → HasGone whose begun settings (later ++ h) p
goes_on whose begun settings [] h p spells numbered i alive is = record { steps = []; inner = i; alive = alive; asked = tt }
goes_on whose begun settings (one ∷ later) h p spells numbered i alive is =
    let ctx = context_of settings in
    let at_begin = begins settings whose.node whose.rest in
    let first = goes_on whose begun settings later h p spells numbered i alive (earlier whose begun one (later ++ h) is) in
    let next = next_step whose begun settings spells numbered (later ++ h) (steps_from ctx at_begin p first.steps) first.inner first.alive one is in
    let leads = sym (steps_append ctx at_begin p first.steps next.steps) in
    record {
      steps = first.steps ++ next.steps;
      inner = subst (IsInner whose begun (one ∷ (later ++ h))) leads next.inner;
      alive = subst (IsAlive ctx at_begin (acts_of (one ∷ (later ++ h)))) leads next.alive;
      asked = asked_append (lines_of (one ∷ (later ++ h))) first.steps next.steps (asked_later one (later ++ h) first.steps first.asked) (asked_in_all (one ∷ (later ++ h)) next.steps next.asked);
    }

before_is : (whose : Whose) (begun : List ℕ) (later h : List Happening) → IsHistory whose begun (later ++ h) → IsHistory whose begun h
before_is whose begun [] h is = is
before_is whose begun (one ∷ later) h is = before_is whose begun later h (earlier whose begun one (later ++ h) is)

-- and without what was noted of the calls
is_process : (whose : Whose) (begun : List ℕ) (settings : Settings) (h : List Happening) (p : Process) → Spells whose.settings settings → IsHistory whose begun h → IsInner whose begun h p → IsAlive (context_of settings) (begins settings whose.node whose.rest) (acts_of h) p → IsProcess whose begun settings h p
is_process whose begun settings h p spells is i alive =
    let digest = digest_of whose begun in
    let all = i.synced ++ i.unsynced in
    let fits = torn_fits digest whose.node (file_of begun h) all i.lies in
    record {
      disk = subst (HasCalls digest whose.node (on_disk begun h)) i.synced_are (bare_has digest whose.node (on_disk begun h) i.synced (record { node = fits.node; calls = front_fits i.synced i.unsynced fits.calls }) i.disk);
      lies = subst (ReadsCalls digest whose.node (file_of begun h)) (recorded whose begun h p i) (bare_reads digest whose.node (file_of begun h) all (torn_reads digest whose.node (file_of begun h) all (digest_length whose.settings whose.rest begun) i.lies));
      memory = alive;
      held = memories whose begun settings h p spells is i alive;
      told = i.told;
    }

pub course : (whose : Whose) (begun : List ℕ) (settings : Settings) (later before : List Happening) → Spells whose.settings settings → FitsNode whose.node → CanBegin whose begun → IsHistory whose begun (later ++ before) → IsCourse whose begun settings before (later ++ before)
course whose begun settings later before spells fits can is =
    let ctx = context_of settings in
    let at_begin = begins settings whose.node whose.rest in
    let b = base whose begun settings spells fits can in
    let start : Process = record { memory = None; synced = b.calls; unsynced = [] } in
    let nil : before ++ [] ≡ before = append-nil before in
    let now_is = before_is whose begun later before is in
    let first : HasGone whose begun settings before start = subst (λ (h : List Happening). HasGone whose begun settings h start) nil
    (goes_on whose begun settings before [] start spells fits b.inner refl (subst (IsHistory whose begun) (sym nil) now_is)) in
    let then = goes_on whose begun settings later before (steps_from ctx at_begin start first.steps) spells fits first.inner first.alive is in
    let at : (steps : List Step) → process_after ctx at_begin (b.begins_at.steps ++ steps) ≡ steps_from ctx at_begin start steps =
    λ steps. steps_append ctx at_begin at_first b.begins_at.steps steps ∙ ap (λ (x : Process). steps_from ctx at_begin x steps) b.begins_at.is in
    record {
      calls = b.calls;
      has = b.has;
      begins_at = b.begins_at;
      steps = first.steps;
      more = then.steps;
      first = subst (IsProcess whose begun settings before) (sym (at first.steps)) (is_process whose begun settings before (steps_from ctx at_begin start first.steps) spells now_is first.inner first.alive);
      last = subst (IsProcess whose begun settings (later ++ before)) (sym (at (first.steps ++ then.steps) ∙ steps_append ctx at_begin start first.steps then.steps))
          (is_process whose begun settings (later ++ before) (steps_from ctx at_begin (steps_from ctx at_begin start first.steps) then.steps) spells is then.inner then.alive);
      asked = asked_append (lines_of (later ++ before)) first.steps then.steps (asked_much_later later before first.steps first.asked) then.asked;
    }

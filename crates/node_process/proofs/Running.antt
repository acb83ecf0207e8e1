-- Each act of a run, and each happening, is steps of the process.
use Rattle.std.proofs.Common.{◌≡◌, ◌⊎◌, inl, inr, ℕ, List, [], ◌∷◌, ◌++◌, length, take, Option, refl, sym, ap, ◌∙◌, subst}
use Rattle.std.specs.List.{AllByRecursion}
use Rattle.claim_model.specs.Context.{Context}
use Rattle.claim_model.specs.Node.{Node}
use Rattle.claim_model.specs.Nodes.{AnyNode}
use Rattle.claim_model.specs.Logs.{Logged}
use Rattle.claim_model.proofs.Lists.{all_weaker}
use Rattle.crash_safety.specs.Network.{Process}
use Rattle.crash_safety.specs.Steps.{steps_from}
use Rattle.world_setup.specs.declared.settings.WorldSettings.{WorldSettings as Settings}
use Rattle.node_logged.specs.Setting.{context_of}
use Rattle.kept_logs.specs.Stamps.{Stamped, KeptLog}
use Rattle.kept_logs.specs.Logs.{KeptReading, kept_in}
use Rattle.kept_logs.specs.Fits.{FitsNode}
use Rattle.kept_logs.specs.Rests.{begins}
use Rattle.node_service.specs.Serving.{Serving}
use Rattle.node_service.specs.Lines.{lines_kept}
use Rattle.node_service.specs.Opened.{Spells, IsBegun, IsOpened}
use Rattle.settings_digest.specs.Digests.{turned_under}
use Rattle.node_process.specs.Acts.{Act, Found, Unread, Cut, Append, Sync, Say, Hear, Unheard, found, said, heard}
use Rattle.node_process.specs.Heard.{whole_lines, begun_line}
use Rattle.node_process.specs.Safe.{IsStartOf, closed_calls, IsRead, IsSafe, IsUnopened, IsRun, Whose}
use Rattle.node_process.specs.Histories.{Happening, Does, Dies, acts_of, left_of, on_disk, digest_of, BeginsWith, IsHistory, IsAlive, IsToldBy, IsAskedIn}
use Rattle.node_process.proofs.Splitting.{whole_append}
use Rattle.node_process.proofs.Bare.{ReadsKept}
use Rattle.node_process.proofs.Left.{torn_reads, same_reading, not_short}
use Rattle.node_process.proofs.Stepping.{steps_append}
use Rattle.node_process.proofs.Texts.{IsMadeText, input_text}
use Rattle.node_process.proofs.Waking.{Lives, wake, awake, alive_after, asked_awake, asked_append}
use Rattle.node_process.proofs.Between.{IsInner, inner_as, digest_length, synced_fit, GoesOn, RunsOn, still_step}
use Rattle.node_process.proofs.Finding.{found_step, unread_step, cut_step}
use Rattle.node_process.proofs.Recording.{append_step, sync_step}
use Rattle.node_process.proofs.Saying.{covered_told}
use Rattle.node_process.proofs.Dying.{dies_step}
use Rattle.node_process.proofs.LineCalls.{kept_asked_for}

module _ (whose : Whose) (begun : List ℕ) (settings : Settings) (spells : Spells whose.settings settings) (fits_node : FitsNode whose.node) (h : List Happening) (p : Process) (i : IsInner whose begun h p) where
  abbrev digest : List ℕ
  digest = digest_of whose begun

  d : length digest ≡ 33
  d = digest_length whose.settings whose.rest begun

  abbrev node : Node
  node = whose.node

  -- what the log begins with
  abbrev first_node : Option AnyNode
  first_node = begins settings whose.node whose.rest

  abbrev t : List Act
  t = acts_of h

  -- a log that opens is what was found
  own_first : (bytes : List ℕ) (whole : ℕ) (start : Serving) → (o : IsOpened whose.settings node whose.rest bytes whole start) → turned_under whose.settings whose.rest bytes ≡ digest → bytes ≡ left_of begun h → o.log.calls ≡ i.first
  own_first bytes whole start o second is = by_begun (subst (λ (x : List ℕ). IsBegun x node bytes o.log whole start.records) second o.begun) (torn_reads digest node (left_of begun h) i.first d i.was)
    where
      by_begun : IsBegun digest node bytes o.log whole start.records → ReadsKept digest node (left_of begun h) i.first → o.log.calls ≡ i.first
      by_begun (inl read) (inl own) =
          let r = same_reading (record { log = o.log; whole = whole }) (record { log = record { node = node; calls = i.first }; whole = own.0 }) (sym read.0 ∙ (ap (kept_in digest) is ∙ own.1)) in
          ap (λ (x : KeptReading). x.log.calls) r
      by_begun (inl read) (inr short) = absurd (not_short (record { log = o.log; whole = whole }) (sym read.0 ∙ (ap (kept_in digest) is ∙ short.0)))
      by_begun (inr new) (inl own) = absurd (not_short (record { log = record { node = node; calls = i.first }; whole = own.0 }) (sym own.1 ∙ (sym (ap (kept_in digest) is) ∙ new.0)))
      by_begun (inr new) (inr short) = ap (λ (x : KeptLog). x.calls) new.1.0 ∙ sym short.1

  -- the records of lines that were heard
  lines_asked : (start : Serving) (input : List ℕ) → IsStartOf input (heard t) → AllByRecursion (λ (r : Stamped). IsAskedIn (whole_lines (heard t)) r.logged.call) (lines_kept start (whole_lines input))
  lines_asked start input came =
      let lines = whole_lines input in
      let more = whole_lines (begun_line input ++ came.rest) in
      let all : whole_lines (heard t) ≡ lines ++ more = ap whole_lines (sym came.is) ∙ whole_append input came.rest in
      all_weaker (λ (r : Stamped). IsAskedIn (lines ++ more) r.logged.call) (λ (r : Stamped). IsAskedIn (whole_lines (heard t)) r.logged.call)
      (λ r a. subst (λ (x : List (List ℕ)). IsAskedIn x r.logged.call) (sym all) a) (lines_kept start lines) (kept_asked_for [] lines more start)

  -- each act of a run, but that the log is read
  run_on : (act : Act) → Lives (context_of settings) first_node p → found (act ∷ t) ≡ left_of begun h → IsRead t → (act_reads : (bytes : List ℕ) → act ≡ Found bytes → ⊥) → IsRun whose (act ∷ t) → RunsOn whose begun settings (Does act ∷ h) p
  run_on act lives is read none r = by_act act is none r.start r.whole (ap (turned_under whose.settings whose.rest) is ∙ i.second) r.opened (r.safe [] (act ∷ t) refl)
    where
      by_act : (act : Act) → found (act ∷ t) ≡ left_of begun h → ((bytes : List ℕ) → act ≡ Found bytes → ⊥) → (start : Serving) (whole : ℕ) → turned_under whose.settings whose.rest (found (act ∷ t)) ≡ digest → IsOpened whose.settings node whose.rest (found (act ∷ t)) whole start → IsSafe (closed_calls whose) start (take whole (found (act ∷ t))) (act ∷ t)
          → RunsOn whose begun settings (Does act ∷ h) p
      by_act (Found bytes) is none start whole second o safe = absurd (none bytes refl)
      by_act Unread is none start whole second o safe = absurd safe.order
      by_act (Cut size done) is none start whole second o safe = cut_step whose begun settings fits_node h p i lives size done start whole second o is safe.order.0 safe.order.1
      by_act (Append bytes done) is none start whole second o safe =
          let log = safe.order.1.1 in
          let text = input_text whose digest settings (found t) whole start log.input spells second o log.fits in
          append_step whose begun settings h p i lives bytes done o.log.calls (lines_kept start (whole_lines log.input)) safe.order.0 safe.order.1.0 (own_first (found t) whole start o second is) (lines_asked start log.input log.came)
          (subst (λ (b : List ℕ). IsMadeText whose digest settings b (o.log.calls ++ lines_kept start (whole_lines log.input))) (sym log.is) text)
      by_act (Sync done) is none start whole second o safe =
          let log = safe.order.1 in
          let text = input_text whose digest settings (found t) whole start log.input spells second o log.fits in
          sync_step whose begun settings h p i lives done (o.log.calls ++ lines_kept start (whole_lines log.input)) safe.order.0 (subst (λ (b : List ℕ). IsMadeText whose digest settings b (o.log.calls ++ lines_kept start (whole_lines log.input))) (sym log.is) text)
      by_act (Say bytes done) is none start whole second o safe =
          still_step whose begun settings h p i lives (Say bytes done) safe.order refl refl refl (subst (λ (x : List Logged). IsToldBy node x (said t ++ bytes)) i.synced_are (covered_told whose digest settings (Say bytes done ∷ t) (on_disk begun h) start whole i.synced spells second o (synced_fit whose begun h p i) i.disk d i.keeps safe.covered))
      by_act (Hear bytes) is none start whole second o safe = still_step whose begun settings h p i lives (Hear bytes) safe.order refl refl refl i.told
      by_act Unheard is none start whole second o safe = still_step whose begun settings h p i lives Unheard safe.order refl refl refl i.told

-- ---- each act

heads : (a b : Act) (s t : List Act) → a ∷ s ≡ b ∷ t → (a ≡ b) × (s ≡ t)
heads a b s t e = (cc, cc)

module _ (whose : Whose) (begun : List ℕ) (settings : Settings) (spells : Spells whose.settings settings) (fits_node : FitsNode whose.node) (h : List Happening) (p : Process) (i : IsInner whose begun h p) (alive : IsAlive (context_of settings) (begins settings whose.node whose.rest) (acts_of h) p) where
  abbrev ctx : Context
  ctx = context_of settings

  abbrev at_begin : Option AnyNode
  at_begin = begins settings whose.node whose.rest

  -- it wakes, and goes on
  awake_step : (act : Act) → found (act ∷ acts_of h) ≡ left_of begun h → IsRead (acts_of h) → ((bytes : List ℕ) → act ≡ Found bytes → ⊥) → IsRun whose (act ∷ acts_of h) → GoesOn whose begun settings (Does act ∷ h) p
  awake_step act is read none r =
      let w = awake ctx at_begin (acts_of h) p read alive in
      let q = steps_from ctx at_begin p (wake (acts_of h)) in
      let on = run_on whose begun settings spells fits_node h q (inner_as whose begun h p q i w.synced w.unsynced) act w.lives is read none r in
      let leads = steps_append ctx at_begin p (wake (acts_of h)) on.steps in
      record {
        steps = wake (acts_of h) ++ on.steps;
        inner = subst (IsInner whose begun (Does act ∷ h)) (sym leads) on.inner;
        alive = subst (IsAlive ctx at_begin (act ∷ acts_of h)) (sym leads) (alive_after ctx at_begin act (acts_of h) (steps_from ctx at_begin q on.steps) read on.lives);
        asked = asked_append (whole_lines (heard (act ∷ acts_of h))) (wake (acts_of h)) on.steps (asked_awake (acts_of h) (whole_lines (heard (act ∷ acts_of h)))) on.asked;
      }

  run_step : (act : Act) → found (act ∷ acts_of h) ≡ left_of begun h → IsRun whose (act ∷ acts_of h) → GoesOn whose begun settings (Does act ∷ h) p
  run_step (Found bytes) is r = found_step whose begun settings fits_node h p i bytes (r.safe [] (Found bytes ∷ acts_of h) refl).order is alive
  run_step Unread is r = absurd (r.safe [] (Unread ∷ acts_of h) refl).order
  run_step (Cut size done) is r =
      let only = (r.safe [] (Cut size done ∷ acts_of h) refl).order.0 in
      awake_step (Cut size done) is (subst IsRead (sym only) tt) (λ bytes e. cc) r
  run_step (Append bytes done) is r = awake_step (Append bytes done) is (r.safe [] (Append bytes done ∷ acts_of h) refl).order.0.0 (λ other e. cc) r
  run_step (Sync done) is r = awake_step (Sync done) is (r.safe [] (Sync done ∷ acts_of h) refl).order.0.0 (λ bytes e. cc) r
  run_step (Say bytes done) is r = awake_step (Say bytes done) is (r.safe [] (Say bytes done ∷ acts_of h) refl).order.0 (λ other e. cc) r
  run_step (Hear bytes) is r = awake_step (Hear bytes) is (r.safe [] (Hear bytes ∷ acts_of h) refl).order.0 (λ other e. cc) r
  run_step Unheard is r = awake_step Unheard is (r.safe [] (Unheard ∷ acts_of h) refl).order.0 (λ bytes e. cc) r

  -- the log could not be read
  unread_is : (act : Act) → act ∷ acts_of h ≡ Unread ∷ [] → GoesOn whose begun settings (Does act ∷ h) p
  unread_is act only =
      let parts = heads act Unread (acts_of h) [] only in
      subst (λ (a : Act). GoesOn whose begun settings (Does a ∷ h) p) (sym parts.0) (unread_step whose begun settings fits_node h p i parts.1 alive)

  unopened_step : (act : Act) → found (act ∷ acts_of h) ≡ left_of begun h → IsUnopened (act ∷ acts_of h) → GoesOn whose begun settings (Does act ∷ h) p
  unopened_step act is (inl none) = absurd (let wrong : act ∷ acts_of h ≡ [] = none in cc)
  unopened_step act is (inr (inl only)) = unread_is act only
  unopened_step act is (inr (inr (bytes, e))) =
      let parts = heads act (Found bytes) (acts_of h) [] e in
      subst (λ (a : Act). GoesOn whose begun settings (Does a ∷ h) p) (sym parts.0) (found_step whose begun settings fits_node h p i bytes parts.1 (sym (ap found e) ∙ is) alive)

  act_step : (act : Act) → BeginsWith (left_of begun h) (act ∷ acts_of h) → IsUnopened (act ∷ acts_of h) ⊎ IsRun whose (act ∷ acts_of h) → GoesOn whose begun settings (Does act ∷ h) p
  act_step act (inl none) runs = absurd (let wrong : act ∷ acts_of h ≡ [] = none in cc)
  act_step act (inr (inl only)) runs = unread_is act only
  act_step act (inr (inr is)) (inl unopened) = unopened_step act is unopened
  act_step act (inr (inr is)) (inr run) = run_step act is run

  pub next_step : (one : Happening) → IsHistory whose begun (one ∷ h) → GoesOn whose begun settings (one ∷ h) p
  next_step (Does act) (before, (is, runs)) = act_step act is runs
  next_step (Dies left) (before, leaves) = dies_step whose begun settings h p i left leaves

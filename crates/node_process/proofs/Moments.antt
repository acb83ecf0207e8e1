-- Each act of a process, from a moment that is safe to the next.
use Rattle.std.proofs.Common.{◌≡◌, ◌≤◌, ℕ, suc, Bool, true, false, not, ◌&&◌, cond, List, [], ◌∷◌, ◌++◌, take, length, Result, Ok, Err, OnOk, OnErr, is_ok, ◌==◌, refl, sym, ap, ◌∙◌, subst, ◌⊎◌, inl, inr, append_assoc, append-nil, arith}
use Rattle.std.proofs.lemmas.Bool.Decides.{nat_tests}
use Rattle.node_service.specs.Serving.{Serving, cleared}
use Rattle.node_service.specs.Lines.{after_lines}
use Rattle.node_service.specs.Opened.{IsOpened}
use Rattle.node_process.specs.Acts.{Act, Found, Cut, Append, Sync, Say, Hear, Unheard, found, file, has_failed, kept, said, heard}
use Rattle.node_process.specs.Heard.{whole_lines, begun_line}
use Rattle.node_process.specs.Safe.{Whose, AreEnough, closed_calls, greeting, IsStartOf, asked, log_of, words_of, FitsInput, IsCovered, IsLogOfInput, IsWholeFile, IsSafe, AtEachMoment, IsRun, IsRunDone, IsServed, IsLogged, IsOpening, Reads, Trims, Heads, Begins, Serves, Logs}
use Rattle.node_service.proofs.Lines.{new_or_whole}
use Rattle.node_process.proofs.Fronts.{all_of, same_start, start_with, take_none, through}
use Rattle.node_process.proofs.Asking.{asked_more, fits_more}

-- ---- moments

module _ (before : ℕ) (start : Serving) (base : List ℕ) where
  pub now : (t : List Act) → AtEachMoment before start base t → IsSafe before start base t
  now [] a = a
  now (act ∷ earlier) a = a.0

  throughout : (later : List Act) (t earlier : List Act) → AtEachMoment before start base t → t ≡ later ++ earlier → IsSafe before start base earlier
  throughout [] t earlier a e = subst (IsSafe before start base) e (now t a)
  throughout (l ∷ later) [] earlier a e = absurd (let wrong : [] ≡ l ∷ (later ++ earlier) = e in cc)
  throughout (l ∷ later) (act ∷ front) earlier a e = throughout later front earlier a.1 (let same : act ∷ front ≡ l ∷ (later ++ earlier) = e in cc)

  -- what was covered stays covered where no word was said and nothing was lost
  cover_on : (t u : List Act) → said u ≡ said t → IsStartOf (heard t) (heard u) → IsStartOf (kept t) (kept u) → (said t ≡ []) ⊎ IsCovered before start base t → (said u ≡ []) ⊎ IsCovered before start base u
  cover_on t u words more keeps (inl silent) = inl (words ∙ silent)
  cover_on t u words more keeps (inr c) = inr (record {
    input = c.input;
    came = through c.input (heard t) (heard u) c.came more;
    fits = c.fits;
    sent = subst (λ (x : List ℕ). IsStartOf x (words_of before start c.input)) (sym words) c.sent;
    logged = through (log_of start base c.input) (kept t) (kept u) c.logged keeps;
  })

  all_log : (t : List Act) → FitsInput start (heard t) → file t ≡ log_of start base (heard t) → IsLogOfInput start base t
  all_log t fits e = record { input = heard t; came = all_of (heard t); fits = fits; is = e }

  log_of_all : (t : List Act) → FitsInput start (heard t) → file t ≡ log_of start base (heard t) → IsWholeFile start base t
  log_of_all t fits e = inr (inr (all_log t fits e))

  -- ---- a turn

  pub append_each : (t : List Act) (s : Serving) (done : Bool) → IsServed before start base t s → AtEachMoment before start base (Append s.records done ∷ t)
  append_each t s done v = (
    record {
      order = (v.on.well, (v.on.synced, all_log (Append s.records done ∷ t) v.on.fits v.log));
      covered = cover_on t (Append s.records done ∷ t) refl (all_of (heard t)) (all_of (kept t)) (now t v.on.each).covered;
      whole = log_of_all (Append s.records done ∷ t) v.on.fits v.log;
    },
    v.on.each,
  )

  sync_kept : (t : List Act) (done : Bool) → has_failed t ≡ false → IsStartOf (kept t) (file t) → IsStartOf (kept t) (kept (Sync done ∷ t))
  sync_kept t true well s = subst (λ b. IsStartOf (kept t) (cond (true && not b) (file t) (kept t))) (sym well) s
  sync_kept t false well s = all_of (kept t)

  pub sync_each : (t : List Act) (s : Serving) (done : Bool) → IsServed before start base t s → AtEachMoment before start base (Sync done ∷ Append s.records true ∷ t)
  sync_each t s done v =
      let u = Append s.records true ∷ t in
      let one = append_each t s true v in (
        record {
          order = ((tt, v.on.well.1), all_log u v.on.fits v.log);
          covered = cover_on u (Sync done ∷ u) refl (all_of (heard t)) (sync_kept u done v.on.well.1 (start_with (kept t) (file t) s.records (same_start (kept t) (file t) v.on.synced))) one.0.covered;
          whole = log_of_all (Sync done ∷ u) v.on.fits v.log;
        },
        one,
      )

  pub synced_logged : (t : List Act) (s : Serving) → IsServed before start base t s → IsLogged before start base (Sync true ∷ Append s.records true ∷ t) s
  synced_logged t s v =
      record {
        on = record {
          each = sync_each t s true v;
          well = (tt, v.on.well.1);
          synced = ap (λ b. cond (true && not b) (file t ++ s.records) (kept t)) v.on.well.1;
          fits = v.on.fits;
          same = v.on.same;
          words = v.on.words;
        };
        log = v.log;
      }

  pub no_records : (t : List Act) (s : Serving) → s.records ≡ [] → IsServed before start base t s → IsLogged before start base t s
  no_records t s none v = record { on = v.on; log = sym (append-nil (file t)) ∙ (ap (λ (x : List ℕ). file t ++ x) (sym none) ∙ v.log) }

  pub say_each : (t : List Act) (s : Serving) (done : Bool) → IsLogged before start base t s → AtEachMoment before start base (Say s.out done ∷ t)
  say_each t s done v = (
    record {
      order = v.on.well;
      covered = inr (record {
        input = heard t;
        came = all_of (heard t);
        fits = v.on.fits;
        sent = same_start (said t ++ s.out) (words_of before start (heard t)) v.on.words;
        logged = same_start (log_of start base (heard t)) (kept t) (sym v.log ∙ sym v.on.synced);
      });
      whole = log_of_all (Say s.out done ∷ t) v.on.fits v.log;
    },
    v.on.each,
  )

  pub said_served : (t : List Act) (s : Serving) → IsLogged before start base t s → IsServed before start base (Say s.out true ∷ t) (cleared s)
  said_served t s v =
      record {
        on = record {
          each = say_each t s true v;
          well = (tt, v.on.well.1);
          synced = v.on.synced;
          fits = v.on.fits;
          same = v.on.same;
          words = append-nil (said t ++ s.out) ∙ v.on.words;
        };
        log = append-nil (file t) ∙ v.log;
      }

  whole_on : (t : List Act) (bytes : List ℕ) → IsWholeFile start base t → IsWholeFile start base (Hear bytes ∷ t)
  whole_on t bytes (inl e) = inl e
  whole_on t bytes (inr (inl e)) = inr (inl e)
  whole_on t bytes (inr (inr l)) = inr (inr (record { input = l.input; came = start_with l.input (heard t) bytes l.came; fits = l.fits; is = l.is }))

  whole_still : (t : List Act) → IsWholeFile start base t → IsWholeFile start base (Unheard ∷ t)
  whole_still t (inl e) = inl e
  whole_still t (inr (inl e)) = inr (inl e)
  whole_still t (inr (inr l)) = inr (inr (record { input = l.input; came = l.came; fits = l.fits; is = l.is }))

  pub hear_each : (t : List Act) (s : Serving) (bytes : List ℕ) → IsServed before start base t s → AtEachMoment before start base (Hear bytes ∷ t)
  hear_each t s bytes v = (
    record {
      order = v.on.well;
      covered = cover_on t (Hear bytes ∷ t) refl (record { rest = bytes; is = refl }) (all_of (kept t)) (now t v.on.each).covered;
      whole = whole_on t bytes (now t v.on.each).whole;
    },
    v.on.each,
  )

  pub unheard_each : (t : List Act) (s : Serving) → IsServed before start base t s → AtEachMoment before start base (Unheard ∷ t)
  unheard_each t s v = (
    record {
      order = v.on.well;
      covered = cover_on t (Unheard ∷ t) refl (all_of (heard t)) (all_of (kept t)) (now t v.on.each).covered;
      whole = whole_still t (now t v.on.each).whole;
    },
    v.on.each,
  )

  pub heard_served : (t : List Act) (s : Serving) (bytes : List ℕ) → IsServed before start base t s → FitsInput s (begun_line (heard t) ++ bytes) → IsServed before start base (Hear bytes ∷ t) (after_lines s (whole_lines (begun_line (heard t) ++ bytes)))
  heard_served t s bytes v fits =
      let f = asked_more start (heard t) bytes s v.on.same in
      let u = f.added in
      let a = asked start (heard t) in
      subst (IsServed before start base (Hear bytes ∷ t)) (sym f.own)
      (record {
        on = record {
          each = hear_each t s bytes v;
          well = (tt, v.on.well.1);
          synced = v.on.synced;
          fits = fits_more start (heard t) bytes s v.on.same v.on.fits fits;
          same = ap cleared (sym f.all);
          words =
              sym (append_assoc (said t) s.out u.out)
              ∙ (ap (λ (x : List ℕ). x ++ u.out) v.on.words
              ∙ (append_assoc (greeting before start.calls) a.out u.out ∙ ap (λ (x : Serving). greeting before start.calls ++ x.out) (sym f.all)));
        };
        log =
            sym (append_assoc (file t) s.records u.records)
            ∙ (ap (λ (x : List ℕ). x ++ u.records) v.log
            ∙ (append_assoc base a.records u.records ∙ ap (λ (x : Serving). base ++ x.records) (sym f.all)));
      })

  -- ---- the opening

  pub found_each : (bytes : List ℕ) → AtEachMoment before start base (Found bytes ∷ [])
  found_each bytes = (record { order = refl; covered = inl refl; whole = inl refl }, record { order = tt; covered = inl refl; whole = inl refl })

  pub head_each : (t : List Act) (done : Bool) → IsOpening before start base t base → kept t ≡ file t → AtEachMoment before start base (Append start.records done ∷ t)
  head_each t done o synced = (
    record {
      order = (o.well, (synced, headed));
      covered = inl o.silent;
      whole = inr (inr headed);
    },
    o.each,
  )
    where
      headed : IsLogOfInput start base (Append start.records done ∷ t)
      headed = record { input = []; came = record { rest = heard t; is = refl }; fits = tt; is = ap (λ (x : List ℕ). x ++ start.records) o.is }

  pub settle_each : (t : List Act) (done : Bool) → IsOpening before start base t (base ++ start.records) → AtEachMoment before start base (Sync done ∷ t)
  settle_each t done o =
      let log : IsLogOfInput start base t = record { input = []; came = record { rest = heard t; is = refl }; fits = tt; is = o.is } in
      (record { order = (o.well, log); covered = inl o.silent; whole = inr (inr (record { input = []; came = record { rest = heard t; is = refl }; fits = tt; is = o.is })) }, o.each)

  pub greet_each : (t : List Act) (done : Bool) → IsOpening before start base t (base ++ start.records) → kept t ≡ file t → AtEachMoment before start base (Say (greeting before start.calls) done ∷ t)
  greet_each t done o synced = (
    record {
      order = o.well;
      covered = inr (record {
        input = [];
        came = record { rest = heard t; is = refl };
        fits = tt;
        sent = record { rest = start.out; is = ap (λ (x : List ℕ). (x ++ greeting before start.calls) ++ start.out) o.silent };
        logged = same_start (log_of start base []) (kept t) (sym (synced ∙ o.is));
      });
      whole = inr (inr (record { input = []; came = record { rest = heard t; is = refl }; fits = tt; is = o.is }));
    },
    o.each,
  )

  pub greet_serves : (t : List Act) → start.out ≡ [] → IsOpening before start base t (base ++ start.records) → kept t ≡ file t → IsServed before start base (Say (greeting before start.calls) true ∷ t) (cleared start)
  greet_serves t silent o synced =
      record {
        on = record {
          each = greet_each t true o synced;
          well = (tt, o.well.1);
          synced = synced;
          fits = subst (FitsInput start) (sym o.deaf) tt;
          same = ap (λ (x : List ℕ). cleared (asked start x)) (sym o.deaf);
          words =
              append-nil (said t ++ greeting before start.calls)
              ∙ (ap (λ (x : List ℕ). x ++ greeting before start.calls) o.silent
              ∙ (sym (append-nil (greeting before start.calls))
              ∙ (ap (λ (x : List ℕ). greeting before start.calls ++ x) (sym silent) ∙ ap (λ (x : List ℕ). words_of before start x) (sym o.deaf))));
        };
        log = append-nil (file t) ∙ (o.is ∙ ap (λ (x : List ℕ). log_of start base x) (sym o.deaf));
      }

-- a run of the node of the log that was found
pub runs : (whose : Whose) (t : List Act) (start : Serving) (whole : ℕ) → IsOpened whose.settings whose.node whose.rest (found t) whole start → AreEnough whose start.calls → AtEachMoment (closed_calls whose) start (take whole (found t)) t → IsRun whose t
runs whose t start whole opened enough each =
    record { start = start; whole = whole; opened = opened; enough = enough; safe = λ later earlier e. throughout (closed_calls whose) start (take whole (found t)) later t earlier each e }

-- what holds where a call was done
pub when_done : {T E : Type 0} (r : Result T E) (P : Bool → Type 0) → P true → OnOk r (P (is_ok r))
when_done (Ok x) P p = p
when_done (Err e) P p = tt

-- and where it was not
pub when_failed : {T E : Type 0} (r : Result T E) (P : Bool → Type 0) → P false → OnErr r (P (is_ok r))
when_failed (Ok x) P p = tt
when_failed (Err e) P p = p

pub whatever_failed : {T E : Type 0} (r : Result T E) {P : Type 0} → P → OnErr r P
whatever_failed (Ok x) p = tt
whatever_failed (Err e) p = p

-- ---- in the words of the clauses

pub reads_runs : (whose : Whose) (t : List Act) (whole size : ℕ) (s : Serving) → Reads whose t whole size s → IsRun whose t
reads_runs whose t whole size s r = subst (IsRun whose) (sym r.is) (runs whose (Found r.bytes ∷ []) s whole r.opened r.enough (found_each (closed_calls whose) s (take whole r.bytes) r.bytes))

cut_each : (before : ℕ) (s : Serving) (whole : ℕ) (bytes : List ℕ) (done : Bool) → AtEachMoment before s (take whole bytes) (Cut whole done ∷ Found bytes ∷ [])
cut_each before s whole bytes done = (record { order = (refl, refl); covered = inl refl; whole = inr (inl refl) }, found_each before s (take whole bytes) bytes)

pub cut_runs : (whose : Whose) (t : List Act) (whole size : ℕ) (s : Serving) (done : Bool) → Reads whose t whole size s → IsRun whose (Cut whole done ∷ t)
cut_runs whose t whole size s done r =
    subst (λ (acts : List Act). IsRun whose (Cut whole done ∷ acts)) (sym r.is) (runs whose (Cut whole done ∷ Found r.bytes ∷ []) s whole r.opened r.enough (cut_each (closed_calls whose) s whole r.bytes done))

pub cut_trims : (whose : Whose) (t : List Act) (whole size : ℕ) (s : Serving) → Reads whose t whole size s → Trims whose (Cut whole true ∷ t) whole s
cut_trims whose t whole size s r =
    subst (λ (acts : List Act). Trims whose (Cut whole true ∷ acts) whole s) (sym r.is)
    (record { opened = r.opened; enough = r.enough; opening = record { each = cut_each (closed_calls whose) s whole r.bytes true; well = (tt, refl); silent = refl; deaf = refl; is = refl }; unsynced = take_none whole })

pub whole_trims : (whose : Whose) (t : List Act) (whole size : ℕ) (s : Serving) → Reads whose t whole size s → whole ≡ size → Trims whose t whole s
whole_trims whose t whole size s r same =
    let all : take whole r.bytes ≡ r.bytes = ap (λ (n : ℕ). take n r.bytes) (same ∙ r.count) ∙ take_whole r.bytes in
    subst (λ (acts : List Act). Trims whose acts whole s) (sym r.is)
    (record { opened = r.opened; enough = r.enough; opening = record { each = found_each (closed_calls whose) s (take whole r.bytes) r.bytes; well = (tt, refl); silent = refl; deaf = refl; is = sym all }; unsynced = refl })
  where
    take_whole : (bytes : List ℕ) → take (length bytes) bytes ≡ bytes
    take_whole [] = refl
    take_whole (b ∷ bytes) = ap (λ (x : List ℕ). b ∷ x) (take_whole bytes)

pub trims_runs : (whose : Whose) (t : List Act) (whole : ℕ) (s : Serving) → Trims whose t whole s → IsRun whose t
trims_runs whose t whole s h = runs whose t s whole h.opened h.enough h.opening.each

-- a head is appended to an empty file alone
empty_base : (whose : Whose) (t : List Act) (whole : ℕ) (s : Serving) → Trims whose t whole s → (s.records ≡ [] → ⊥) → kept t ≡ file t
empty_base whose t whole s h some =
    elim (new_or_whole whose.settings whose.node whose.rest (found t) whole s h.opened) [
      | inl none ↦ absurd (some none)
      | inr zero_kept ↦ h.unsynced ∙ sym (h.opening.is ∙ ap (λ (n : ℕ). take n (found t)) zero_kept)
    ]

pub head_runs : (whose : Whose) (t : List Act) (whole : ℕ) (s : Serving) (done : Bool) → Trims whose t whole s → (s.records ≡ [] → ⊥) → IsRun whose (Append s.records done ∷ t)
head_runs whose t whole s done h some = runs whose (Append s.records done ∷ t) s whole h.opened h.enough (head_each (closed_calls whose) s (take whole (found t)) t done h.opening (empty_base whose t whole s h some))

pub head_heads : (whose : Whose) (t : List Act) (whole : ℕ) (s : Serving) → Trims whose t whole s → (s.records ≡ [] → ⊥) → Heads whose (Append s.records true ∷ t) whole s
head_heads whose t whole s h some =
    record {
      opened = h.opened;
      enough = h.enough;
      opening = record {
        each = head_each (closed_calls whose) s (take whole (found t)) t true h.opening (empty_base whose t whole s h some);
        well = (tt, h.opening.well.1);
        silent = h.opening.silent;
        deaf = h.opening.deaf;
        is = ap (λ (x : List ℕ). x ++ s.records) h.opening.is;
      };
    }

pub no_head : (whose : Whose) (t : List Act) (whole : ℕ) (s : Serving) → Trims whose t whole s → s.records ≡ [] → Heads whose t whole s
no_head whose t whole s h none =
    record {
      opened = h.opened;
      enough = h.enough;
      opening = record {
        each = h.opening.each;
        well = h.opening.well;
        silent = h.opening.silent;
        deaf = h.opening.deaf;
        is = h.opening.is ∙ (sym (append-nil (take whole (found t))) ∙ ap (λ (x : List ℕ). take whole (found t) ++ x) (sym none));
      };
    }

pub settle_runs : (whose : Whose) (t : List Act) (whole : ℕ) (s : Serving) (done : Bool) → Heads whose t whole s → IsRun whose (Sync done ∷ t)
settle_runs whose t whole s done h = runs whose (Sync done ∷ t) s whole h.opened h.enough (settle_each (closed_calls whose) s (take whole (found t)) t done h.opening)

pub settle_begins : (whose : Whose) (t : List Act) (whole : ℕ) (s : Serving) → Heads whose t whole s → Begins whose (Sync true ∷ t) whole s
settle_begins whose t whole s h =
    record {
      opened = h.opened;
      enough = h.enough;
      opening = record { each = settle_each (closed_calls whose) s (take whole (found t)) t true h.opening; well = (tt, h.opening.well.1); silent = h.opening.silent; deaf = h.opening.deaf; is = h.opening.is };
      synced = ap (λ b. cond (true && not b) (file t) (kept t)) h.opening.well.1;
    }

pub greet_runs : (whose : Whose) (t : List Act) (whole : ℕ) (s : Serving) (done : Bool) → Begins whose t whole s → IsRun whose (Say (greeting (closed_calls whose) s.calls) done ∷ t)
greet_runs whose t whole s done b = runs whose (Say (greeting (closed_calls whose) s.calls) done ∷ t) s whole b.opened b.enough (greet_each (closed_calls whose) s (take whole (found t)) t done b.opening b.synced)

pub greet_all : (whose : Whose) (t : List Act) (whole : ℕ) (s : Serving) → Begins whose t whole s → Serves whose (Say (greeting (closed_calls whose) s.calls) true ∷ t) (cleared s)
greet_all whose t whole s b =
    record { start = s; whole = whole; opened = b.opened; enough = b.enough; served = greet_serves (closed_calls whose) s (take whole (found t)) t b.opened.silent b.opening b.synced }

pub serves_runs : (whose : Whose) (t : List Act) (s : Serving) → Serves whose t s → IsRun whose t
serves_runs whose t s v = runs whose t v.start v.whole v.opened v.enough v.served.on.each

pub append_runs : (whose : Whose) (t : List Act) (s : Serving) (done : Bool) → Serves whose t s → IsRun whose (Append s.records done ∷ t)
append_runs whose t s done v = runs whose (Append s.records done ∷ t) v.start v.whole v.opened v.enough (append_each (closed_calls whose) v.start (take v.whole (found t)) t s done v.served)

pub sync_runs : (whose : Whose) (t : List Act) (s : Serving) (done : Bool) → Serves whose t s → IsRun whose (Sync done ∷ Append s.records true ∷ t)
sync_runs whose t s done v = runs whose (Sync done ∷ Append s.records true ∷ t) v.start v.whole v.opened v.enough (sync_each (closed_calls whose) v.start (take v.whole (found t)) t s done v.served)

pub sync_logs : (whose : Whose) (t : List Act) (s : Serving) → Serves whose t s → Logs whose (Sync true ∷ Append s.records true ∷ t) s
sync_logs whose t s v = record { start = v.start; whole = v.whole; opened = v.opened; enough = v.enough; logged = synced_logged (closed_calls whose) v.start (take v.whole (found t)) t s v.served }

pub nothing_logs : (whose : Whose) (t : List Act) (s : Serving) → Serves whose t s → s.records ≡ [] → Logs whose t s
nothing_logs whose t s v none = record { start = v.start; whole = v.whole; opened = v.opened; enough = v.enough; logged = no_records (closed_calls whose) v.start (take v.whole (found t)) t s none v.served }

pub say_runs : (whose : Whose) (t : List Act) (s : Serving) (done : Bool) → Logs whose t s → IsRun whose (Say s.out done ∷ t)
say_runs whose t s done v = runs whose (Say s.out done ∷ t) v.start v.whole v.opened v.enough (say_each (closed_calls whose) v.start (take v.whole (found t)) t s done v.logged)

pub say_serves : (whose : Whose) (t : List Act) (s : Serving) → Logs whose t s → Serves whose (Say s.out true ∷ t) (cleared s)
say_serves whose t s v = record { start = v.start; whole = v.whole; opened = v.opened; enough = v.enough; served = said_served (closed_calls whose) v.start (take v.whole (found t)) t s v.logged }

pub hear_runs : (whose : Whose) (t : List Act) (s : Serving) (bytes : List ℕ) → Serves whose t s → IsRun whose (Hear bytes ∷ t)
hear_runs whose t s bytes v = runs whose (Hear bytes ∷ t) v.start v.whole v.opened v.enough (hear_each (closed_calls whose) v.start (take v.whole (found t)) t s bytes v.served)

pub unheard_runs : (whose : Whose) (t : List Act) (s : Serving) → Serves whose t s → IsRun whose (Unheard ∷ t)
unheard_runs whose t s v = runs whose (Unheard ∷ t) v.start v.whole v.opened v.enough (unheard_each (closed_calls whose) v.start (take v.whole (found t)) t s v.served)

pub hear_serves : (whose : Whose) (t : List Act) (s : Serving) (bytes : List ℕ) → Serves whose t s → FitsInput s (begun_line (heard t) ++ bytes) → Serves whose (Hear bytes ∷ t) (after_lines s (whole_lines (begun_line (heard t) ++ bytes)))
hear_serves whose t s bytes v fits = record { start = v.start; whole = v.whole; opened = v.opened; enough = v.enough; served = heard_served (closed_calls whose) v.start (take v.whole (found t)) t s bytes v.served fits }

-- the input has ended, and nothing is left to be said
pub ends_done : (whose : Whose) (t : List Act) (s : Serving) → Serves whose t s → s.records ≡ [] → s.out ≡ [] → IsRunDone whose (Hear [] ∷ t)
ends_done whose t s v no_records no_words =
    let base = take v.whole (found t) in
    let same : heard t ++ [] ≡ heard t = append-nil (heard t) in
    record {
      start = v.start;
      whole = v.whole;
      opened = v.opened;
      enough = v.enough;
      done = record {
        well = v.served.on.well.1;
        logged =
            v.served.on.synced
            ∙ (sym (append-nil (file t))
            ∙ (ap (λ (x : List ℕ). file t ++ x) (sym no_records) ∙ (v.served.log ∙ ap (λ (x : List ℕ). log_of v.start base x) (sym same))));
        words =
            sym (append-nil (said t))
            ∙ (ap (λ (x : List ℕ). said t ++ x) (sym no_words) ∙ (v.served.on.words ∙ ap (λ (x : List ℕ). words_of (closed_calls whose) v.start x) (sym same)));
      };
      ended = refl;
    }

-- a list that is not empty
pub not_empty : (xs ys : List ℕ) (t : Bool) → xs ≡ ys → t ≡ (length xs == 0) → t ≡ false → ys ≡ [] → ⊥
not_empty xs ys t same tests some none = absurd (let all : (length xs == 0) ≡ true = ap (λ (x : List ℕ). length x == 0) (same ∙ none) in cc)

-- and one that is
some_is_not_zero : (n : ℕ) → true ≡ (suc n == 0) → ⊥
some_is_not_zero n e = grind (arith, nat_tests)

pub is_empty_list : (xs ys : List ℕ) (t : Bool) → xs ≡ ys → t ≡ (length xs == 0) → t ≡ true → ys ≡ []
is_empty_list [] ys t same tests empty = sym same
is_empty_list (x ∷ xs) ys t same tests empty = absurd (some_is_not_zero (length xs) (sym empty ∙ tests))

-- The log is read, or not; and what stands after its whole records is cut off.
use Rattle.std.proofs.Common.{◌≡◌, ◌⊎◌, inl, inr, ℕ, ◌<◌, ◌≤◌, Bool, List, [], ◌∷◌, ◌++◌, length, take, Option, Err, refl, sym, ap, ◌∙◌, subst, arith, append-nil}
use Rattle.std.proofs.lemmas.Bool.{cases_lt}
use Rattle.std.proofs.lemmas.List.{take_all}
use Rattle.claim_model.specs.Node.{Node}
use Rattle.claim_model.specs.Nodes.{AnyNode}
use Rattle.crash_safety.specs.Network.{Process}
use Rattle.world_setup.specs.declared.settings.WorldSettings.{WorldSettings as Settings}
use Rattle.node_logged.specs.Setting.{context_of}
use Rattle.kept_logs.specs.declared.fault.LogFault.TheVariants.{Short}
use Rattle.kept_logs.specs.Digests.{version_of}
use Rattle.kept_logs.specs.Stamps.{Stamped, KeptLog}
use Rattle.kept_logs.specs.Logs.{KeptReading, kept_text, kept_in}
use Rattle.kept_logs.specs.Fits.{FitsNode}
use Rattle.kept_logs.specs.Rests.{begins}
use Rattle.kept_logs.proofs.LogsBack.{log_length, reads_back}
use Rattle.node_service.specs.Serving.{Serving}
use Rattle.node_service.specs.Opened.{IsBegun, IsOpened}
use Rattle.settings_digest.specs.Digests.{turned_in, turned_under}
use Rattle.node_service.proofs.Crashes.{longer_text}
use Rattle.node_process.specs.Acts.{Act, Found, Unread, Cut, found, file, kept}
use Rattle.node_process.specs.Safe.{IsStartOf, Whose}
use Rattle.node_process.specs.Histories.{zeros, Happening, Does, acts_of, left_of, file_or, file_of, on_disk, digest_of, IsAlive}
use Rattle.node_process.proofs.Bare.{HasKept, ReadsKept}
use Rattle.node_process.proofs.Left.{IsTornOf, taken_length, untorn, torn_fits, torn_reads, zeros_read, text_cut, nothing_cut, same_reading, not_short}
use Rattle.node_process.proofs.Fronts.{start_length, start_taken, take_none}
use Rattle.node_process.proofs.Waking.{Lives}
use Rattle.node_process.proofs.Between.{IsInner, inner_still, digest_length, all_fit, GoesOn, RunsOn}

short_small : (digest : List ℕ) (node : Node) (bytes : List ℕ) (calls : List Stamped) → length digest ≡ 33 → IsTornOf digest node bytes calls → kept_in digest bytes ≡ Err Short → length bytes < 46
short_small digest node bytes calls d t short = by_end t.ends
  where
    log : KeptLog
    log = record { node = node; calls = t.cut.all }

    by_end : (t.lost ≡ 0) ⊎ (t.front ≡ kept_text digest (record { node = node; calls = calls })) → length bytes < 46
    by_end (inr text) = absurd (not_short _ (sym (zeros_read digest node t.front bytes calls t.lost d (torn_fits digest node bytes calls t) t.is text) ∙ short))
    by_end (inl none) =
        let c = t.cut in
        let same : bytes ≡ take c.size (kept_text digest log) = t.is ∙ (ap (λ n. t.front ++ zeros n) none ∙ (append-nil t.front ∙ c.is)) in
        elim (cases_lt c.size 46) [
          | inl small ↦ let a = ap length same in let b = taken_length c.size (kept_text digest log) in omega (arith, small, a, b)
          | inr large ↦ let back = reads_back digest log c.size d c.fits large in absurd (not_short _ (sym back.read ∙ (sym (ap (kept_in digest) same) ∙ short)))
        ]

module _ (whose : Whose) (begun : List ℕ) (settings : Settings) (fits_node : FitsNode whose.node) (h : List Happening) (p : Process) (i : IsInner whose begun h p) where
  abbrev digest : List ℕ
  digest = digest_of whose begun

  d : length digest ≡ 33
  d = digest_length whose.settings whose.rest begun

  abbrev node : Node
  node = whose.node

  -- what the log begins with
  abbrev first_node : Option AnyNode
  first_node = begins settings whose.node whose.rest

  abbrev t : List Act
  t = acts_of h

  -- all records that the file has
  abbrev all_kept : List Stamped
  all_kept = i.synced ++ i.unsynced

  -- the log is read, or could not be
  read_alive : (act : Act) → acts_of h ≡ [] → IsAlive (context_of settings) first_node (acts_of h) p → IsAlive (context_of settings) first_node (act ∷ acts_of h) p
  read_alive act none alive =
      subst (λ (acts : List Act). IsAlive (context_of settings) first_node (act ∷ acts) p) (sym none) (subst (λ (acts : List Act). IsAlive (context_of settings) first_node acts p) none alive)

  pub found_step : (bytes : List ℕ) → acts_of h ≡ [] → bytes ≡ left_of begun h → IsAlive (context_of settings) first_node (acts_of h) p → GoesOn whose begun settings (Does (Found bytes) ∷ h) p
  found_step bytes none is alive =
      let same : bytes ≡ file_of begun h = is ∙ sym (ap (file_or (left_of begun h)) none) in
      record { steps = []; inner = inner_still whose begun h p i (Found bytes) same refl (sym (ap kept none)) i.told; alive = read_alive (Found bytes) none alive; asked = tt }

  pub unread_step : acts_of h ≡ [] → IsAlive (context_of settings) first_node (acts_of h) p → GoesOn whose begun settings (Does Unread ∷ h) p
  unread_step none alive =
      let same : left_of begun h ≡ file_of begun h = sym (ap (file_or (left_of begun h)) none) in
      record { steps = []; inner = inner_still whose begun h p i Unread same refl refl i.told; alive = read_alive Unread none alive; asked = tt }

  -- what stands after the whole records is cut off
  pub cut_step : Lives (context_of settings) first_node p → (size : ℕ) (done : Bool) (start : Serving) (whole : ℕ) → turned_under whose.settings whose.rest (found t) ≡ digest → IsOpened whose.settings node whose.rest (found t) whole start → found t ≡ left_of begun h → t ≡ Found (found t) ∷ [] → take size (found t) ≡ take whole (found t)
      → RunsOn whose begun settings (Does (Cut size done) ∷ h) p
  cut_step lives size done start whole second o is only cuts = by_begun (subst (λ (x : List ℕ). IsBegun x node (found t) o.log whole start.records) second o.begun) lies_found
    where
      file_found : file t ≡ found t
      file_found = ap file only

      lies_found : IsTornOf digest node (found t) all_kept
      lies_found = subst (λ (b : List ℕ). IsTornOf digest node b all_kept) (ap (file_or (left_of begun h)) only) i.lies

      under_found : IsStartOf (on_disk begun h) (found t)
      under_found = subst (IsStartOf (on_disk begun h)) (ap (file_or (left_of begun h)) only) i.under

      cut_file : take size (file t) ≡ take whole (found t)
      cut_file = ap (take size) file_found ∙ cuts

      stands_as : (digest ≡ turned_in whose.settings whose.rest) ⊎ (on_disk begun h ≡ kept_text digest (record { node = node; calls = i.synced })) → take size (on_disk begun h) ≡ on_disk begun h
          → (digest ≡ turned_in whose.settings whose.rest) ⊎ (take size (on_disk begun h) ≡ kept_text digest (record { node = node; calls = i.synced }))
      stands_as (inl new) same = inl new
      stands_as (inr text) same = inr (same ∙ text)

      -- where nothing that is synced is cut
      with_file : take size (on_disk begun h) ≡ on_disk begun h → IsStartOf (on_disk begun h) (take size (file t)) → IsTornOf digest node (take size (file t)) all_kept → RunsOn whose begun settings (Does (Cut size done) ∷ h) p
      with_file same under lies = record {
        steps = [];
        inner = record {
          synced = i.synced;
          unsynced = i.unsynced;
          synced_are = i.synced_are;
          unsynced_are = i.unsynced_are;
          disk = subst (λ (b : List ℕ). HasKept digest node b i.synced) (sym same) i.disk;
          under = subst (λ (b : List ℕ). IsStartOf b (take size (file t))) (sym same) under;
          lies = lies;
          first = i.first;
          more = i.more;
          goes = i.goes;
          was = i.was;
          keeps = inl (ap (λ (acts : List Act). take size (kept acts)) only ∙ take_none size);
          told = i.told;
          second = i.second;
          stands = stands_as i.stands same;
        };
        lives = lives;
        asked = tt;
      }

      -- a log whose head is there
      of_calls : take size (file t) ≡ kept_text digest (record { node = node; calls = all_kept }) → RunsOn whose begun settings (Does (Cut size done) ∷ h) p
      of_calls e = with_file same (subst (λ (b : List ℕ). IsStartOf (on_disk begun h) (take size b)) (sym file_found) (start_taken (on_disk begun h) (found t) size under_found short)) (subst (λ (b : List ℕ). IsTornOf digest node b all_kept) (sym e) (untorn digest node _ all_kept (text_cut digest node all_kept d (all_fit whose begun h p i))))
        where
          text_short : length (kept_text digest (record { node = node; calls = all_kept })) ≤ size
          text_short = let a = ap length e in let b = taken_length size (file t) in omega (arith, a, b)

          by_disk : HasKept digest node (on_disk begun h) i.synced → length (on_disk begun h) ≤ size
          by_disk (inl is) =
              let a = ap length is in
              let b = log_length digest (record { node = node; calls = i.synced }) d in
              let c = log_length digest (record { node = node; calls = all_kept }) d in
              let e = longer_text (version_of digest) 1 i.synced i.unsynced in
              omega (arith, a, b, c, e, text_short)
          by_disk (inr none) = let a = ap length none.0 in omega (arith, a)

          short : length (on_disk begun h) ≤ size
          short = by_disk i.disk

          same : take size (on_disk begun h) ≡ on_disk begun h
          same = take_all size (on_disk begun h) short

      -- and one that has none
      of_nothing : kept_in digest (found t) ≡ Err Short → whole ≡ 0 → all_kept ≡ [] → RunsOn whose begun settings (Does (Cut size done) ∷ h) p
      of_nothing short zero_kept none = by_disk i.disk
        where
          cut_none : take size (file t) ≡ []
          cut_none = cut_file ∙ ap (λ n. take n (found t)) zero_kept

          lies : IsTornOf digest node (take size (file t)) all_kept
          lies = subst (λ (b : List ℕ). IsTornOf digest node b all_kept) (sym cut_none) (subst (IsTornOf digest node []) (sym none) (untorn digest node [] [] (nothing_cut digest node fits_node)))

          by_disk : HasKept digest node (on_disk begun h) i.synced → RunsOn whose begun settings (Does (Cut size done) ∷ h) p
          by_disk (inl is) =
              let a = ap length is in
              let b = log_length digest (record { node = node; calls = i.synced }) d in
              let c = short_small digest node (found t) all_kept d lies_found short in
              let e = start_length (on_disk begun h) (found t) under_found in
              absurd (omega (arith, a, b, c, e))
          by_disk (inr nothing) =
              with_file (ap (take size) nothing.0 ∙ (take_none size ∙ sym nothing.0)) (subst (λ (b : List ℕ). IsStartOf b (take size (file t))) (sym nothing.0) (record { rest = take size (file t); is = refl })) lies

      by_begun : IsBegun digest node (found t) o.log whole start.records → IsTornOf digest node (found t) all_kept → RunsOn whose begun settings (Does (Cut size done) ∷ h) p
      by_begun (inl read) c = by_reading (torn_reads digest node (found t) all_kept d c)
        where
          by_reading : ReadsKept digest node (found t) all_kept → RunsOn whose begun settings (Does (Cut size done) ∷ h) p
          by_reading (inl own) =
              let r = same_reading (record { log = o.log; whole = whole }) (record { log = record { node = node; calls = all_kept }; whole = own.0 }) (sym read.0 ∙ own.1) in
              of_calls (cut_file ∙ (sym (append-nil (take whole (found t))) ∙ (ap (λ (x : List ℕ). take whole (found t) ++ x) (sym read.1) ∙ (o.text ∙ (ap (λ (x : List ℕ). kept_text x o.log) second ∙ ap (λ (x : KeptReading). kept_text digest x.log) r)))))
          by_reading (inr short) = absurd (not_short (record { log = o.log; whole = whole }) (sym read.0 ∙ short.0))
      by_begun (inr new) c = by_reading (torn_reads digest node (found t) all_kept d c)
        where
          by_reading : ReadsKept digest node (found t) all_kept → RunsOn whose begun settings (Does (Cut size done) ∷ h) p
          by_reading (inl own) = absurd (not_short (record { log = record { node = node; calls = all_kept }; whole = own.0 }) (sym own.1 ∙ new.0))
          by_reading (inr short) = of_nothing new.0 new.1.1.0 short.1

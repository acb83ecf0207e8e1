-- Records are appended to the file, and synced.
use Rattle.std.proofs.Common.{◌≡◌, ◌⊎◌, inl, inr, ℕ, Bool, true, false, not, ◌&&◌, cond, List, [], ◌∷◌, ◌++◌, length, take, drop, Option, Some, option_map, refl, sym, ap, ◌∙◌, subst, arith, append_assoc, append-nil}
use Rattle.std.specs.List.{AllByRecursion}
use Rattle.std.proofs.lemmas.List.{take_at, take-append-drop}
use Rattle.claim_model.specs.Node.{Node}
use Rattle.claim_model.specs.Nodes.{AnyNode}
use Rattle.claim_model.specs.Logs.{Logged, replay, Makes as MakesLog}
use Rattle.crash_safety.specs.Network.{Process}
use Rattle.crash_safety.specs.Network.{file as model_file}
use Rattle.crash_safety.specs.Steps.{replayed_from, steps_from}
use Rattle.world_setup.specs.declared.settings.WorldSettings.{WorldSettings as Settings}
use Rattle.node_logged.specs.Setting.{context_of}
use Rattle.kept_logs.specs.Stamps.{Stamped, bare_calls}
use Rattle.kept_logs.specs.Logs.{kept_text, kept_in}
use Rattle.kept_logs.specs.Cuts.{calls_within}
use Rattle.kept_logs.specs.Rests.{begins}
use Rattle.kept_logs.proofs.LogsBack.{reads_short}
use Rattle.node_service.proofs.Lines.{bare_append}
use Rattle.node_process.specs.Acts.{Act, Append, Sync, file, has_failed, kept, said, heard}
use Rattle.node_process.specs.Heard.{whole_lines}
use Rattle.node_process.specs.Safe.{IsStartOf, GoesWell, Whose}
use Rattle.node_process.specs.Histories.{Happening, Does, acts_of, file_of, on_disk, digest_of, IsToldBy, IsAskedIn}
use Rattle.node_process.proofs.Bare.{HasKept, ReadsKept}
use Rattle.node_process.proofs.Left.{IsTornOf, untorn, text_cut, begins_with, same_calls, not_short}
use Rattle.node_process.proofs.Spoken.{told_still}
use Rattle.node_process.proofs.Stepping.{makes_of, makes_all, syncs_of, syncs_all}
use Rattle.node_process.proofs.Texts.{IsMadeText}
use Rattle.node_process.proofs.Fronts.{all_of, start_with, same_behind, all_behind}
use Rattle.node_process.proofs.Waking.{Lives, syncs_asked, makes_asked}
use Rattle.node_process.proofs.Between.{IsInner, digest_length, recorded, file_there, all_fit, synced_fit, file_read, RunsOn, still_step}

nothing_read : (digest : List ℕ) (node : Node) (bytes : List ℕ) (calls : List Stamped) → length digest ≡ 33 → bytes ≡ [] → ReadsKept digest node bytes calls → calls ≡ []
nothing_read digest node bytes calls d none (inr short) = short.1
nothing_read digest node bytes calls d none (inl read) =
    absurd (not_short (record { log = record { node = node; calls = calls }; whole = read.0 }) (sym read.1 ∙ (ap (kept_in digest) none ∙ reads_short digest (record { node = node; calls = [] }) 0 d (omega arith))))

module _ (whose : Whose) (begun : List ℕ) (settings : Settings) (h : List Happening) (p : Process) (i : IsInner whose begun h p) where
  abbrev digest : List ℕ
  digest = digest_of whose begun

  d : length digest ≡ 33
  d = digest_length whose.settings whose.rest begun

  abbrev node : Node
  node = whose.node

  -- what the log begins with
  abbrev first_node : Option AnyNode
  first_node = begins settings whose.node whose.rest

  abbrev t : List Act
  t = acts_of h

  -- all records that the file has
  abbrev all_kept : List Stamped
  all_kept = i.synced ++ i.unsynced

  -- calls are recorded
  pub append_step : Lives (context_of settings) first_node p → (bytes : List ℕ) (done : Bool) (own kept_calls : List Stamped) → GoesWell t → kept t ≡ file t → own ≡ i.first → AllByRecursion (λ (r : Stamped). IsAskedIn (whole_lines (heard t)) r.logged.call) kept_calls
      → IsMadeText whose digest settings (file t ++ bytes) (own ++ kept_calls) → RunsOn whose begun settings (Does (Append bytes done) ∷ h) p
  append_step lives bytes done own kept_calls well synced first_own are_asked text = with_new grows
    where
      calls : List Stamped
      calls = own ++ kept_calls

      -- the file is the text of what the process has recorded
      on_file : HasKept digest node (file t) all_kept
      on_file = by_kept i.keeps
        where
          nothing : file t ≡ [] → HasKept digest node (file t) all_kept
          nothing none = inr (none, nothing_read digest node (file t) all_kept d none (file_read whose begun h p i well))

          by_disk : file t ≡ on_disk begun h → HasKept digest node (on_disk begun h) i.synced → HasKept digest node (file t) all_kept
          by_disk same (inl is) =
              let e = same_calls digest node i.synced all_kept (file t) d (synced_fit whose begun h p i) (same ∙ is) (file_read whose begun h p i well) in
              inl (same ∙ (is ∙ ap (λ (cs : List Stamped). kept_text digest (record { node = node; calls = cs })) e))
          by_disk same (inr none) = nothing (same ∙ none.0)

          by_kept : (kept t ≡ []) ⊎ (kept t ≡ on_disk begun h) → HasKept digest node (file t) all_kept
          by_kept (inl none) = nothing (sym synced ∙ none)
          by_kept (inr same) = by_disk (sym synced ∙ same) i.disk

      grows : (new : List Stamped) × (all_kept ++ new ≡ calls)
      grows = by_file on_file
        where
          by_file : HasKept digest node (file t) all_kept → (new : List Stamped) × (all_kept ++ new ≡ calls)
          by_file (inr none) = (calls, ap (λ (x : List Stamped). x ++ calls) none.1)
          by_file (inl is) =
              let own = kept_text digest (record { node = node; calls = all_kept }) in
              let e : own ≡ take (length own) (kept_text digest (record { node = node; calls = calls })) = sym (ap (take (length own)) (sym text.text ∙ ap (λ (x : List ℕ). x ++ bytes) is) ∙ take_at own bytes (length own) refl) in
              let k = calls_within digest (length own) (record { node = node; calls = calls }) in
              let first : all_kept ≡ take k calls = begins_with digest node all_kept calls (length own) d (all_fit whose begun h p i) text.fits refl e in
              (drop k calls, ap (λ (x : List Stamped). x ++ drop k calls) first ∙ take-append-drop k calls)

      -- the calls are of lines that were heard
      new_asked : (new : List Stamped) → all_kept ++ new ≡ calls → AllByRecursion (λ (r : Stamped). IsAskedIn (whole_lines (heard t)) r.logged.call) new
      new_asked new all =
          let same : i.first ++ (i.more ++ new) ≡ i.first ++ kept_calls =
          sym (append_assoc i.first i.more new) ∙ (ap (λ (x : List Stamped). x ++ new) (sym i.goes) ∙ (all ∙ ap (λ (x : List Stamped). x ++ kept_calls) first_own)) in
          let rest = same_behind i.first (i.more ++ new) kept_calls same in
          all_behind (λ (r : Stamped). IsAskedIn (whole_lines (heard t)) r.logged.call) i.more new (subst (AllByRecursion (λ (r : Stamped). IsAskedIn (whole_lines (heard t)) r.logged.call)) (sym rest) are_asked)

      with_new : (new : List Stamped) × (all_kept ++ new ≡ calls) → RunsOn whose begun settings (Does (Append bytes done) ∷ h) p
      with_new (new, all) =
          let ctx = context_of settings in
          let made = bare_calls new in
          let alive : p.memory ≡ Some (replay ctx text.before (model_file p)) = lives ∙ ap (option_map (λ (before : AnyNode). replay ctx before (model_file p))) text.opens in
          let q = steps_from ctx first_node p (makes_of made) in
          let calls_are : bare_calls calls ≡ model_file p ++ made = ap bare_calls (sym all) ∙ (bare_append all_kept new ∙ ap (λ (x : List Logged). x ++ made) (recorded whose begun h p i)) in
          let m = makes_all ctx first_node text.before p (model_file p) made alive (subst (MakesLog ctx text.before) calls_are text.makes) in
          let grown : model_file q ≡ model_file p ++ made = ap (λ (x : List Logged). x ++ q.unsynced) m.synced ∙ (ap (λ (x : List Logged). p.synced ++ x) m.unsynced ∙ sym (append_assoc p.synced p.unsynced made)) in
          let further : i.synced ++ (i.unsynced ++ new) ≡ all_kept ++ new = sym (append_assoc i.synced i.unsynced new) in
          let is : i.synced ++ (i.unsynced ++ new) ≡ calls = further ∙ all in
          record {
            steps = makes_of made;
            inner = record {
              synced = i.synced;
              unsynced = i.unsynced ++ new;
              synced_are = i.synced_are ∙ sym m.synced;
              unsynced_are = bare_append i.unsynced new ∙ (ap (λ (x : List Logged). x ++ made) i.unsynced_are ∙ sym m.unsynced);
              disk = i.disk;
              under = start_with (on_disk begun h) (file t) bytes (subst (IsStartOf (on_disk begun h)) (file_there begun h well) i.under);
              lies = subst (λ (b : List ℕ). IsTornOf digest node b (i.synced ++ (i.unsynced ++ new))) (sym text.text) (subst (IsTornOf digest node (kept_text digest (record { node = node; calls = calls }))) (sym is) (untorn digest node _ calls (text_cut digest node calls d text.fits)));
              first = i.first;
              more = i.more ++ new;
              goes = further ∙ (ap (λ (x : List Stamped). x ++ new) i.goes ∙ append_assoc i.first i.more new);
              was = i.was;
              keeps = i.keeps;
              told = subst (λ (x : List Logged). IsToldBy node x (said t)) (sym m.synced) i.told;
              second = i.second;
              stands = i.stands;
            };
            lives = m.memory ∙ ap (λ (x : List Logged). Some (replay ctx text.before x)) (sym grown) ∙ sym (ap (option_map (λ (before : AnyNode). replay ctx before (model_file q))) text.opens);
            asked = makes_asked (whole_lines (heard t)) new (new_asked new all);
          }

  -- what is recorded is synced
  pub sync_step : Lives (context_of settings) first_node p → (done : Bool) (calls : List Stamped) → GoesWell t → IsMadeText whose digest settings (file t) calls → RunsOn whose begun settings (Does (Sync done) ∷ h) p
  sync_step lives false calls well text = still_step whose begun settings h p i lives (Sync false) well refl refl refl i.told
  sync_step lives true calls well text =
      let ctx = context_of settings in
      let q : Process = record { memory = p.memory; synced = model_file p; unsynced = [] } in
      let own : calls ≡ all_kept = same_calls digest node calls all_kept (file t) d text.fits text.text (file_read whose begun h p i well) in
      let disk : cond (true && not (has_failed t)) (file t) (on_disk begun h) ≡ file t = ap (λ b. cond (true && not b) (file t) (on_disk begun h)) well.1 in
      let keeps : cond (true && not (has_failed t)) (file t) (kept t) ≡ file t = ap (λ b. cond (true && not b) (file t) (kept t)) well.1 in
      let all : model_file q ≡ model_file p = append-nil (model_file p) in
      let after : IsInner whose begun (Does (Sync true) ∷ h) q = record {
        synced = all_kept;
        unsynced = [];
        synced_are = recorded whose begun h p i;
        unsynced_are = refl;
        disk = inl (disk ∙ (text.text ∙ ap (λ (cs : List Stamped). kept_text digest (record { node = node; calls = cs })) own));
        under = subst (λ (b : List ℕ). IsStartOf b (file t)) (sym disk) (all_of (file t));
        lies = subst (λ (b : List ℕ). IsTornOf digest node b (all_kept ++ [])) (file_there begun h well) (subst (IsTornOf digest node (file_of begun h)) (sym (append-nil all_kept)) i.lies);
        first = i.first;
        more = i.more;
        goes = append-nil all_kept ∙ i.goes;
        was = i.was;
        keeps = inr (keeps ∙ sym disk);
        told = told_still node p.synced p.unsynced (said t) i.told;
        second = i.second;
        stands = inr (disk ∙ (text.text ∙ ap (λ (cs : List Stamped). kept_text digest (record { node = node; calls = cs })) own));
      } in
      let leads = syncs_all ctx first_node p.memory p.synced p.unsynced in
      record {
        steps = syncs_of p.unsynced;
        inner = subst (IsInner whose begun (Does (Sync true) ∷ h)) (sym leads) after;
        lives = subst (Lives ctx first_node) (sym leads) (lives ∙ ap (replayed_from ctx first_node) (sym all));
        asked = syncs_asked (whole_lines (heard t)) p.unsynced;
      }

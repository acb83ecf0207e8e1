-- What a process has in memory.
use Rattle.std.proofs.Common.{◌≡◌, ◌⊎◌, inl, inr, ℕ, List, [], ◌∷◌, ◌++◌, length, take, drop, Option, Some, Ok, Err, refl, sym, ap, ◌∙◌, subst, append-nil}
use Rattle.std.proofs.lemmas.Bool.{cases_lt}
use Rattle.std.proofs.lemmas.List.{take_at, take-append-drop}
use Rattle.claim_model.specs.Context.{Context}
use Rattle.claim_model.specs.Node.{Node}
use Rattle.claim_model.specs.Nodes.{AnyNode}
use Rattle.claim_model.specs.Logs.{Logged}
use Rattle.claim_model.proofs.Options.{same_some}
use Rattle.crash_safety.specs.Network.{Process}
use Rattle.crash_safety.specs.Network.{file as model_file}
use Rattle.crash_safety.specs.Steps.{replayed_from}
use Rattle.world_setup.specs.declared.settings.WorldSettings.{WorldSettings as Settings}
use Rattle.world_settings.specs.Document.{document_seen}
use Rattle.node_logged.specs.Setting.{context_of}
use Rattle.kept_logs.specs.declared.fault.LogFault.TheVariants.{Short}
use Rattle.kept_logs.specs.Stamps.{Stamped, KeptLog, bare_calls}
use Rattle.kept_logs.specs.Logs.{KeptReading, kept_text, kept_in}
use Rattle.kept_logs.specs.Fits.{FitsKept}
use Rattle.kept_logs.specs.Cuts.{calls_within}
use Rattle.kept_logs.specs.Rests.{begins}
use Rattle.kept_logs.proofs.LogsBack.{reads_back, reads_short}
use Rattle.node_service.specs.Serving.{Serving}
use Rattle.node_service.specs.Opened.{Spells}
use Rattle.settings_digest.specs.Digests.{turned_under}
use Rattle.node_service.proofs.Lines.{bare_append}
use Rattle.node_process.specs.Acts.{Act, Found, Unread, Cut, Append, Sync, Say, Hear, Unheard, found, file}
use Rattle.node_process.specs.Safe.{IsUnopened, IsRun, Whose}
use Rattle.node_process.specs.Ends.{Remembers}
use Rattle.node_process.specs.Histories.{Happening, Does, Dies, acts_of, left_of, file_or, file_of, digest_of, BeginsWith, IsHistory, IsAlive, IsMemory, Memories}
use Rattle.crash_safety.proofs.Closing.{replays_on}
use Rattle.node_process.proofs.Bare.{ReadsKept}
use Rattle.node_process.proofs.Left.{torn_reads, same_calls, same_reading, not_short}
use Rattle.node_process.proofs.Texts.{same_begin, same_context}
use Rattle.node_process.proofs.Fronts.{same_behind}
use Rattle.node_process.proofs.Waking.{Lives}
use Rattle.node_process.proofs.Between.{IsInner, digest_length, recorded}

-- a log that reads as the beginning of a text has the first of its records
front_of : (digest : List ℕ) (node : Node) (bytes pending : List ℕ) (calls all : List Stamped) → length digest ≡ 33 → FitsKept (record { node = node; calls = calls }) → ReadsKept digest node bytes all
    → bytes ++ pending ≡ kept_text digest (record { node = node; calls = calls }) → (rest : List Stamped) × (calls ≡ all ++ rest)
front_of digest node bytes pending calls all d fits reads is =
    elim (cases_lt n 46) [
      | inl small ↦ by_small (ap (kept_in digest) first ∙ reads_short digest log n d small) reads
      | inr large ↦ by_large (reads_back digest log n d fits large).read reads
    ]
  where
    log : KeptLog
    log = record { node = node; calls = calls }

    n : ℕ
    n = length bytes

    first : bytes ≡ take n (kept_text digest log)
    first = sym (ap (take n) (sym is) ∙ take_at bytes pending n refl)

    by_small : kept_in digest bytes ≡ Err Short → ReadsKept digest node bytes all → (rest : List Stamped) × (calls ≡ all ++ rest)
    by_small short (inl own) = absurd (not_short (record { log = record { node = node; calls = all }; whole = own.0 }) (sym own.1 ∙ short))
    by_small short (inr none) = (calls, ap (λ (x : List Stamped). x ++ calls) (sym none.1))

    by_large : kept_in digest (take n (kept_text digest log)) ≡ Ok (record { log = record { node = node; calls = take (calls_within digest n log) calls }; whole = length (kept_text digest (record { node = node; calls = take (calls_within digest n log) calls })) })
        → ReadsKept digest node bytes all → (rest : List Stamped) × (calls ≡ all ++ rest)
    by_large read (inl own) =
        let k = calls_within digest n log in
        let r = same_reading (record { log = record { node = node; calls = take k calls }; whole = length (kept_text digest (record { node = node; calls = take k calls })) }) (record { log = record { node = node; calls = all }; whole = own.0 })
        (sym read ∙ (sym (ap (kept_in digest) first) ∙ own.1)) in
        let are : take k calls ≡ all = ap (λ (x : KeptReading). x.log.calls) r in
        (drop k calls, sym (take-append-drop k calls) ∙ ap (λ (x : List Stamped). x ++ drop k calls) are)
    by_large read (inr none) =
        let k = calls_within digest n log in
        absurd (not_short (record { log = record { node = node; calls = take k calls }; whole = length (kept_text digest (record { node = node; calls = take k calls })) }) (sym read ∙ (sym (ap (kept_in digest) first) ∙ none.0)))

module _ (whose : Whose) (begun : List ℕ) (settings : Settings) (spells : Spells whose.settings settings) (h : List Happening) (p : Process) (i : IsInner whose begun h p) where
  remembered : found (acts_of h) ≡ left_of begun h → file_of begun h ≡ file (acts_of h) → Lives (context_of settings) (begins settings whose.node whose.rest) p → (s : Serving) → Remembers whose (acts_of h) s → IsMemory (context_of settings) p s
  remembered is there lives s r =
      let ctx = context_of settings in
      let at_begin = begins settings whose.node whose.rest in
      let digest = digest_of whose begun in
      let d = digest_length whose.settings whose.rest begun in
      let all = i.synced ++ i.unsynced in
      let second : turned_under whose.settings whose.rest (found (acts_of h)) ≡ digest = ap (turned_under whose.settings whose.rest) is ∙ i.second in
      let text : file (acts_of h) ++ r.pending ≡ kept_text digest (record { node = whose.node; calls = r.calls }) = r.text ∙ ap (λ (x : List ℕ). kept_text x (record { node = whose.node; calls = r.calls })) second in
      let reads : ReadsKept digest whose.node (file (acts_of h)) all = subst (λ (b : List ℕ). ReadsKept digest whose.node b all) there (torn_reads digest whose.node (file_of begun h) all d i.lies) in
      let front = front_of digest whose.node (file (acts_of h)) r.pending r.calls all d r.fits reads text in
      let same : document_seen s.settings ≡ document_seen settings = same_some (document_seen s.settings) (document_seen settings) (sym r.spells.spelled ∙ spells.spelled) in
      let own : replayed_from ctx at_begin (bare_calls r.calls) ≡ Some s.state =
      sym (ap (λ (x : Context). replayed_from x at_begin (bare_calls r.calls)) (same_context s.settings settings same))
      ∙ (sym (ap (λ (x : Option AnyNode). replayed_from (context_of s.settings) x (bare_calls r.calls)) (same_begin s.settings settings whose.node whose.rest same)) ∙ r.state) in
      let parts : bare_calls r.calls ≡ model_file p ++ bare_calls front.0 =
      ap bare_calls front.1 ∙ (bare_append all front.0 ∙ ap (λ (x : List Logged). x ++ bare_calls front.0) (recorded whose begun h p i)) in
      record {
        pending = bare_calls front.0;
        state =
            ap (λ (x : Option AnyNode). replayed_from ctx x (bare_calls front.0)) lives
            ∙ (sym (replays_on ctx at_begin (model_file p) (bare_calls front.0)) ∙ (ap (replayed_from ctx at_begin) (sym parts) ∙ own));
        none = λ none.
            let nothing : r.pending ≡ [] = elim r.due [ inl e ↦ e | inr e ↦ e ∙ none ] in
            let whole : file (acts_of h) ≡ kept_text digest (record { node = whose.node; calls = r.calls }) = sym (append-nil (file (acts_of h))) ∙ (ap (λ (x : List ℕ). file (acts_of h) ++ x) (sym nothing) ∙ text) in
            let are = same_calls digest whose.node r.calls all (file (acts_of h)) d r.fits whole reads in
            ap bare_calls (same_behind all front.0 [] (sym front.1 ∙ (are ∙ sym (append-nil all))));
      }

-- a process that has opened its log finds what was left, and its file is what it made of that
opened_there : (whose : Whose) (begun : List ℕ) (act one : Act) (t : List Act) → BeginsWith begun (act ∷ one ∷ t) → IsUnopened (act ∷ one ∷ t) ⊎ IsRun whose (act ∷ one ∷ t) → (found (act ∷ one ∷ t) ≡ begun) × (file_or begun (act ∷ one ∷ t) ≡ file (act ∷ one ∷ t))
opened_there whose begun act one t (inl none) runs = absurd (let wrong : act ∷ one ∷ t ≡ [] = none in cc)
opened_there whose begun act one t (inr (inl only)) runs = absurd (let wrong : act ∷ one ∷ t ≡ Unread ∷ [] = only in cc)
opened_there whose begun act one t (inr (inr is)) (inl (inl none)) = absurd (let wrong : act ∷ one ∷ t ≡ [] = none in cc)
opened_there whose begun act one t (inr (inr is)) (inl (inr (inl only))) = absurd (let wrong : act ∷ one ∷ t ≡ Unread ∷ [] = only in cc)
opened_there whose begun act one t (inr (inr is)) (inl (inr (inr (bytes, only)))) = absurd (let wrong : act ∷ one ∷ t ≡ Found bytes ∷ [] = only in cc)
opened_there whose begun (Found bytes) one t (inr (inr is)) (inr r) = (is, refl)
opened_there whose begun Unread one t (inr (inr is)) (inr r) = absurd (r.safe [] (Unread ∷ one ∷ t) refl).order
opened_there whose begun (Cut size done) one t (inr (inr is)) (inr r) = (is, refl)
opened_there whose begun (Append bytes done) one t (inr (inr is)) (inr r) = (is, refl)
opened_there whose begun (Sync done) one t (inr (inr is)) (inr r) = (is, refl)
opened_there whose begun (Say bytes done) one t (inr (inr is)) (inr r) = (is, refl)
opened_there whose begun (Hear bytes) one t (inr (inr is)) (inr r) = (is, refl)
opened_there whose begun Unheard one t (inr (inr is)) (inr r) = (is, refl)

pub memories : (whose : Whose) (begun : List ℕ) (settings : Settings) (h : List Happening) (p : Process) → Spells whose.settings settings → IsHistory whose begun h → IsInner whose begun h p → IsAlive (context_of settings) (begins settings whose.node whose.rest) (acts_of h) p → Memories (context_of settings) whose (acts_of h) p
memories whose begun settings [] p spells is i alive = tt
memories whose begun settings (Dies left ∷ before) p spells is i alive = tt
memories whose begun settings (Does act ∷ before) p spells is i alive = by_rest (acts_of before) refl
  where
    h : List Happening
    h = Does act ∷ before

    by_rest : (t : List Act) → acts_of before ≡ t → Memories (context_of settings) whose (act ∷ t) p
    by_rest [] e = tt
    by_rest (one ∷ t) e =
        let ctx = context_of settings in
        let at_begin = begins settings whose.node whose.rest in
        let begins_with = subst (λ (x : List Act). BeginsWith (left_of begun before) (act ∷ x)) e is.1.0 in
        let runs = subst (λ (x : List Act). IsUnopened (act ∷ x) ⊎ IsRun whose (act ∷ x)) e is.1.1 in
        let there = opened_there whose (left_of begun before) act one t begins_with runs in
        let lives : Lives ctx at_begin p = subst (λ (x : List Act). IsAlive ctx at_begin (act ∷ x) p) e alive in
        subst (λ (x : List Act). (s : Serving) → Remembers whose (act ∷ x) s → IsMemory ctx p s) e
        (remembered whose begun settings spells (Does act ∷ before) p i (ap (λ (x : List Act). found (act ∷ x)) e ∙ there.0) (ap (λ (x : List Act). file_or (left_of begun before) (act ∷ x)) e ∙ (there.1 ∙ sym (ap (λ (x : List Act). file (act ∷ x)) e))) lives)

-- A pharmacy's step keeps a world sound.
use Rattle.std.proofs.Common.{◌≡◌, ℕ, ◌+◌, ◌≤◌, Bool, true, false, cond, List, [], ◌∷◌, ◌++◌, map, length, Option, Some, None, Result, Ok, Err, refl, sym, ap, ◌∙◌, subst, inl, inr, arith, length-append}
use Rattle.std.specs.Prelude.{option_map, option_and_then}
use Rattle.std.proofs.lemmas.Bool.{cases_eq}
use Rattle.claim_model.specs.Words.{TxnId, Kind, Request, Response}
use Rattle.claim_model.specs.Context.{Context}
use Rattle.claim_model.specs.Laws.{Laws}
use Rattle.claim_model.specs.Readable.{request_envelope}
use Rattle.claim_model.specs.Refusal.{Refusal, BadRule}
use Rattle.claim_model.specs.Numbered.{numbered, renumbered}
use Rattle.claim_model.specs.Journal.{RetryRule, Journal, JournalAtRest, Kept, Sending, Submitted, submitted, ticked, due, heard, stopped, started, kept_entry, is_rule, with_rule, ruled_anew}
use Rattle.claim_model.specs.Node.{Node, Power, Up, AtRest, Sent, Call, Submit, Tick, Take, Stop, Start, Revise, OfPlan, OfRule, OfCap, Adjudicate, Done, Refused, to_switch, after_submit, after_hearing, pharmacy_takes, pharmacy_step}
use Rattle.claim_model.specs.World.{World, packet_from}
use Rattle.claim_model.specs.Limits.{most_entries}
use Rattle.claim_model.specs.Settings.{WorldSettings, Accepts}
use Rattle.claim_model.specs.Held.{journal_in, journal_at, decided}
use Rattle.claim_model.specs.Carried.{Says, Carries, IsVouched}
use Rattle.claim_model.proofs.Lists.{numbered_put, numbered_put_other, numbered_append, numbered_last, numbered_more, numbered_within, numbered_map, all_map}
use Rattle.claim_model.proofs.Options.{same_some}
use Rattle.claim_model.proofs.Tests.{readable_parts}
use Rattle.claim_model.proofs.Journals.{entry_added, entry_settled, Enters, Asks, submitted_enters, ticked_same, started_same, ruled_same, heard_settles, due_asks}
use Rattle.claim_model.proofs.Given.{pharmacy_given}
use Rattle.claim_model.proofs.Sound.{id_at, SoundEntry, SoundJournal, SoundPacket, Sound, Later, RequestsStay, with_pharmacy, pharmacy_later, entry_later, journal_later, sound_pharmacy}

-- bytes that carry an envelope read as this envelope
pub carries_reads : (ctx : Context) (w : World) (bytes : List ℕ) → Laws ctx → (c : Carries ctx w bytes) → ctx.read_envelope bytes ≡ Ok c.envelope
carries_reads ctx w bytes laws c = ap ctx.read_envelope c.spells ∙ laws.envelopes c.envelope c.fits

-- an entry's request may be sent
pub carries_request : (ctx : Context) (given : WorldSettings) (w : World) (n : ℕ) (j : JournalAtRest) (k : ℕ) (e : Kept)
    → Accepts ctx given → journal_at w n ≡ Some j → SoundJournal ctx given w n j → numbered j.entries k ≡ Some e → Carries ctx w (ctx.envelope (request_envelope (id_at n k) e.request))
carries_request ctx given w n j k e accepts here x stands =
    let g = pharmacy_given ctx given n j.settings accepts x.settings in
    let b = numbered_within j.entries k e stands in
    let cap : j.settings.cap ≤ most_entries = g.2.cap in
    let room : length j.entries ≤ j.settings.cap = x.room in
    let y = x.entries k e stands in
    record {
      envelope = request_envelope (id_at n k) e.request;
      fits = record { pharmacy = g.0; pharmacy_fits = omega (arith, g.1); number = b.0; number_fits = omega (arith, b.1); payload = (readable_parts ctx e.request y.header y.reads).0 };
      spells = refl;
      says =
          ap (λ (o : Option JournalAtRest). option_map (λ (q : Kept). q.request) (option_and_then (λ (q : JournalAtRest). numbered q.entries k) o)) here
          ∙ ap (λ (o : Option Kept). option_map (λ (q : Kept). q.request) o) stands;
    }

-- the journal after the step is the pharmacy's
pub journal_there : (w : World) (n : ℕ) (s next : Power Journal JournalAtRest) (sent : List Sent) → numbered w.pharmacies n ≡ Some s → journal_at (with_pharmacy w n next sent) n ≡ Some (journal_in next)
journal_there w n s next sent is = ap (option_map journal_in) (numbered_put w.pharmacies n s next is)

-- what holds of a step: the world stays sound, and what was decided stays
pub record Kept_sound (ctx : Context) (given : WorldSettings) (w v : World) : Type 0 where
  pub sound : Sound ctx given v
  pub later : Later ctx w v

-- a step that keeps all entries
same_stays : (j after : JournalAtRest) → after ≡ j → RequestsStay j after
same_stays j after e k f h = (f, subst (λ (x : JournalAtRest). numbered x.entries k ≡ Some f) (sym e) h, refl)

same_journal : (ctx : Context) (given : WorldSettings) (w v : World) (n : ℕ) (j after : JournalAtRest) → after ≡ j → Later ctx w v → SoundJournal ctx given w n j → SoundJournal ctx given v n after
same_journal ctx given w v n j after e l x = subst (SoundJournal ctx given v n) (sym e) (journal_later ctx given w v l n j x)

pub quiet_step : (ctx : Context) (given : WorldSettings) (w : World) (n : ℕ) (s next : Power Journal JournalAtRest) → Sound ctx given w → numbered w.pharmacies n ≡ Some s
    → journal_in next ≡ journal_in s → Kept_sound ctx given w (with_pharmacy w n next [])
quiet_step ctx given w n s next x is e =
    let l : Later ctx w (with_pharmacy w n next []) = pharmacy_later ctx w n s next [] is (same_stays (journal_in s) (journal_in next) e) in
    record {
      sound = sound_pharmacy ctx given w n s next [] x is l (same_journal ctx given w (with_pharmacy w n next []) n (journal_in s) (journal_in next) e l (x.pharmacies n s is)) tt;
      later = l;
    }

-- a step that changes the rule alone
ruled_sound : (ctx : Context) (given : WorldSettings) (w v : World) (n : ℕ) (j : JournalAtRest) (rule : RetryRule) → Later ctx w v → SoundJournal ctx given w n j → SoundJournal ctx given v n (with_rule rule j)
ruled_sound ctx given w v n j rule l x =
    record { number = x.number; settings = x.settings; room = x.room; entries = λ k e h. entry_later ctx w v l j.settings (id_at n k) e (x.entries k e h) }

rule_step : (ctx : Context) (given : WorldSettings) (w : World) (n : ℕ) (j : Journal) (rule : RetryRule) → Sound ctx given w → numbered w.pharmacies n ≡ Some (Up j)
    → Kept_sound ctx given w (with_pharmacy w n (Up (ruled_anew rule j)) [])
rule_step ctx given w n j rule x is =
    let v : World = with_pharmacy w n (Up (ruled_anew rule j)) [] in
    let stays : RequestsStay (stopped j) (stopped (ruled_anew rule j)) = subst (RequestsStay (stopped j)) (sym (ruled_same rule j)) (λ k f h. (f, h, refl)) in
    let l : Later ctx w v = pharmacy_later ctx w n (Up j) (Up (ruled_anew rule j)) [] is stays in
    record {
      sound =
          sound_pharmacy ctx given w n (Up j) (Up (ruled_anew rule j)) [] x is l
          (subst (SoundJournal ctx given v n) (sym (ruled_same rule j)) (ruled_sound ctx given w v n (stopped j) rule l (x.pharmacies n (Up j) is))) tt;
      later = l;
    }

-- submissions

added_stays : (j : JournalAtRest) (text : List ℕ) → RequestsStay j (entry_added j text)
added_stays j text k e h = (e, numbered_append j.entries _ k e h, refl)

added_sound : (ctx : Context) (given : WorldSettings) (w v : World) (n : ℕ) (j : JournalAtRest) (text : List ℕ) → Later ctx w v → SoundJournal ctx given w n j → Enters ctx j text
    → SoundJournal ctx given v n (entry_added j text)
added_sound ctx given w v n j text l x enters =
    record {
      number = x.number;
      settings = x.settings;
      room = omega (arith, length-append j.entries (record { request = text; answer = None } ∷ []), enters.room);
      entries = λ k e h. elim (numbered_more j.entries (record { request = text; answer = None }) k e h) [
        | inl old ↦ entry_later ctx w v l j.settings (id_at n k) e (x.entries k e old)
        | inr new ↦ subst (SoundEntry ctx v j.settings (id_at n k)) (sym new.1) (record { header = enters.header; reads = enters.reads; own = enters.own; answer = λ a f. absurd cc })
      ];
    }

submit_step : (ctx : Context) (given : WorldSettings) (w : World) (n : ℕ) (j : Journal) (text : List ℕ) (s : Submitted)
    → Accepts ctx given → Sound ctx given w → numbered w.pharmacies n ≡ Some (Up j) → submitted ctx j text ≡ Ok s
    → Kept_sound ctx given w (with_pharmacy w n (Up s.journal) (to_switch s.sent ∷ []))
unfolding stopped
submit_step ctx given w n j text s accepts x is e =
    let f = submitted_enters ctx j text s e in
    let sent : List Sent = to_switch s.sent ∷ [] in
    let v : World = with_pharmacy w n (Up s.journal) sent in
    let stays : RequestsStay (stopped j) (stopped s.journal) = subst (RequestsStay (stopped j)) (sym f.1) (added_stays (stopped j) text) in
    let l : Later ctx w v = pharmacy_later ctx w n (Up j) (Up s.journal) sent is stays in
    let sj : SoundJournal ctx given w n (stopped j) = x.pharmacies n (Up j) is in
    let after : SoundJournal ctx given v n (entry_added (stopped j) text) = added_sound ctx given w v n (stopped j) text l sj f.0 in
    let there : journal_at v n ≡ Some (entry_added (stopped j) text) = journal_there w n (Up j) (Up s.journal) sent is ∙ ap (λ (q : JournalAtRest). Some q) f.1 in
    let len : length (map kept_entry j.entries) + 1 ≡ length j.entries + 1 = ap (λ (k : ℕ). k + 1) (Rattle.std.proofs.lemmas.List.length-map j.entries kept_entry) in
    let at : numbered (map kept_entry j.entries ++ record { request = text; answer = None } ∷ []) (length j.entries + 1) ≡ Some (record { request = text; answer = None }) =
    subst (λ (k : ℕ). numbered (map kept_entry j.entries ++ record { request = text; answer = None } ∷ []) k ≡ Some (record { request = text; answer = None })) len (numbered_last (map kept_entry j.entries) (record { request = text; answer = None })) in
    let c : Carries ctx v (ctx.envelope (request_envelope (id_at n (length j.entries + 1)) text)) =
    carries_request ctx given v n (entry_added (stopped j) text) (length j.entries + 1) (record { request = text; answer = None }) accepts there after at in
    let bytes : s.sent.bytes ≡ ctx.envelope (request_envelope (id_at n (length j.entries + 1)) text) =
    ap (λ (q : Sending). q.bytes) f.2 ∙ ap (λ (m : ℕ). ctx.envelope (request_envelope (id_at m (length j.entries + 1)) text)) sj.number in
    record {
      sound = sound_pharmacy ctx given w n (Up j) (Up s.journal) sent x is l (subst (SoundJournal ctx given v n) (sym f.1) after) (subst (Carries ctx v) (sym bytes) c, tt);
      later = l;
    }

-- ticks

asks_carries : (ctx : Context) (given : WorldSettings) (v : World) (n : ℕ) (j : Journal) → Accepts ctx given → journal_at v n ≡ Some (stopped j) → SoundJournal ctx given v n (stopped j)
    → (s : Sending) → Asks ctx j s → Carries ctx v s.bytes
unfolding stopped
asks_carries ctx given v n j accepts there after s a =
    let stands : numbered (map kept_entry j.entries) a.number ≡ Some (kept_entry a.entry) = numbered_map kept_entry j.entries a.number ∙ ap (option_map kept_entry) a.stands in
    let c : Carries ctx v (ctx.envelope (request_envelope (id_at n a.number) a.entry.request)) = carries_request ctx given v n (stopped j) a.number (kept_entry a.entry) accepts there after stands in
    let bytes : s.bytes ≡ ctx.envelope (request_envelope (id_at n a.number) a.entry.request) =
    a.bytes ∙ ap (λ (m : ℕ). ctx.envelope (request_envelope (id_at m a.number) a.entry.request)) after.number in
    subst (Carries ctx v) (sym bytes) c

tick_step : (ctx : Context) (given : WorldSettings) (w : World) (n : ℕ) (j : Journal)
    → Accepts ctx given → Sound ctx given w → numbered w.pharmacies n ≡ Some (Up j)
    → Kept_sound ctx given w (with_pharmacy w n (Up (ticked j)) (map to_switch (due ctx (ticked j))))
tick_step ctx given w n j accepts x is =
    let sent : List Sent = map to_switch (due ctx (ticked j)) in
    let v : World = with_pharmacy w n (Up (ticked j)) sent in
    let l : Later ctx w v = pharmacy_later ctx w n (Up j) (Up (ticked j)) sent is (same_stays (stopped j) (stopped (ticked j)) (ticked_same j)) in
    let after : SoundJournal ctx given v n (stopped (ticked j)) = same_journal ctx given w v n (stopped j) (stopped (ticked j)) (ticked_same j) l (x.pharmacies n (Up j) is) in
    let there : journal_at v n ≡ Some (stopped (ticked j)) = journal_there w n (Up j) (Up (ticked j)) sent is in
    record {
      sound =
          sound_pharmacy ctx given w n (Up j) (Up (ticked j)) sent x is l after
          (all_map (λ (t : Sent). Carries ctx v t.bytes) (SoundPacket ctx v) (packet_from (Node.Pharmacy n)) (λ t c. c) sent
          (all_map (Asks ctx (ticked j)) (λ (t : Sent). Carries ctx v t.bytes) to_switch (asks_carries ctx given v n (ticked j) accepts there after) (due ctx (ticked j)) (due_asks ctx (ticked j))));
      later = l;
    }

-- answers

settled_stays : (j : JournalAtRest) (number : ℕ) (e : Kept) (answer : List ℕ) → numbered j.entries number ≡ Some e → RequestsStay j (entry_settled j number e answer)
settled_stays j number e answer stands k f h =
    elim (cases_eq number k) [
      | inl same ↦
          let there : numbered (renumbered j.entries number (record { request = e.request; answer = Some answer })) k ≡ Some (record { request = e.request; answer = Some answer }) =
          subst (λ (m : ℕ). numbered (renumbered j.entries number (record { request = e.request; answer = Some answer })) m ≡ Some (record { request = e.request; answer = Some answer })) same (numbered_put j.entries number e _ stands) in
          let old : e ≡ f = same_some e f (sym stands ∙ (ap (numbered j.entries) same ∙ h)) in
          (record { request = e.request; answer = Some answer }, there, ap (λ (q : Kept). q.request) old)
      | inr other ↦ (f, numbered_put_other j.entries number k _ other ∙ h, refl)
    ]

settled_sound : (ctx : Context) (given : WorldSettings) (w v : World) (n : ℕ) (j : JournalAtRest) (number : ℕ) (e : Kept) (answer : List ℕ)
    → Later ctx w v → SoundJournal ctx given w n j → numbered j.entries number ≡ Some e → decided ctx w (id_at n number) ≡ Some answer → SoundJournal ctx given v n (entry_settled j number e answer)
settled_sound ctx given w v n j number e answer l x stands d =
    record {
      number = x.number;
      settings = x.settings;
      room = omega (arith, length_renumbered j.entries number (record { request = e.request; answer = Some answer }), x.room);
      entries = λ k f h. elim (cases_eq number k) [
        | inl same ↦
            let there : numbered (renumbered j.entries number (record { request = e.request; answer = Some answer })) k ≡ Some (record { request = e.request; answer = Some answer }) =
            subst (λ (m : ℕ). numbered (renumbered j.entries number (record { request = e.request; answer = Some answer })) m ≡ Some (record { request = e.request; answer = Some answer })) same (numbered_put j.entries number e _ stands) in
            let is_new : record { request = e.request; answer = Some answer } ≡ f = same_some _ f (sym there ∙ h) in
            let y = x.entries number e stands in
            subst (SoundEntry ctx v j.settings (id_at n k)) is_new
            (subst (λ (m : ℕ). SoundEntry ctx v j.settings (id_at n m) (record { request = e.request; answer = Some answer })) same
            (record { header = y.header; reads = y.reads; own = y.own; answer = λ a eq. l.decides (id_at n number) a (d ∙ eq) }))
        | inr other ↦ entry_later ctx w v l j.settings (id_at n k) f (x.entries k f (sym (numbered_put_other j.entries number k _ other) ∙ h))
      ];
    }
  where
    length_renumbered : {A : Type 0} (xs : List A) (n : ℕ) (a : A) → length (renumbered xs n a) ≡ length xs
    length_renumbered xs ℕ.zero a = refl
    length_renumbered xs (ℕ.suc k) a = Rattle.std.proofs.lemmas.List.length-set xs k a

pub says_response : (ctx : Context) (w : World) (id : TxnId) (payload : List ℕ) (k : Kind) → elim k [ Request ↦ true | Response ↦ false ] ≡ false → Says ctx w id payload k → decided ctx w id ≡ Some payload
says_response ctx w id payload Request e s = absurd cc
says_response ctx w id payload Response e s = s

hear_step : (ctx : Context) (given : WorldSettings) (w : World) (n : ℕ) (j after : Journal) (bytes : List ℕ) → (c : Carries ctx w bytes)
    → Sound ctx given w → numbered w.pharmacies n ≡ Some (Up j) → heard ctx j c.envelope ≡ Ok after → Kept_sound ctx given w (with_pharmacy w n (Up after) [])
unfolding stopped
hear_step ctx given w n j after bytes c x is e =
    let f = heard_settles ctx j c.envelope after e in
    let v : World = with_pharmacy w n (Up after) [] in
    let number : ℕ = c.envelope.id.number in
    let answer : List ℕ = c.envelope.payload in
    let sj : SoundJournal ctx given w n (stopped j) = x.pharmacies n (Up j) is in
    let stays : RequestsStay (stopped j) (stopped after) = subst (RequestsStay (stopped j)) (sym f.0.is) (settled_stays (stopped j) number f.0.entry answer f.0.stands) in
    let l : Later ctx w v = pharmacy_later ctx w n (Up j) (Up after) [] is stays in
    let ours : c.envelope.id.pharmacy ≡ n = f.2 ∙ sj.number in
    let d : decided ctx w c.envelope.id ≡ Some answer = says_response ctx w c.envelope.id answer c.envelope.kind f.1 c.says in
    let d' : decided ctx w (id_at n number) ≡ Some answer = subst (λ (m : ℕ). decided ctx w (id_at m number) ≡ Some answer) ours d in
    record {
      sound = sound_pharmacy ctx given w n (Up j) (Up after) [] x is l (subst (SoundJournal ctx given v n) (sym f.0.is) (settled_sound ctx given w v n (stopped j) number f.0.entry answer l sj f.0.stands d')) tt;
      later = l;
    }

-- all calls

pub after_submit_done : (r : Result Submitted Refusal) (next : Power Journal JournalAtRest) (sent : List Sent) → after_submit r ≡ Done next sent
    → (s : Submitted) × (r ≡ Ok s) × (next ≡ Up s.journal) × (sent ≡ to_switch s.sent ∷ [])
after_submit_done (Err f) next sent e = absurd cc
after_submit_done (Ok s) next sent e = (s, refl, cc, cc)

pub after_hearing_done : (r : Result Journal Refusal) (next : Power Journal JournalAtRest) (sent : List Sent) → after_hearing r ≡ Done next sent
    → (j : Journal) × (r ≡ Ok j) × (next ≡ Up j) × (sent ≡ [])
after_hearing_done (Err f) next sent e = absurd cc
after_hearing_done (Ok j) next sent e = (j, refl, cc, cc)

-- a step at its result
pub moved : (ctx : Context) (given : WorldSettings) (w : World) (n : ℕ) (a next : Power Journal JournalAtRest) (b sent : List Sent) → a ≡ next → b ≡ sent
    → Kept_sound ctx given w (with_pharmacy w n a b) → Kept_sound ctx given w (with_pharmacy w n next sent)
moved ctx given w n a next b sent e f k = subst (λ y. Kept_sound ctx given w (with_pharmacy w n next y)) f (subst (λ y. Kept_sound ctx given w (with_pharmacy w n y b)) e k)

pub done_same : {A : Type 0} (a b : A) (s t : List Sent) → Done a s ≡ Done b t → (a ≡ b) × (s ≡ t)
done_same a b s t e = (cc, cc)

-- a rule that a pharmacy takes
pub rule_taken : {A : Type 0} (b : Bool) (a next : A) (s sent : List Sent) → cond b (Done a s) (Refused BadRule) ≡ Done next sent → (b ≡ true) × (a ≡ next) × (s ≡ sent)
rule_taken true a next s sent e = let d = done_same a next s sent e in (refl, d.0, d.1)
rule_taken false a next s sent e = absurd cc

pub pharmacy_sound : (ctx : Context) (given : WorldSettings) (w : World) (n : ℕ) (s next : Power Journal JournalAtRest) (call : Call) (sent : List Sent)
    → Laws ctx → Accepts ctx given → Sound ctx given w → numbered w.pharmacies n ≡ Some s → IsVouched ctx w call → pharmacy_step ctx s call ≡ Done next sent
    → Kept_sound ctx given w (with_pharmacy w n next sent)
pharmacy_sound ctx given w n (Up j) next (Submit text) sent laws accepts x is c e =
    let d = after_submit_done (submitted ctx j text) next sent e in
    moved ctx given w n (Up d.0.journal) next (to_switch d.0.sent ∷ []) sent (sym d.2) (sym d.3) (submit_step ctx given w n j text d.0 accepts x is d.1)
pharmacy_sound ctx given w n (Up j) next Tick sent laws accepts x is c e =
    let d = done_same (Up (ticked j)) next (map to_switch (due ctx (ticked j))) sent e in
    moved ctx given w n (Up (ticked j)) next _ sent d.0 d.1 (tick_step ctx given w n j accepts x is)
pharmacy_sound ctx given w n (Up j) next (Take from bytes) sent laws accepts x is c e =
    let r = carries_reads ctx w bytes laws c in
    let d = after_hearing_done (heard ctx j c.envelope) next sent (ap (pharmacy_takes ctx j) (sym r) ∙ e) in
    moved ctx given w n (Up d.0) next [] sent (sym d.2) (sym d.3) (hear_step ctx given w n j d.0 bytes c x is d.1)
pharmacy_sound ctx given w n (Up j) next Stop sent laws accepts x is c e =
    let d = done_same (AtRest (stopped j)) next [] sent e in
    moved ctx given w n (AtRest (stopped j)) next [] sent d.0 d.1 (quiet_step ctx given w n (Up j) (AtRest (stopped j)) x is refl)
pharmacy_sound ctx given w n (Up j) next Start sent laws accepts x is c e = absurd cc
pharmacy_sound ctx given w n (Up j) next (Revise (OfPlan change)) sent laws accepts x is c e = absurd cc
pharmacy_sound ctx given w n (Up j) next (Revise (OfRule rule)) sent laws accepts x is c e =
    let d = rule_taken (is_rule ctx.switches rule) (Up (ruled_anew rule j)) next [] sent e in
    moved ctx given w n (Up (ruled_anew rule j)) next [] sent d.1 d.2 (rule_step ctx given w n j rule x is)
pharmacy_sound ctx given w n (Up j) next (Revise (OfCap most)) sent laws accepts x is c e = absurd cc
pharmacy_sound ctx given w n (Up j) next (Adjudicate from bytes advice) sent laws accepts x is c e = absurd cc
pharmacy_sound ctx given w n (AtRest j) next Start sent laws accepts x is c e =
    let d = done_same (Up (started j)) next [] sent e in
    moved ctx given w n (Up (started j)) next [] sent d.0 d.1 (quiet_step ctx given w n (AtRest j) (Up (started j)) x is (started_same j))
pharmacy_sound ctx given w n (AtRest j) next (Submit text) sent laws accepts x is c e = absurd cc
pharmacy_sound ctx given w n (AtRest j) next Tick sent laws accepts x is c e = absurd cc
pharmacy_sound ctx given w n (AtRest j) next (Take from bytes) sent laws accepts x is c e = absurd cc
pharmacy_sound ctx given w n (AtRest j) next Stop sent laws accepts x is c e = absurd cc
pharmacy_sound ctx given w n (AtRest j) next (Revise (OfPlan change)) sent laws accepts x is c e = absurd cc
pharmacy_sound ctx given w n (AtRest j) next (Revise (OfRule rule)) sent laws accepts x is c e = absurd cc
pharmacy_sound ctx given w n (AtRest j) next (Revise (OfCap most)) sent laws accepts x is c e = absurd cc
pharmacy_sound ctx given w n (AtRest j) next (Adjudicate from bytes advice) sent laws accepts x is c e = absurd cc

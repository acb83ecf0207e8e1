-- Which refusals a delivery can meet.
use Rattle.std.proofs.Common.{◌≡◌, ℕ, Bool, true, false, not, ◌&&◌, ◌==◌, ◌+◌, cond, List, [], ◌∷◌, ◌++◌, map, length, Option, Some, None, Result, Ok, Err, refl, sym, ap, ◌∙◌, subst, arith, inl, inr}
use Rattle.std.specs.Prelude.{bytes_eq, nat_lt, option_map, is_some}
use Rattle.std.specs.List.{AllByRecursion, list_all}
use Rattle.std.proofs.lemmas.Bool.{and_from, not_from_false, both_ways}
use Rattle.claim_model.specs.Words.{Advice, TxnId, RequestHeader, Envelope, Answer, Order, Code}
use Rattle.claim_model.specs.Context.{Context}
use Rattle.claim_model.specs.Laws.{Laws}
use Rattle.claim_model.specs.Readable.{readable, payer_for, is_payer, fits, settles, is_request, route_key}
use Rattle.claim_model.specs.Refusal.{Refusal, NoSuchPacket, Down, Unreadable, AlreadySettled, Differs, NumberReused, NotWaiting, NotOurs, BookFull, SerialsUsedUp, NotAdvised, NotAsked}
use Rattle.claim_model.specs.Numbered.{numbered}
use Rattle.claim_model.specs.Ruled.{Ruled, ruled}
use Rattle.claim_model.specs.Judgement.{Judged, Unpriced, ToPrice, ToReverse, judged, planned, verdict_in, Allows, consent_in, ruling, is_advised, all_advised}
use Rattle.claim_model.specs.Rows.{Row, Book, ruled_rows}
use Rattle.claim_model.specs.Book.{serial_fits, row_of, new_row, has_verdicts, unadvised, Answered, entered_row, answered_by, answered_readable, answered}
use Rattle.claim_model.specs.Journal.{State, Waits, Has, Entry, Journal, JournalAtRest, Kept, settle_by, settle_with, heard_at, heard, answer_in, kept_entry, stopped}
use Rattle.claim_model.specs.Table.{Slot, Table, Requested, slot_of, requested_again, requested_by, requested_readable, requested, Responded, responded_with, responded_by, responded_readable, responded}
use Rattle.claim_model.specs.Node.{Node, Pharmacy, Switch, Payer, Power, Up, AtRest, Take, Adjudicate, Outcome, Done, Refused, after_hearing, pharmacy_takes, pharmacy_step, after_request, after_response, switch_takes, switch_step, after_answer, payer_takes, advice_in, payer_step}
use Rattle.claim_model.specs.World.{World, Packet, pharmacy_stepped, on_pharmacy, switch_stepped, on_switch, payer_stepped, on_payer, on_node, delivered, adjudicated, step}
use Rattle.claim_model.specs.Settings.{WorldSettings}
use Rattle.claim_model.specs.Held.{journal_in, book_in, journal_at, entry_of, asked, decided}
use Rattle.claim_model.specs.Carried.{Carries}
use Rattle.claim_model.specs.Promises.{Reached, asks_in, asks_at, is_asking, MayMeet, MayMeetAt, DeliveriesMeet, AdjudicationsMeet}
use Rattle.claim_model.proofs.Lists.{all_at, find_all, find_passes, numbered_map, numbered_exists}
use Rattle.claim_model.proofs.Options.{map_some, then_some, same_some}
use Rattle.claim_model.proofs.Tests.{readable_parts, bytes_self, nat_self, id_same, payer_self}
use Rattle.claim_model.proofs.Sound.{id_at, SoundJournal, SoundSlot, SoundSwitch, SoundRow, SoundBook, SoundPacket, Sound}
use Rattle.claim_model.proofs.Decided.{origin}
use Rattle.claim_model.proofs.Held.{journal_sound}
use Rattle.claim_model.proofs.PharmacyStep.{carries_reads}
use Rattle.claim_model.proofs.SwitchStep.{request_says, response_says, slot_found}
use Rattle.claim_model.proofs.Addressed.{Addressed, IsFor, AnswerFor, RoutedTo}
use Rattle.claim_model.proofs.Posts.{Posted, reached_posts}

refused_same : {A : Type 0} (a b : Refusal) → ◌≡◌ {A = Outcome A} (Refused a) (Refused b) → a ≡ b
refused_same a b e = cc

err_same : {A : Type 0} (a b : Refusal) → ◌≡◌ {A = Result A Refusal} (Err a) (Err b) → a ≡ b
err_same a b e = cc

-- the request that was asked for an id is readable
pub record AskedWell (ctx : Context) (w : World) (id : TxnId) (request : List ℕ) : Type 0 where
  pub journal : JournalAtRest
  pub there : journal_at w id.pharmacy ≡ Some journal
  pub entry : Kept
  pub stands : numbered journal.entries id.number ≡ Some entry
  pub request_is : entry.request ≡ request
  pub header : RequestHeader
  pub reads : readable ctx request ≡ Some header

asked_well : (ctx : Context) (given : WorldSettings) (w : World) (id : TxnId) (request : List ℕ) → Sound ctx given w → asked w id ≡ Some request → AskedWell ctx w id request
asked_well ctx given w id request x asks =
    let e = map_some (λ (k : Kept). k.request) (entry_of w id) request asks in
    let j = then_some (λ (q : JournalAtRest). numbered q.entries id.number) (journal_at w id.pharmacy) e.0 e.1 in
    let s = (journal_sound ctx given w id.pharmacy j.0 x j.1).entries id.number e.0 j.2 in
    record { journal = j.0; there = j.1; entry = e.0; stands = j.2; request_is = e.2; header = s.header; reads = ap (readable ctx) (sym e.2) ∙ s.reads }

-- at a pharmacy

-- an answer that was decided settles its request
decided_settles : (ctx : Context) (h : RequestHeader) (o : Option RequestHeader) (request answer : List ℕ) (a : Answer) → ctx.header request ≡ Some h → ctx.read_answer answer ≡ Some a → a.header.code ≡ h.code → a.header.count ≡ h.count → settles ctx request answer ≡ true
decided_settles ctx h o request answer a reads_h reads_a code count =
    ap (λ (q : Option RequestHeader). fits q (ctx.read_answer answer)) reads_h
    ∙ (ap (fits (Some h)) reads_a
    ∙ and_from (bytes_eq a.header.code h.code) (a.header.count == h.count) (subst (λ (x : List ℕ). bytes_eq a.header.code x ≡ true) code (bytes_self a.header.code))
    (subst (λ (x : ℕ). (a.header.count == x) ≡ true) count (nat_self a.header.count)))

settled_refusal : (b : Bool) (why : Refusal) → b ≡ true → ◌≡◌ {A = Result State Refusal} (cond b (Err AlreadySettled) (Err Differs)) (Err why) → MayMeet why
settled_refusal true why is h = subst MayMeet (err_same {A = State} AlreadySettled why h) tt
settled_refusal false why is h = absurd (Rattle.std.proofs.lemmas.Bool.false≢true is)

settle_refusal : (answer : List ℕ) (s : State) (why : Refusal) → ((held : List ℕ) → answer_in s ≡ Some held → held ≡ answer) → settle_by answer s ≡ Err why → MayMeet why
settle_refusal answer (Waits phase) why same e = absurd cc
settle_refusal answer (Has held) why same e =
    settled_refusal (bytes_eq held answer) why (subst (λ (x : List ℕ). bytes_eq held x ≡ true) (same held refl) (bytes_self held)) e

with_refusal : (j : Journal) (number : ℕ) (e : Entry) (r : Result State Refusal) (why : Refusal) → ((f : Refusal) → r ≡ Err f → MayMeet f) → settle_with j number e r ≡ Err why → MayMeet why
with_refusal j number e (Err f) why m h = subst MayMeet (err_same f why h) (m f refl)
with_refusal j number e (Ok s) why m h = absurd cc

at_refusal : (ctx : Context) (j : Journal) (e : Envelope) (o : Option Entry) (why : Refusal) → (entry : Entry) → o ≡ Some entry → is_request e ≡ false → settles ctx entry.request e.payload ≡ true
    → ((held : List ℕ) → answer_in entry.state ≡ Some held → held ≡ e.payload) → heard_at ctx j e o ≡ Err why → MayMeet why
at_refusal ctx j e None why entry is request fits_it same h = absurd cc
at_refusal ctx j e (Some f) why entry is request fits_it same h =
    let one : f ≡ entry = same_some f entry is in
    let test : (not (is_request e) && settles ctx f.request e.payload) ≡ true =
    and_from (not (is_request e)) (settles ctx f.request e.payload) (not_from_false (is_request e) request) (subst (λ (x : Entry). settles ctx x.request e.payload ≡ true) (sym one) fits_it) in
    let inner : settle_with j e.id.number f (settle_by e.payload f.state) ≡ Err why =
    sym (Rattle.std.proofs.lemmas.Bool.cond-true (not (is_request e) && settles ctx f.request e.payload) (settle_with j e.id.number f (settle_by e.payload f.state)) (Err Unreadable) test) ∙ h in
    with_refusal j e.id.number f (settle_by e.payload f.state) why
    (λ g k. settle_refusal e.payload f.state g (subst (λ (x : Entry). (held : List ℕ) → answer_in x.state ≡ Some held → held ≡ e.payload) (sym one) same) k) inner

kept_some : (o : Option Entry) (k : Kept) → option_map kept_entry o ≡ Some k → (entry : Entry) × (o ≡ Some entry) × (kept_entry entry ≡ k)
kept_some o k e = map_some kept_entry o k e

heard_refusal : (ctx : Context) (given : WorldSettings) (w : World) (n : ℕ) (j : Journal) (bytes : List ℕ) (c : Carries ctx w bytes) (why : Refusal) → Laws ctx → Sound ctx given w → numbered w.pharmacies n ≡ Some (Up j)
    → AnswerFor n c.envelope → heard ctx j c.envelope ≡ Err why → MayMeet why
unfolding heard stopped
heard_refusal ctx given w n j bytes c why laws x is for_it h =
    let sj : SoundJournal ctx given w n (stopped j) = x.pharmacies n (Up j) is in
    let id : TxnId = c.envelope.id in
    let d : decided ctx w id ≡ Some c.envelope.payload = response_says ctx w bytes c for_it.is_answer in
    let o = origin ctx given w id c.envelope.payload laws x d in
    let a = asked_well ctx given w id o.0.request x o.0.asks in
    let ours : a.journal ≡ stopped j = same_some _ _ (sym a.there ∙ (ap (journal_at w) for_it.own ∙ ap (option_map journal_in) is)) in
    let stands : numbered (map kept_entry j.entries) id.number ≡ Some a.entry = subst (λ (y : JournalAtRest). numbered y.entries id.number ≡ Some a.entry) ours a.stands in
    let entry = kept_some (numbered j.entries id.number) a.entry (sym (numbered_map kept_entry j.entries id.number) ∙ stands) in
    let request : entry.0.request ≡ o.0.request = ap (λ (y : Kept). y.request) entry.2 ∙ a.request_is in
    let header : ctx.header entry.0.request ≡ Some o.0.header = ap ctx.header request ∙ (readable_parts ctx o.0.request o.0.header o.0.reads).1 in
    let fits_it : settles ctx entry.0.request c.envelope.payload ≡ true =
    decided_settles ctx o.0.header None entry.0.request c.envelope.payload o.0.spells.answer header o.0.spells.reads o.0.spells.code o.0.spells.count in
    let same : (held : List ℕ) → answer_in entry.0.state ≡ Some held → held ≡ c.envelope.payload =
    λ held k.
    let s = sj.entries id.number a.entry stands in
    let was : decided ctx w (id_at n id.number) ≡ Some held = s.answer held (ap (λ (y : Kept). y.answer) (sym entry.2) ∙ k) in
    same_some held c.envelope.payload (sym was ∙ (ap (λ (m : ℕ). decided ctx w (id_at m id.number)) (sym for_it.own) ∙ d)) in
    let mine : (c.envelope.id.pharmacy == j.number) ≡ true = subst (λ (m : ℕ). (c.envelope.id.pharmacy == m) ≡ true) (for_it.own ∙ sym sj.number) (nat_self c.envelope.id.pharmacy) in
    let inner : heard_at ctx j c.envelope (numbered j.entries id.number) ≡ Err why =
    sym (Rattle.std.proofs.lemmas.Bool.cond-true (c.envelope.id.pharmacy == j.number) (heard_at ctx j c.envelope (numbered j.entries id.number)) (Err Refusal.NotMine) mine) ∙ h in
    at_refusal ctx j c.envelope (numbered j.entries id.number) why entry.0 entry.1 for_it.is_answer fits_it same inner

after_hearing_refused : (r : Result Journal Refusal) (why : Refusal) → after_hearing r ≡ Refused why → r ≡ Err why
after_hearing_refused (Err f) why e = ap (λ (x : Refusal). Err x) (refused_same f why e)
after_hearing_refused (Ok j) why e = absurd cc

pharmacy_refusal : (ctx : Context) (given : WorldSettings) (w : World) (n : ℕ) (s : Power Journal JournalAtRest) (from : Node) (bytes : List ℕ) (c : Carries ctx w bytes) (why : Refusal) → Laws ctx → Sound ctx given w → numbered w.pharmacies n ≡ Some s
    → AnswerFor n c.envelope → pharmacy_step ctx s (Take from bytes) ≡ Refused why → MayMeet why
pharmacy_refusal ctx given w n (Up j) from bytes c why laws x is for_it e =
    heard_refusal ctx given w n j bytes c why laws x is for_it (after_hearing_refused (heard ctx j c.envelope) why (ap (pharmacy_takes ctx j) (sym (carries_reads ctx w bytes laws c)) ∙ e))
pharmacy_refusal ctx given w n (AtRest j) from bytes c why laws x is for_it e = subst MayMeet (refused_same Down why e) tt

-- at a switch

cond_err : {A : Type 0} (b : Bool) (r : Result A Refusal) (f why : Refusal) → b ≡ true → cond b r (Err f) ≡ Err why → r ≡ Err why
cond_err true r f why is e = e
cond_err false r f why is e = absurd (Rattle.std.proofs.lemmas.Bool.false≢true is)

slot_refusal : (ctx : Context) (w : World) (bytes : List ℕ) (c : Carries ctx w bytes) (t : Table) (h : RequestHeader) (o : Option Slot) (why : Refusal) → asked w c.envelope.id ≡ Some c.envelope.payload
    → AllByRecursion (SoundSlot ctx w) t.entries → slot_of c.envelope.id t.entries ≡ o → requested_by ctx t c.envelope h o ≡ Err why → MayMeet why
slot_refusal ctx w bytes c t h None why asks all is e = absurd cc
slot_refusal ctx w bytes c t h (Some s) why asks all is e =
    let f : SoundSlot ctx w (c.envelope.id, s) = slot_found (SoundSlot ctx w) c.envelope.id t.entries s all is in
    let same : s.request ≡ c.envelope.payload = same_some _ _ (sym f.asks ∙ asks) in
    let test : bytes_eq s.request c.envelope.payload ≡ true = subst (λ (x : List ℕ). bytes_eq s.request x ≡ true) same (bytes_self s.request) in
    absurd (ok_err (requested_again ctx t c.envelope h s.answer) why (cond_err (bytes_eq s.request c.envelope.payload) (Ok (requested_again ctx t c.envelope h s.answer)) NumberReused why test e))
  where
    ok_err : (a : Requested) (f : Refusal) → ◌≡◌ {A = Result Requested Refusal} (Ok a) (Err f) → ⊥
    ok_err a f h = cc

readable_refusal : (ctx : Context) (w : World) (bytes : List ℕ) (c : Carries ctx w bytes) (t : Table) (o : Option RequestHeader) (h : RequestHeader) (why : Refusal) → o ≡ Some h → asked w c.envelope.id ≡ Some c.envelope.payload
    → AllByRecursion (SoundSlot ctx w) t.entries → requested_readable ctx t c.envelope o ≡ Err why → MayMeet why
readable_refusal ctx w bytes c t None h why is asks all e = absurd cc
readable_refusal ctx w bytes c t (Some g) h why is asks all e = slot_refusal ctx w bytes c t g (slot_of c.envelope.id t.entries) why asks all refl e

requested_refusal : (ctx : Context) (given : WorldSettings) (w : World) (bytes : List ℕ) (c : Carries ctx w bytes) (t : Table) (why : Refusal) → Sound ctx given w → is_request c.envelope ≡ true → AllByRecursion (SoundSlot ctx w) t.entries
    → requested ctx t c.envelope ≡ Err why → MayMeet why
unfolding requested
requested_refusal ctx given w bytes c t why x is all e =
    let asks = request_says ctx w bytes c is in
    let a = asked_well ctx given w c.envelope.id c.envelope.payload x asks in
    readable_refusal ctx w bytes c t (readable ctx c.envelope.payload) a.header why a.reads asks all
    (cond_err (is_request c.envelope) (requested_readable ctx t c.envelope (readable ctx c.envelope.payload)) Unreadable why is e)

with_same_refusal : (ctx : Context) (t : Table) (e : Envelope) (o : Option (List ℕ)) (why : Refusal) → ((a : List ℕ) → o ≡ Some a → a ≡ e.payload) → responded_with ctx t e o ≡ Err why → MayMeet why
with_same_refusal ctx t e None why same h = absurd cc
with_same_refusal ctx t e (Some a) why same h =
    let test : bytes_eq a e.payload ≡ true = subst (λ (x : List ℕ). bytes_eq a x ≡ true) (same a refl) (bytes_self a) in
    absurd (ok_err _ why (cond_err (bytes_eq a e.payload) (Ok (record { table = t; bytes = ctx.envelope e })) Differs why test h))
  where
    ok_err : (r : Responded) (f : Refusal) → ◌≡◌ {A = Result Responded Refusal} (Ok r) (Err f) → ⊥
    ok_err r f k = cc

by_slot_refusal : (ctx : Context) (w : World) (bytes : List ℕ) (c : Carries ctx w bytes) (t : Table) (o : Option Slot) (why : Refusal) → decided ctx w c.envelope.id ≡ Some c.envelope.payload
    → AllByRecursion (SoundSlot ctx w) t.entries → slot_of c.envelope.id t.entries ≡ o → responded_by ctx t c.envelope o ≡ Err why → MayMeet why
by_slot_refusal ctx w bytes c t None why d all is e = subst MayMeet (err_same NotWaiting why e) tt
by_slot_refusal ctx w bytes c t (Some s) why d all is e =
    let f : SoundSlot ctx w (c.envelope.id, s) = slot_found (SoundSlot ctx w) c.envelope.id t.entries s all is in
    with_same_refusal ctx t c.envelope s.answer why (λ a h. same_some a c.envelope.payload (sym (f.answer a h) ∙ d)) e

answer_refusal : (ctx : Context) (w : World) (bytes : List ℕ) (c : Carries ctx w bytes) (t : Table) (o : Option Answer) (a : Answer) (why : Refusal) → o ≡ Some a → decided ctx w c.envelope.id ≡ Some c.envelope.payload
    → AllByRecursion (SoundSlot ctx w) t.entries → responded_readable ctx t c.envelope o ≡ Err why → MayMeet why
answer_refusal ctx w bytes c t None a why is d all e = absurd cc
answer_refusal ctx w bytes c t (Some b) a why is d all e = by_slot_refusal ctx w bytes c t (slot_of c.envelope.id t.entries) why d all refl e

cond_err_not : {A : Type 0} (b : Bool) (r : Result A Refusal) (f why : Refusal) → b ≡ false → cond b (Err f) r ≡ Err why → r ≡ Err why
cond_err_not true r f why is e = absurd (Rattle.std.proofs.lemmas.Bool.true≢false is)
cond_err_not false r f why is e = e

responded_refusal : (ctx : Context) (given : WorldSettings) (w : World) (bytes : List ℕ) (c : Carries ctx w bytes) (t : Table) (why : Refusal) → Laws ctx → Sound ctx given w → is_request c.envelope ≡ false → AllByRecursion (SoundSlot ctx w) t.entries
    → responded ctx t c.envelope ≡ Err why → MayMeet why
unfolding responded
responded_refusal ctx given w bytes c t why laws x is all e =
    let d = response_says ctx w bytes c is in
    let o = origin ctx given w c.envelope.id c.envelope.payload laws x d in
    answer_refusal ctx w bytes c t (ctx.read_answer c.envelope.payload) o.0.spells.answer why o.0.spells.reads d all
    (cond_err_not (is_request c.envelope) (responded_readable ctx t c.envelope (ctx.read_answer c.envelope.payload)) Unreadable why is e)

after_request_refused : (id : TxnId) (r : Result Requested Refusal) (why : Refusal) → after_request id r ≡ Refused why → r ≡ Err why
after_request_refused id (Err f) why e = ap (λ (x : Refusal). Err x) (refused_same f why e)
after_request_refused id (Ok q) why e = absurd cc

after_response_refused : (id : TxnId) (r : Result Responded Refusal) (why : Refusal) → after_response id r ≡ Refused why → r ≡ Err why
after_response_refused id (Err f) why e = ap (λ (x : Refusal). Err x) (refused_same f why e)
after_response_refused id (Ok q) why e = absurd cc

taken_refusal : (ctx : Context) (given : WorldSettings) (w : World) (bytes : List ℕ) (c : Carries ctx w bytes) (t : Table) (why : Refusal) (b : Bool) → is_request c.envelope ≡ b → Laws ctx → Sound ctx given w → AllByRecursion (SoundSlot ctx w) t.entries
    → cond b (after_request c.envelope.id (requested ctx t c.envelope)) (after_response c.envelope.id (responded ctx t c.envelope)) ≡ Refused why → MayMeet why
taken_refusal ctx given w bytes c t why true is laws x all e = requested_refusal ctx given w bytes c t why x is all (after_request_refused c.envelope.id (requested ctx t c.envelope) why e)
taken_refusal ctx given w bytes c t why false is laws x all e = responded_refusal ctx given w bytes c t why laws x is all (after_response_refused c.envelope.id (responded ctx t c.envelope) why e)

switch_refusal : (ctx : Context) (given : WorldSettings) (w : World) (s : Power Table ℕ) (from : Node) (bytes : List ℕ) (c : Carries ctx w bytes) (why : Refusal) → Laws ctx → Sound ctx given w → SoundSwitch ctx w s
    → switch_step ctx s (Take from bytes) ≡ Refused why → MayMeet why
switch_refusal ctx given w (Up t) from bytes c why laws x all e =
    taken_refusal ctx given w bytes c t why (is_request c.envelope) refl laws x all (ap (switch_takes ctx t) (sym (carries_reads ctx w bytes laws c)) ∙ e)
switch_refusal ctx given w (AtRest cap) from bytes c why laws x all e = subst MayMeet (refused_same Down why e) tt

-- at a payer

-- a payer that does not ask has a verdict on everything

judged_unasked : (ctx : Context) (b : Book) (advice : Advice) (place : ℕ) (j : Judged) → b.settings.asks ≡ false → is_advised ctx b advice place j ≡ true
judged_unasked ctx b advice place (Unpriced ruling) e = refl
judged_unasked ctx b advice place (ToPrice c) e = by_asks b.settings.asks e
  where
    by_asks : (t : Bool) → t ≡ false → is_some (cond t (verdict_in c.fill.prescription (numbered advice.rulings place)) (Some (planned (ctx.price b.plan c)))) ≡ true
    by_asks true h = absurd (Rattle.std.proofs.lemmas.Bool.true≢false h)
    by_asks false h = refl
judged_unasked ctx b advice place (ToReverse auth v) e = by_asks b.settings.asks e
  where
    by_asks : (t : Bool) → t ≡ false → is_some (cond (t && b.settings.reversals) (consent_in v.prescription (numbered advice.rulings place)) (Some Allows)) ≡ true
    by_asks true h = absurd (Rattle.std.proofs.lemmas.Bool.true≢false h)
    by_asks false h = refl

pub unasked_advised : (ctx : Context) (b : Book) (advice : Advice) (before : List Ruled) (id : TxnId) (place : ℕ) (orders : List (Result Order (List Code))) → b.settings.asks ≡ false → all_advised ctx b advice before id place orders ≡ true
unasked_advised ctx b advice before id place [] e = refl
unasked_advised ctx b advice before id place (order ∷ orders) e =
    and_from (is_advised ctx b advice place (judged before order)) (all_advised ctx b advice (before ++ ruled id place order (ruling ctx b advice before place order) ∷ []) id (place + 1) orders)
    (judged_unasked ctx b advice place (judged before order) e) (unasked_advised ctx b advice (before ++ ruled id place order (ruling ctx b advice before place order) ∷ []) id (place + 1) orders e)

-- so what lacks a verdict is at a payer that asks
asks_where_not : (ctx : Context) (b : Book) (advice : Advice) (id : TxnId) (request : List ℕ) → has_verdicts ctx b advice id request ≡ false → b.settings.asks ≡ true
asks_where_not ctx b advice id request e = by_asks b.settings.asks refl
  where
    by_asks : (t : Bool) → b.settings.asks ≡ t → t ≡ true
    by_asks true is = refl
    by_asks false is = absurd (both_ways (has_verdicts ctx b advice id request) e (unasked_advised ctx b advice (ruled_rows ctx b.rows) id 1 (ctx.orders request) is))

row_refusal : (asks : Bool) (a : Answered) (t advised : Bool) (why : Refusal) → (advised ≡ false → asks ≡ true) → cond t (cond advised (Ok a) (Err NotAdvised)) (Err SerialsUsedUp) ≡ Err why → MayMeetAt asks why
row_refusal asks a true true why f e = absurd (ok_err a why e)
  where
    ok_err : (q : Answered) (f : Refusal) → ◌≡◌ {A = Result Answered Refusal} (Ok q) (Err f) → ⊥
    ok_err q f k = cc
row_refusal asks a true false why f e = inr (f refl, sym (err_same NotAdvised why e))
row_refusal asks a false advised why f e = inl (subst MayMeet (err_same SerialsUsedUp why e) tt)

room_refusal : (asks : Bool) (r : Result Answered Refusal) (t : Bool) (why : Refusal) → (r ≡ Err why → MayMeetAt asks why) → cond t r (Err BookFull) ≡ Err why → MayMeetAt asks why
room_refusal asks r true why f e = f e
room_refusal asks r false why f e = inl (subst MayMeet (err_same BookFull why e) tt)

by_row_refusal : (ctx : Context) (w : World) (n : ℕ) (b : Book) (advice : Advice) (bytes : List ℕ) (c : Carries ctx w bytes) (h : RequestHeader) (o : Option Row) (why : Refusal) → asked w c.envelope.id ≡ Some c.envelope.payload
    → AllByRecursion (SoundRow ctx w n b.rows) b.rows → row_of c.envelope.id b.rows ≡ o → answered_by ctx b advice c.envelope.id c.envelope.payload h o ≡ Err why → MayMeetAt b.settings.asks why
by_row_refusal ctx w n b advice bytes c h (Some row) why asks rows is e =
    let s : SoundRow ctx w n b.rows row = find_all (SoundRow ctx w n b.rows) _ b.rows row rows is in
    let id : row.id ≡ c.envelope.id = id_same row.id c.envelope.id (find_passes _ b.rows row is) in
    let same : row.request ≡ c.envelope.payload = same_some _ _ (sym s.asks ∙ (ap (asked w) id ∙ asks)) in
    let test : bytes_eq row.request c.envelope.payload ≡ true = subst (λ (x : List ℕ). bytes_eq row.request x ≡ true) same (bytes_self row.request) in
    absurd (ok_err _ why (cond_err (bytes_eq row.request c.envelope.payload) _ NumberReused why test e))
  where
    ok_err : (q : Answered) (f : Refusal) → ◌≡◌ {A = Result Answered Refusal} (Ok q) (Err f) → ⊥
    ok_err q f k = cc
by_row_refusal ctx w n b advice bytes c h None why asks rows is e =
    room_refusal b.settings.asks (entered_row ctx b h (has_verdicts ctx b advice c.envelope.id c.envelope.payload) (new_row ctx b advice c.envelope.id c.envelope.payload)) (nat_lt (length b.rows) b.settings.cap) why
    (λ k. row_refusal b.settings.asks _ (list_all serial_fits (new_row ctx b advice c.envelope.id c.envelope.payload).rulings) (has_verdicts ctx b advice c.envelope.id c.envelope.payload) why
    (asks_where_not ctx b advice c.envelope.id c.envelope.payload) k) e

answered_refusal : (ctx : Context) (given : WorldSettings) (w : World) (n : ℕ) (b : Book) (advice : Advice) (bytes : List ℕ) (c : Carries ctx w bytes) (o : Option RequestHeader) (why : Refusal) → SoundBook ctx given w n b → asked w c.envelope.id ≡ Some c.envelope.payload
    → (r : RoutedTo ctx n c.envelope) → o ≡ Some r.header → answered_readable ctx b advice c.envelope.id c.envelope.payload o ≡ Err why → MayMeetAt b.settings.asks why
answered_refusal ctx given w n b advice bytes c None why sb asks r is e = absurd cc
answered_refusal ctx given w n b advice bytes c (Some h) why sb asks r is e =
    let same : h ≡ r.header = same_some h r.header is in
    let routed : payer_for ctx c.envelope.id h ≡ Some b.payer = ap (payer_for ctx c.envelope.id) same ∙ (r.routed ∙ ap (λ (m : ℕ). Some m) (sym sb.payer)) in
    let test : is_payer b.payer (payer_for ctx c.envelope.id h) ≡ true = subst (λ (q : Option ℕ). is_payer b.payer q ≡ true) (sym routed) (payer_self b.payer) in
    by_row_refusal ctx w n b advice bytes c h (row_of c.envelope.id b.rows) why asks sb.rows refl
    (cond_err (is_payer b.payer (payer_for ctx c.envelope.id h)) (answered_by ctx b advice c.envelope.id c.envelope.payload h (row_of c.envelope.id b.rows)) NotOurs why test e)

after_answer_refused : (ctx : Context) (from : Node) (id : TxnId) (r : Result Answered Refusal) (why : Refusal) → after_answer ctx from id r ≡ Refused why → r ≡ Err why
after_answer_refused ctx from id (Err f) why e = ap (λ (x : Refusal). Err x) (refused_same f why e)
after_answer_refused ctx from id (Ok a) why e = absurd cc

cond_refused : {A : Type 0} (b : Bool) (o : Outcome A) (f why : Refusal) → b ≡ true → cond b o (Refused f) ≡ Refused why → o ≡ Refused why
cond_refused true o f why is e = e
cond_refused false o f why is e = absurd (Rattle.std.proofs.lemmas.Bool.false≢true is)

takes_refusal : (ctx : Context) (given : WorldSettings) (w : World) (n : ℕ) (b : Book) (advice : Advice) (from : Node) (bytes : List ℕ) (c : Carries ctx w bytes) (why : Refusal) → Laws ctx → Sound ctx given w → numbered w.payers n ≡ Some (Up b)
    → RoutedTo ctx n c.envelope → payer_takes ctx b advice from (ctx.read_envelope bytes) ≡ Refused why → MayMeetAt b.settings.asks why
unfolding answered
takes_refusal ctx given w n b advice from bytes c why laws x is r e =
    let e' = cond_refused (is_request c.envelope) (after_answer ctx from c.envelope.id (answered ctx b advice c.envelope.id c.envelope.payload)) Unreadable why r.is_request_is
    (ap (payer_takes ctx b advice from) (sym (carries_reads ctx w bytes laws c)) ∙ e) in
    answered_refusal ctx given w n b advice bytes c (readable ctx c.envelope.payload) why (x.payers n (Up b) is) (request_says ctx w bytes c r.is_request_is) r r.reads
    (after_answer_refused ctx from c.envelope.id (answered ctx b advice c.envelope.id c.envelope.payload) why e')

payer_refusal : (ctx : Context) (given : WorldSettings) (w : World) (n : ℕ) (s : Power Book Book) (from : Node) (bytes : List ℕ) (c : Carries ctx w bytes) (why : Refusal) → Laws ctx → Sound ctx given w → numbered w.payers n ≡ Some s
    → RoutedTo ctx n c.envelope → payer_step ctx s (Take from bytes) ≡ Refused why → MayMeetAt (book_in s).settings.asks why
payer_refusal ctx given w n (Up b) from bytes c why laws x is r e = takes_refusal ctx given w n b unadvised from bytes c why laws x is r e
payer_refusal ctx given w n (AtRest b) from bytes c why laws x is r e = inl (subst MayMeet (refused_same Down why e) tt)

advised_refusal : (ctx : Context) (given : WorldSettings) (w : World) (n : ℕ) (s : Power Book Book) (from : Node) (bytes advice : List ℕ) (c : Carries ctx w bytes) (why : Refusal) → Laws ctx → Sound ctx given w → numbered w.payers n ≡ Some s
    → RoutedTo ctx n c.envelope → (book_in s).settings.asks ≡ true → payer_step ctx s (Adjudicate from bytes advice) ≡ Refused why → MayMeetAt true why
advised_refusal ctx given w n (Up b) from bytes advice c why laws x is r asks e =
    subst (λ (t : Bool). MayMeetAt t why) asks
    (takes_refusal ctx given w n b (advice_in ctx advice) from bytes c why laws x is r (cond_refused b.settings.asks (payer_takes ctx b (advice_in ctx advice) from (ctx.read_envelope bytes)) NotAsked why asks e))
advised_refusal ctx given w n (AtRest b) from bytes advice c why laws x is r asks e = inl (subst MayMeet (refused_same Down why e) tt)

-- in the world

pharmacy_stepped_refused : (w : World) (n : ℕ) (o : Outcome (Power Journal JournalAtRest)) (why : Refusal) → pharmacy_stepped w n o ≡ Refused why → o ≡ Refused why
pharmacy_stepped_refused w n (Refused f) why e = ap (λ (x : Refusal). Refused x) (refused_same f why e)
pharmacy_stepped_refused w n (Done next sent) why e = absurd cc

switch_stepped_refused : (w : World) (n : ℕ) (o : Outcome (Power Table ℕ)) (why : Refusal) → switch_stepped w n o ≡ Refused why → o ≡ Refused why
switch_stepped_refused w n (Refused f) why e = ap (λ (x : Refusal). Refused x) (refused_same f why e)
switch_stepped_refused w n (Done next sent) why e = absurd cc

payer_stepped_refused : (w : World) (n : ℕ) (o : Outcome (Power Book Book)) (why : Refusal) → payer_stepped w n o ≡ Refused why → o ≡ Refused why
payer_stepped_refused w n (Refused f) why e = ap (λ (x : Refusal). Refused x) (refused_same f why e)
payer_stepped_refused w n (Done next sent) why e = absurd cc

on_pharmacy_refusal : (ctx : Context) (given : WorldSettings) (w : World) (n : ℕ) (from : Node) (bytes : List ℕ) (c : Carries ctx w bytes) (why : Refusal) (o : Option (Power Journal JournalAtRest)) (s : Power Journal JournalAtRest) → Laws ctx → Sound ctx given w
    → AnswerFor n c.envelope → numbered w.pharmacies n ≡ o → o ≡ Some s → on_pharmacy ctx w n (Take from bytes) o ≡ Refused why → MayMeet why
on_pharmacy_refusal ctx given w n from bytes c why None s laws x f is there e = absurd cc
on_pharmacy_refusal ctx given w n from bytes c why (Some t) s laws x f is there e =
    pharmacy_refusal ctx given w n t from bytes c why laws x is f (pharmacy_stepped_refused w n (pharmacy_step ctx t (Take from bytes)) why e)

on_switch_refusal : (ctx : Context) (given : WorldSettings) (w : World) (n : ℕ) (from : Node) (bytes : List ℕ) (c : Carries ctx w bytes) (why : Refusal) (o : Option (Power Table ℕ)) (s : Power Table ℕ) → Laws ctx → Sound ctx given w
    → numbered w.switches n ≡ o → o ≡ Some s → on_switch ctx w n (Take from bytes) o ≡ Refused why → MayMeet why
on_switch_refusal ctx given w n from bytes c why None s laws x is there e = absurd cc
on_switch_refusal ctx given w n from bytes c why (Some t) s laws x is there e =
    switch_refusal ctx given w t from bytes c why laws x (x.switches n t is) (switch_stepped_refused w n (switch_step ctx t (Take from bytes)) why e)

on_payer_refusal : (ctx : Context) (given : WorldSettings) (w : World) (n : ℕ) (from : Node) (bytes : List ℕ) (c : Carries ctx w bytes) (why : Refusal) (o : Option (Power Book Book)) (s : Power Book Book) → Laws ctx → Sound ctx given w
    → RoutedTo ctx n c.envelope → numbered w.payers n ≡ o → o ≡ Some s → on_payer ctx w n (Take from bytes) o ≡ Refused why → MayMeetAt (asks_in (option_map book_in o)) why
on_payer_refusal ctx given w n from bytes c why None s laws x f is there e = absurd cc
on_payer_refusal ctx given w n from bytes c why (Some t) s laws x f is there e =
    payer_refusal ctx given w n t from bytes c why laws x is f (payer_stepped_refused w n (payer_step ctx t (Take from bytes)) why e)

on_payer_advised : (ctx : Context) (given : WorldSettings) (w : World) (n : ℕ) (from : Node) (bytes advice : List ℕ) (c : Carries ctx w bytes) (why : Refusal) (o : Option (Power Book Book)) (s : Power Book Book) → Laws ctx → Sound ctx given w
    → RoutedTo ctx n c.envelope → numbered w.payers n ≡ o → o ≡ Some s → asks_in (option_map book_in o) ≡ true → on_payer ctx w n (Adjudicate from bytes advice) o ≡ Refused why → MayMeetAt true why
on_payer_advised ctx given w n from bytes advice c why None s laws x f is there asks e = absurd cc
on_payer_advised ctx given w n from bytes advice c why (Some t) s laws x f is there asks e =
    advised_refusal ctx given w n t from bytes advice c why laws x is f asks (payer_stepped_refused w n (payer_step ctx t (Adjudicate from bytes advice)) why e)

node_refusal : (ctx : Context) (given : WorldSettings) (w : World) (from to : Node) (bytes : List ℕ) (c : Carries ctx w bytes) (why : Refusal) → Reached ctx given w → Posted ctx given w → IsFor ctx given from to c.envelope
    → on_node ctx w to (Take from bytes) ≡ Refused why → MayMeetAt (asks_at w to) why
node_refusal ctx given w from (Pharmacy n) bytes c why r p f e =
    let d = response_says ctx w bytes c f.is_answer in
    let o = origin ctx given w c.envelope.id c.envelope.payload r.laws p.sound d in
    let a = asked_well ctx given w c.envelope.id o.0.request p.sound o.0.asks in
    let s = map_some journal_in (numbered w.pharmacies c.envelope.id.pharmacy) a.journal a.there in
    inl (on_pharmacy_refusal ctx given w n from bytes c why (numbered w.pharmacies n) s.0 r.laws p.sound f refl (ap (numbered w.pharmacies) (sym f.own) ∙ s.1) e)
node_refusal ctx given w from (Switch m) bytes c why r p f e =
    let s = numbered_exists w.switches m f.above (omega (arith, f.within, p.switches)) in
    inl (on_switch_refusal ctx given w m from bytes c why (numbered w.switches m) s.0 r.laws p.sound refl s.1 e)
node_refusal ctx given w from (Payer n) bytes c why r p f e =
    let in' = r.accepts.routes c.envelope.id.number (route_key f.0.header) n f.0.routed in
    let s = numbered_exists w.payers n in'.0 (omega (arith, in'.1, p.payers)) in
    on_payer_refusal ctx given w n from bytes c why (numbered w.payers n) s.0 r.laws p.sound f.0 refl s.1 e

node_advised : (ctx : Context) (given : WorldSettings) (w : World) (from to : Node) (bytes advice : List ℕ) (c : Carries ctx w bytes) (why : Refusal) → Reached ctx given w → Posted ctx given w → IsFor ctx given from to c.envelope
    → asks_at w to ≡ true → on_node ctx w to (Adjudicate from bytes advice) ≡ Refused why → MayMeetAt true why
node_advised ctx given w from (Pharmacy n) bytes advice c why r p f asks e = absurd (Rattle.std.proofs.lemmas.Bool.false≢true asks)
node_advised ctx given w from (Switch m) bytes advice c why r p f asks e = absurd (Rattle.std.proofs.lemmas.Bool.false≢true asks)
node_advised ctx given w from (Payer n) bytes advice c why r p f asks e =
    let in' = r.accepts.routes c.envelope.id.number (route_key f.0.header) n f.0.routed in
    let s = numbered_exists w.payers n in'.0 (omega (arith, in'.1, p.payers)) in
    on_payer_advised ctx given w n from bytes advice c why (numbered w.payers n) s.0 r.laws p.sound f.0 refl s.1 asks e

delivered_refusal : (ctx : Context) (given : WorldSettings) (w : World) (k : ℕ) (o : Option Packet) (why : Refusal) → Reached ctx given w → Posted ctx given w → numbered w.packets k ≡ o → delivered ctx w o ≡ Refused why → MayMeetAt (is_asking w o) why
delivered_refusal ctx given w k None why r p is e = inl (subst MayMeet (refused_same NoSuchPacket why e) tt)
delivered_refusal ctx given w k (Some q) why r p is e =
    let c : Carries ctx w q.bytes = all_at (SoundPacket ctx w) w.packets k q p.sound.packets is in
    let a : Addressed ctx given q = all_at (Addressed ctx given) w.packets k q p.packets is in
    node_refusal ctx given w q.from q.to q.bytes c why r p (a c.envelope (carries_reads ctx w q.bytes r.laws c)) e

adjudicated_refusal : (ctx : Context) (given : WorldSettings) (w : World) (k : ℕ) (advice : List ℕ) (o : Option Packet) (why : Refusal) → Reached ctx given w → Posted ctx given w → numbered w.packets k ≡ o → is_asking w o ≡ true
    → adjudicated ctx w advice o ≡ Refused why → MayMeetAt true why
adjudicated_refusal ctx given w k advice None why r p is asks e = absurd (Rattle.std.proofs.lemmas.Bool.false≢true asks)
adjudicated_refusal ctx given w k advice (Some q) why r p is asks e =
    let c : Carries ctx w q.bytes = all_at (SoundPacket ctx w) w.packets k q p.sound.packets is in
    let a : Addressed ctx given q = all_at (Addressed ctx given) w.packets k q p.packets is in
    node_advised ctx given w q.from q.to q.bytes advice c why r p (a c.envelope (carries_reads ctx w q.bytes r.laws c)) asks e

pub adjudications_meet : (ctx : Context) (given : WorldSettings) (w : World) → Reached ctx given w → AdjudicationsMeet ctx w
unfolding step
adjudications_meet ctx given w r = λ k advice why asks e. adjudicated_refusal ctx given w k advice (numbered w.packets k) why r (reached_posts ctx given w r) refl asks e

pub deliveries_meet : (ctx : Context) (given : WorldSettings) (w : World) → Reached ctx given w → DeliveriesMeet ctx w
unfolding step
deliveries_meet ctx given w r = λ k why e. delivered_refusal ctx given w k (numbered w.packets k) why r (reached_posts ctx given w r) refl e

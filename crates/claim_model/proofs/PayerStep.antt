-- A payer's step keeps a world sound.
use Rattle.std.proofs.Common.{◌≡◌, ℕ, zero, suc, ◌<◌, ◌≤◌, Bool, true, false, cond, List, [], ◌∷◌, ◌++◌, length, Option, Some, None, Result, Ok, Err, refl, sym, ap, ◌∙◌, subst, arith}
use Rattle.std.specs.Prelude.{bytes_eq, nat_lt, option_map, option_and_then}
use Rattle.std.specs.List.{AllByRecursion, list_all}
use Rattle.std.proofs.lemmas.Bool.{cond-true}
use Rattle.claim_model.specs.Words.{Advice, TxnId, RequestHeader, Envelope, Plan, PlanFault, Answer}
use Rattle.claim_model.specs.Context.{Context}
use Rattle.claim_model.specs.Laws.{Laws, IsEnvelope, AdvisesWell, IsRuling}
use Rattle.claim_model.specs.Readable.{readable, payer_for, is_payer, answer_text, rulings_in, same_id, answer_envelope, is_request}
use Rattle.claim_model.specs.Refusal.{Refusal}
use Rattle.claim_model.specs.Numbered.{numbered}
use Rattle.claim_model.specs.Judgement.{Verdict, verdict_in}
use Rattle.claim_model.specs.Rows.{Row, BookSettings, Book, ruled_rows}
use Rattle.claim_model.specs.Book.{serial_fits, row_of, new_row, has_verdicts, unadvised, Answered, entered_row, answered_by, answered_readable, answered}
use Rattle.claim_model.specs.Node.{Node, Power, Up, AtRest, Sent, Call, Submit, Tick, Take, Stop, Start, Revise, OfPlan, OfRule, OfCap, Adjudicate, Outcome, Done, Refused, after_answer, payer_takes, advice_in, after_reprice, payer_step}
use Rattle.claim_model.specs.World.{World}
use Rattle.claim_model.specs.Settings.{WorldSettings, Accepts}
use Rattle.claim_model.specs.Held.{book_in, asked, row_at, decided}
use Rattle.claim_model.specs.Carried.{Carries, IsVouched}
use Rattle.claim_model.proofs.Lists.{numbered_put, find_append, find_beyond, all_append, all_weaker}
use Rattle.claim_model.proofs.Options.{same_some, same_ok, cond_ok}
use Rattle.claim_model.proofs.Tests.{bytes_same, id_self, payer_same}
use Rattle.claim_model.proofs.Given.{payer_given}
use Rattle.claim_model.proofs.Written.{MayPay, rulings_written, length_rulings, rows_written}
use Rattle.claim_model.proofs.Sound.{SoundRow, SoundBook, Sound, Later, RowsStay, with_payer, payer_later, row_later, sound_payer}
use Rattle.claim_model.proofs.Decided.{row_spells, decided_routed}
use Rattle.claim_model.proofs.PharmacyStep.{carries_reads, Kept_sound, done_same}
use Rattle.claim_model.proofs.SwitchStep.{request_says}

abbrev pub with_row : Book → Row → Book
with_row b row = record { payer = b.payer; settings = b.settings; plan = b.plan; rows = b.rows ++ row ∷ [] }

-- what a request makes of a book: its row was there, or it is entered as a new one
pub data Rows (ctx : Context) (b : Book) (advice : Advice) (id : TxnId) (request : List ℕ) (h : RequestHeader) (a : Answered) : Type 0 where
  Known : (row : Row) → row_of id b.rows ≡ Some row → row.request ≡ request → a.book ≡ b → a.bytes ≡ answer_text ctx h row → Rows ctx b advice id request h a
  New : row_of id b.rows ≡ None → list_all serial_fits (new_row ctx b advice id request).rulings ≡ true → has_verdicts ctx b advice id request ≡ true → a.book ≡ with_row b (new_row ctx b advice id request)
      → a.bytes ≡ answer_text ctx h (new_row ctx b advice id request) → Rows ctx b advice id request h a

-- an answered request is readable and routed to this payer
pub record Ruled_on (ctx : Context) (b : Book) (advice : Advice) (id : TxnId) (request : List ℕ) (a : Answered) : Type 0 where
  pub header : RequestHeader
  pub reads : readable ctx request ≡ Some header
  pub routed : payer_for ctx id header ≡ Some b.payer
  pub rows : Rows ctx b advice id request header a

entered_rows : (ctx : Context) (b : Book) (advice : Advice) (id : TxnId) (request : List ℕ) (h : RequestHeader) (a : Answered) → row_of id b.rows ≡ None
    → entered_row ctx b h (has_verdicts ctx b advice id request) (new_row ctx b advice id request) ≡ Ok a → Rows ctx b advice id request h a
entered_rows ctx b advice id request h a fresh e =
    let p = cond_ok (list_all serial_fits (new_row ctx b advice id request).rulings) _ Refusal.SerialsUsedUp a e in
    let q = cond_ok (has_verdicts ctx b advice id request) _ Refusal.NotAdvised a p.1 in
    let same = same_ok _ a q.1 in
    New fresh p.0 q.0 (ap (λ (x : Answered). x.book) (sym same)) (ap (λ (x : Answered). x.bytes) (sym same))

by_rows : (ctx : Context) (b : Book) (advice : Advice) (id : TxnId) (request : List ℕ) (h : RequestHeader) (a : Answered) (o : Option Row) → row_of id b.rows ≡ o → answered_by ctx b advice id request h o ≡ Ok a → Rows ctx b advice id request h a
by_rows ctx b advice id request h a (Some row) is e =
    let p = cond_ok (bytes_eq row.request request) _ Refusal.NumberReused a e in
    let same = same_ok _ a p.1 in
    Known row is (bytes_same row.request request p.0) (ap (λ (x : Answered). x.book) (sym same)) (ap (λ (x : Answered). x.bytes) (sym same))
by_rows ctx b advice id request h a None is e =
    let p = cond_ok (nat_lt (length b.rows) b.settings.cap) (entered_row ctx b h (has_verdicts ctx b advice id request) (new_row ctx b advice id request)) Refusal.BookFull a e in
    entered_rows ctx b advice id request h a is p.1

readable_rows : (ctx : Context) (b : Book) (advice : Advice) (id : TxnId) (request : List ℕ) (a : Answered) (o : Option RequestHeader) → readable ctx request ≡ o → answered_readable ctx b advice id request o ≡ Ok a → Ruled_on ctx b advice id request a
readable_rows ctx b advice id request a None is e = absurd cc
readable_rows ctx b advice id request a (Some h) is e =
    let p = cond_ok (is_payer b.payer (payer_for ctx id h)) (answered_by ctx b advice id request h (row_of id b.rows)) Refusal.NotOurs a e in
    record { header = h; reads = is; routed = payer_same b.payer (payer_for ctx id h) p.0; rows = by_rows ctx b advice id request h a (row_of id b.rows) refl p.1 }

-- what an answered request says of the book
pub answered_ruled : (ctx : Context) (b : Book) (advice : Advice) (id : TxnId) (request : List ℕ) (a : Answered) → answered ctx b advice id request ≡ Ok a → Ruled_on ctx b advice id request a
unfolding answered
answered_ruled ctx b advice id request a e = readable_rows ctx b advice id request a (readable ctx request) refl e

-- the book of a sound world may pay
pub may_pay : (ctx : Context) (given : WorldSettings) (w : World) (n : ℕ) (b : Book) → Accepts ctx given → SoundBook ctx given w n b → MayPay b
may_pay ctx given w n b accepts x =
    let g = payer_given ctx given n x.given_as accepts x.stands in
    let s : 0 < b.settings.serial = subst (λ (q : BookSettings). 0 < q.serial) x.settings g.2.serial in
    record { payer = omega (arith, x.payer, g.0); payer_fits = omega (arith, x.payer, g.1); serial = s }

-- the row that is entered can be written
pub new_row_written : (ctx : Context) (given : WorldSettings) (w : World) (n : ℕ) (b : Book) (advice : Advice) (id : TxnId) (request : List ℕ) (h : RequestHeader) → AdvisesWell advice.rulings → Laws ctx → Accepts ctx given → SoundBook ctx given w n b
    → readable ctx request ≡ Some h → list_all serial_fits (new_row ctx b advice id request).rulings ≡ true
    → (length (new_row ctx b advice id request).rulings ≡ h.count) × AllByRecursion IsRuling (new_row ctx b advice id request).rulings
new_row_written ctx given w n b advice id request h well laws accepts x reads fits = (
  length_rulings ctx b advice (ruled_rows ctx b.rows) id 1 (ctx.orders request) ∙ laws.groups request h reads,
  rulings_written ctx laws b advice (ruled_rows ctx b.rows) h id 1 (ctx.orders request) well (may_pay ctx given w n b accepts x)
      (rows_written ctx b.rows (all_weaker (SoundRow ctx w n b.rows) _ (λ row s. s.written) b.rows x.rows)) (laws.orders request h reads) fits,
)

row_stays_there : (b : Book) (row : Row) → RowsStay b (with_row b row)
row_stays_there b row id r e = find_append _ b.rows (row ∷ []) r e

-- a step that keeps all rows

same_rows_book : (ctx : Context) (given : WorldSettings) (w v : World) (n : ℕ) (b after : Book) → Later ctx w v → after.rows ≡ b.rows → after.payer ≡ b.payer → after.settings ≡ b.settings
    → SoundBook ctx given w n b → SoundBook ctx given v n after
same_rows_book ctx given w v n b after l rows payer settings x =
    record {
      payer = payer ∙ x.payer;
      given_as = x.given_as;
      stands = x.stands;
      settings = x.settings ∙ sym settings;
      rows = subst (λ (rs : List Row). AllByRecursion (SoundRow ctx v n rs) rs) (sym rows) (all_weaker (SoundRow ctx w n b.rows) (SoundRow ctx v n b.rows) (row_later ctx w v l n b.rows) b.rows x.rows);
    }

same_rows_stay : (b after : Book) → after.rows ≡ b.rows → RowsStay b after
same_rows_stay b after e id row h = subst (λ (rs : List Row). row_of id rs ≡ Some row) (sym e) h

quiet_payer : (ctx : Context) (given : WorldSettings) (w : World) (n : ℕ) (s next : Power Book Book) → Sound ctx given w → numbered w.payers n ≡ Some s
    → (book_in next).rows ≡ (book_in s).rows → (book_in next).payer ≡ (book_in s).payer → (book_in next).settings ≡ (book_in s).settings → Kept_sound ctx given w (with_payer w n next [])
quiet_payer ctx given w n s next x is rows payer settings =
    let v : World = with_payer w n next [] in
    let l : Later ctx w v = payer_later ctx w n s next [] is (same_rows_stay (book_in s) (book_in next) rows) in
    record { sound = sound_payer ctx given w n s next [] x is l (same_rows_book ctx given w v n (book_in s) (book_in next) l rows payer settings (x.payers n s is)) tt; later = l }

-- a request

-- the row of an id in a payer's book
there_in : (w : World) (n : ℕ) (s next : Power Book Book) (sent : List Sent) (id : TxnId) (row : Row) → numbered w.payers n ≡ Some s → row_of id (book_in next).rows ≡ Some row → row_at (with_payer w n next sent) n id ≡ Some row
there_in w n s next sent id row is e = ap (λ (o : Option (Power Book Book)). option_and_then (λ (b : Book). row_of id b.rows) (option_map book_in o)) (numbered_put w.payers n s next is) ∙ e

new_found : (b : Book) (row : Row) → row_of row.id b.rows ≡ None → row_of row.id (b.rows ++ row ∷ []) ≡ Some row
new_found b row fresh = find_beyond _ b.rows (row ∷ []) fresh ∙ cond-true (same_id row.id row.id) (Some row) None (id_self row.id)

-- an answer to the id of a carried request is carried
carries_reply : (ctx : Context) (v : World) (e : Envelope) (a : List ℕ) → IsEnvelope e → length a ≤ 32768 → decided ctx v e.id ≡ Some a → Carries ctx v (ctx.envelope (answer_envelope e.id a))
carries_reply ctx v e a fits short d =
    record {
      envelope = answer_envelope e.id a;
      fits = record { pharmacy = fits.pharmacy; pharmacy_fits = fits.pharmacy_fits; number = fits.number; number_fits = fits.number_fits; payload = short };
      spells = refl;
      says = d;
    }

answer_step : (ctx : Context) (given : WorldSettings) (w : World) (n : ℕ) (b : Book) (advice : Advice) (from : Node) (bytes : List ℕ) (c : Carries ctx w bytes) (a : Answered)
    → AdvisesWell advice.rulings → Laws ctx → Accepts ctx given → Sound ctx given w → numbered w.payers n ≡ Some (Up b) → asked w c.envelope.id ≡ Some c.envelope.payload
    → (r : Ruled_on ctx b advice c.envelope.id c.envelope.payload a) → Rows ctx b advice c.envelope.id c.envelope.payload r.header a
    → Kept_sound ctx given w (with_payer w n (Up a.book) (record { to = from; bytes = ctx.envelope (answer_envelope c.envelope.id a.bytes) } ∷ []))
answer_step ctx given w n b advice from bytes c a well laws accepts x is asks r (Known row found same book text) =
    let id : TxnId = c.envelope.id in
    let sent : List Sent = record { to = from; bytes = ctx.envelope (answer_envelope id a.bytes) } ∷ [] in
    let v : World = with_payer w n (Up a.book) sent in
    let sb : SoundBook ctx given w n b = x.payers n (Up b) is in
    let l : Later ctx w v = payer_later ctx w n (Up b) (Up a.book) sent is (subst (RowsStay b) (sym book) (λ i q h. h)) in
    let s : SoundRow ctx w n b.rows row = Rattle.claim_model.proofs.Lists.find_all (SoundRow ctx w n b.rows) _ b.rows row sb.rows found in
    let there : row_at v n id ≡ Some row = there_in w n (Up b) (Up a.book) sent id row is (subst (λ (q : Book). row_of id q.rows ≡ Some row) (sym book) found) in
    let d : decided ctx v id ≡ Some (answer_text ctx r.header row) =
    decided_routed ctx v id c.envelope.payload r.header n row (l.asks id c.envelope.payload asks) r.reads (r.routed ∙ ap (λ (k : ℕ). Some k) sb.payer) there same in
    let same_header : s.header ≡ r.header = same_some _ _ (sym s.reads ∙ (ap (readable ctx) same ∙ r.reads)) in
    let short = (row_spells ctx c.envelope.payload r.header row laws r.reads (s.count ∙ ap (λ (h : RequestHeader). h.count) same_header) s.written).short in
    let reply : Carries ctx v (ctx.envelope (answer_envelope id a.bytes)) =
    subst (λ (t : List ℕ). Carries ctx v (ctx.envelope (answer_envelope id t))) (sym text) (carries_reply ctx v c.envelope (answer_text ctx r.header row) c.fits short d) in
    record {
      sound = sound_payer ctx given w n (Up b) (Up a.book) sent x is l (same_rows_book ctx given w v n b a.book l (ap (λ (q : Book). q.rows) book) (ap (λ (q : Book). q.payer) book) (ap (λ (q : Book). q.settings) book) sb) (reply, tt);
      later = l;
    }
answer_step ctx given w n b advice from bytes c a well laws accepts x is asks r (New fresh fits advised book text) =
    let id : TxnId = c.envelope.id in
    let request : List ℕ = c.envelope.payload in
    let row : Row = new_row ctx b advice id request in
    let sent : List Sent = record { to = from; bytes = ctx.envelope (answer_envelope id a.bytes) } ∷ [] in
    let v : World = with_payer w n (Up a.book) sent in
    let sb : SoundBook ctx given w n b = x.payers n (Up b) is in
    let l : Later ctx w v = payer_later ctx w n (Up b) (Up a.book) sent is (subst (RowsStay b) (sym book) (row_stays_there b row)) in
    let written = new_row_written ctx given w n b advice id request r.header well laws accepts sb r.reads fits in
    let found : row_of id (b.rows ++ row ∷ []) ≡ Some row = new_found b row fresh in
    let routed : payer_for ctx id r.header ≡ Some n = r.routed ∙ ap (λ (k : ℕ). Some k) sb.payer in
    let asks_v : asked v id ≡ Some request = l.asks id request asks in
    let new_sound : SoundRow ctx v n (b.rows ++ row ∷ []) row =
    record { asks = asks_v; header = r.header; reads = r.reads; routed = routed; found = found; count = written.0; written = written.1 } in
    let old_sound : AllByRecursion (SoundRow ctx v n (b.rows ++ row ∷ [])) b.rows =
    all_weaker (SoundRow ctx w n b.rows) (SoundRow ctx v n (b.rows ++ row ∷ []))
    (λ q s. record { asks = l.asks q.id q.request s.asks; header = s.header; reads = s.reads; routed = s.routed; found = find_append _ b.rows (row ∷ []) q s.found; count = s.count; written = s.written })
    b.rows sb.rows in
    let after : SoundBook ctx given v n (with_row b row) =
    record { payer = sb.payer; given_as = sb.given_as; stands = sb.stands; settings = sb.settings; rows = all_append (SoundRow ctx v n (b.rows ++ row ∷ [])) b.rows (row ∷ []) old_sound (new_sound, tt) } in
    let there : row_at v n id ≡ Some row = there_in w n (Up b) (Up a.book) sent id row is (subst (λ (q : Book). row_of id q.rows ≡ Some row) (sym book) found) in
    let d : decided ctx v id ≡ Some (answer_text ctx r.header row) = decided_routed ctx v id request r.header n row asks_v r.reads routed there refl in
    let short = (row_spells ctx request r.header row laws r.reads written.0 written.1).short in
    let reply : Carries ctx v (ctx.envelope (answer_envelope id a.bytes)) =
    subst (λ (t : List ℕ). Carries ctx v (ctx.envelope (answer_envelope id t))) (sym text) (carries_reply ctx v c.envelope (answer_text ctx r.header row) c.fits short d) in
    record {
      sound = sound_payer ctx given w n (Up b) (Up a.book) sent x is l (subst (SoundBook ctx given v n) (sym book) after) (reply, tt);
      later = l;
    }

-- all calls

moved_payer : (ctx : Context) (given : WorldSettings) (w : World) (n : ℕ) (a next : Power Book Book) (b sent : List Sent) → a ≡ next → b ≡ sent
    → Kept_sound ctx given w (with_payer w n a b) → Kept_sound ctx given w (with_payer w n next sent)
moved_payer ctx given w n a next b sent e f k = subst (λ y. Kept_sound ctx given w (with_payer w n next y)) f (subst (λ y. Kept_sound ctx given w (with_payer w n y b)) e k)

pub after_answer_done : (ctx : Context) (from : Node) (id : TxnId) (r : Result Answered Refusal) (next : Power Book Book) (sent : List Sent) → after_answer ctx from id r ≡ Done next sent
    → (a : Answered) × (r ≡ Ok a) × (Up a.book ≡ next) × (record { to = from; bytes = ctx.envelope (answer_envelope id a.bytes) } ∷ [] ≡ sent)
after_answer_done ctx from id (Err f) next sent e = absurd cc
after_answer_done ctx from id (Ok a) next sent e = (a, refl, cc, cc)

pub takes_parts : (b : Bool) (o : Outcome (Power Book Book)) (next : Power Book Book) (sent : List Sent) → cond b o (Refused Refusal.Unreadable) ≡ Done next sent → (b ≡ true) × (o ≡ Done next sent)
takes_parts true o next sent e = (refl, e)
takes_parts false o next sent e = absurd cc

repriced : (ctx : Context) (given : WorldSettings) (w : World) (n : ℕ) (b : Book) (next : Power Book Book) (sent : List Sent) (r : Result Plan PlanFault) → Sound ctx given w → numbered w.payers n ≡ Some (Up b)
    → after_reprice b r ≡ Done next sent → Kept_sound ctx given w (with_payer w n next sent)
repriced ctx given w n b next sent (Err f) x is e = absurd cc
repriced ctx given w n b next sent (Ok plan) x is e =
    let after : Book = record { payer = b.payer; settings = b.settings; plan = plan; rows = b.rows } in
    let d = done_same (Up after) next [] sent e in
    moved_payer ctx given w n (Up after) next [] sent d.0 d.1 (quiet_payer ctx given w n (Up b) (Up after) x is refl refl refl)

-- a payer that takes an advice asks
pub asked_first : (b : Bool) (o : Outcome (Power Book Book)) (next : Power Book Book) (sent : List Sent) → cond b o (Refused Refusal.NotAsked) ≡ Done next sent → (b ≡ true) × (o ≡ Done next sent)
asked_first true o next sent e = (refl, e)
asked_first false o next sent e = absurd cc

pub unadvised_well : AdvisesWell unadvised.rulings
unadvised_well place claimed v e = absurd (nothing place v e)
  where
    nothing : (place : ℕ) (v : Verdict) → verdict_in claimed (numbered unadvised.rulings place) ≡ Some v → ⊥
    nothing zero v e = cc
    nothing (suc k) v e = cc

-- what an answer that is read advises can be written
pub advises_well : (ctx : Context) → Laws ctx → (o : Option Answer) (advice : List ℕ) → ctx.read_advice advice ≡ o → AdvisesWell (rulings_in o)
advises_well ctx laws None advice is = unadvised_well
advises_well ctx laws (Some answer) advice is = laws.advices advice answer is

takes_sound : (ctx : Context) (given : WorldSettings) (w : World) (n : ℕ) (b : Book) (advice : Advice) (from : Node) (bytes : List ℕ) (next : Power Book Book) (sent : List Sent)
    → AdvisesWell advice.rulings → Laws ctx → Accepts ctx given → Sound ctx given w → numbered w.payers n ≡ Some (Up b) → (c : Carries ctx w bytes) → payer_takes ctx b advice from (ctx.read_envelope bytes) ≡ Done next sent
    → Kept_sound ctx given w (with_payer w n next sent)
takes_sound ctx given w n b advice from bytes next sent well laws accepts x is c e =
    let t = takes_parts (is_request c.envelope) (after_answer ctx from c.envelope.id (answered ctx b advice c.envelope.id c.envelope.payload)) next sent (ap (payer_takes ctx b advice from) (sym (carries_reads ctx w bytes laws c)) ∙ e) in
    let d = after_answer_done ctx from c.envelope.id (answered ctx b advice c.envelope.id c.envelope.payload) next sent t.1 in
    let r = answered_ruled ctx b advice c.envelope.id c.envelope.payload d.0 d.1 in
    moved_payer ctx given w n (Up d.0.book) next _ sent d.2 d.3
    (answer_step ctx given w n b advice from bytes c d.0 well laws accepts x is (request_says ctx w bytes c t.0) r r.rows)

pub payer_sound : (ctx : Context) (given : WorldSettings) (w : World) (n : ℕ) (s next : Power Book Book) (call : Call) (sent : List Sent)
    → Laws ctx → Accepts ctx given → Sound ctx given w → numbered w.payers n ≡ Some s → IsVouched ctx w call → payer_step ctx s call ≡ Done next sent
    → Kept_sound ctx given w (with_payer w n next sent)
payer_sound ctx given w n (Up b) next (Take from bytes) sent laws accepts x is c e = takes_sound ctx given w n b unadvised from bytes next sent unadvised_well laws accepts x is c e
payer_sound ctx given w n (Up b) next (Adjudicate from bytes advice) sent laws accepts x is c e =
    takes_sound ctx given w n b (advice_in ctx advice) from bytes next sent (advises_well ctx laws (ctx.read_advice advice) advice refl) laws accepts x is c (asked_first b.settings.asks _ next sent e).1
payer_sound ctx given w n (Up b) next Stop sent laws accepts x is c e =
    let d = done_same (AtRest b) next [] sent e in
    moved_payer ctx given w n (AtRest b) next [] sent d.0 d.1 (quiet_payer ctx given w n (Up b) (AtRest b) x is refl refl refl)
payer_sound ctx given w n (Up b) next (Revise (OfPlan change)) sent laws accepts x is c e = repriced ctx given w n b next sent (ctx.reprice b.plan change) x is e
payer_sound ctx given w n (Up b) next (Revise (OfRule rule)) sent laws accepts x is c e = absurd cc
payer_sound ctx given w n (Up b) next (Revise (OfCap most)) sent laws accepts x is c e = absurd cc
payer_sound ctx given w n (AtRest b) next Start sent laws accepts x is c e =
    let d = done_same (Up b) next [] sent e in
    moved_payer ctx given w n (Up b) next [] sent d.0 d.1 (quiet_payer ctx given w n (AtRest b) (Up b) x is refl refl refl)
payer_sound ctx given w n (Up b) next (Submit text) sent laws accepts x is c e = absurd cc
payer_sound ctx given w n (Up b) next Tick sent laws accepts x is c e = absurd cc
payer_sound ctx given w n (Up b) next Start sent laws accepts x is c e = absurd cc
payer_sound ctx given w n (AtRest b) next (Submit text) sent laws accepts x is c e = absurd cc
payer_sound ctx given w n (AtRest b) next Tick sent laws accepts x is c e = absurd cc
payer_sound ctx given w n (AtRest b) next (Take from bytes) sent laws accepts x is c e = absurd cc
payer_sound ctx given w n (AtRest b) next Stop sent laws accepts x is c e = absurd cc
payer_sound ctx given w n (AtRest b) next (Revise (OfPlan change)) sent laws accepts x is c e = absurd cc
payer_sound ctx given w n (AtRest b) next (Revise (OfRule rule)) sent laws accepts x is c e = absurd cc
payer_sound ctx given w n (AtRest b) next (Revise (OfCap most)) sent laws accepts x is c e = absurd cc
payer_sound ctx given w n (AtRest b) next (Adjudicate from bytes advice) sent laws accepts x is c e = absurd cc

-- A request that wants a serial where none is left, and what a change of plan does for it.
use Rattle.std.proofs.Common.{◌≡◌, ℕ, zero, suc, ◌<◌, Bool, true, false, cond, List, [], ◌∷◌, ◌++◌, length, Option, Some, None, Result, Ok, Err, slice_get, refl, sym, ap, ◌∙◌, subst, ◌⊎◌, inl, inr}
use Rattle.std.specs.Prelude.{⊤, option_map, option_and_then}
use Rattle.std.specs.List.{AllByRecursion, list_all}
use Rattle.std.proofs.lemmas.Bool.{cond-true}
use Rattle.claim_model.specs.Words.{Advice, TxnId, RequestHeader, Envelope, EnvelopeFault, Plan, Code, Claim, Amounts, Bills, Ruling, Change}
use Rattle.claim_model.specs.Context.{Context}
use Rattle.claim_model.specs.Readable.{payer_for, same_id, is_request}
use Rattle.claim_model.specs.Numbered.{numbered}
use Rattle.claim_model.specs.Rows.{Row, Book, ruled_row, ruled_rows}
use Rattle.claim_model.specs.Judgement.{standing_for, next_serial}
use Rattle.claim_model.specs.Book.{last_serial, serial_fits, row_of, new_row, unadvised, Answered, answered}
use Rattle.claim_model.specs.Journal.{JournalAtRest}
use Rattle.claim_model.specs.Node.{Node, Power, Up, AtRest, Sent, Call, Submit, Tick, Take, Stop, Start, Revise, OfPlan, Payer, Adjudicate, Done, after_answer, payer_takes, advice_in, after_reprice}
use Rattle.claim_model.specs.World.{World, Event, Submission, Ticking, Delivery, Stopping, Starting, Revising, Adjudication, step, run, world_after}
use Rattle.claim_model.specs.Settings.{WorldSettings}
use Rattle.claim_model.specs.Held.{book_in, journal_at, book_at, row_at, asked}
use Rattle.claim_model.specs.Promises.{Reached}
use Rattle.claim_model.proofs.Lists.{numbered_put, find_beyond, find_append}
use Rattle.claim_model.proofs.Options.{same_some}
use Rattle.claim_model.proofs.Tests.{id_self}
use Rattle.claim_model.proofs.Sound.{with_payer}
use Rattle.claim_model.proofs.PharmacyStep.{done_same}
use Rattle.claim_model.proofs.PayerStep.{Rows, Known, New, answered_ruled, after_answer_done, takes_parts, asked_first}
use Rattle.claim_model.proofs.Deliverable.{unasked_advised}
use Rattle.claim_model.proofs.Decided.{row_there}
use Rattle.claim_model.proofs.Held.{book_sound}
use Rattle.claim_model.proofs.Runs.{reached_sound}
use Rattle.claim_recovery.specs.Help.{Timely}
use Rattle.claim_recovery.specs.Recovered.{IsOpen, ByDelivery, Answerable, one_row_more}
use Rattle.claim_recovery.specs.Room.{IsAskedOf, Never, KeepsPlan, WantsSerial, PaysNone, with_plan, RejectedAfter}
use Rattle.claim_recovery.proofs.Paths.{reached_on}
use Rattle.claim_recovery.proofs.Forward.{on_payer_forward}
use Rattle.claim_recovery.proofs.Serials.{wanted_refused, StillUsed, still_used, NonePriced, unpriced_fit, unpriced_rejected}
use Rattle.claim_recovery.proofs.Rooms.{answers_new}
use Rattle.claim_recovery.proofs.Nevers.{Holds, CallsFor, Keeps, holds_on, asked_on, never_by}
use Rattle.claim_recovery.proofs.Recoveries.{recovered}
use Rattle.claim_model.proofs.Ledger.{ruled_rows_more}

-- ---- a book whose serials are used up

-- the claim wants a serial of this book, none is left, and no row of the id has the request
pub record IsUsedUp (ctx : Context) (id : TxnId) (request : List ℕ) (c : Claim) (m : Amounts) (b : Book) : Type 0 where
  pub by_plan : b.settings.asks ≡ false
  pub price : ctx.price b.plan c ≡ Some m
  pub used : last_serial < next_serial b (ruled_rows ctx b.rows)
  pub none : standing_for c.fill (ruled_rows ctx b.rows) ≡ None
  pub rows : (row : Row) → row_of id b.rows ≡ Some row → row.request ≡ request → ⊥

-- a row of the id was there, or is the new one
row_cases : (id : TxnId) (rows : List Row) (row x : Row) (o : Option Row) → row_of id rows ≡ o → row_of id (rows ++ row ∷ []) ≡ Some x → (row_of id rows ≡ Some x) ⊎ (x ≡ row)
row_cases id rows row x (Some y) is e = inl (is ∙ (sym (find_append _ rows (row ∷ []) y is) ∙ e))
row_cases id rows row x None is e = go (same_id row.id id) (sym (find_beyond _ rows (row ∷ []) is) ∙ e)
  where
    go : (b : Bool) → cond b (Some row) None ≡ Some x → (row_of id rows ≡ Some x) ⊎ (x ≡ row)
    go true h = inr (sym (same_some row x h))
    go false h = absurd cc

used_rows : (ctx : Context) (id : TxnId) (request : List ℕ) (c : Claim) (m : Amounts) (k : ℕ) (b : Book) (advice : Advice) (i : TxnId) (r : List ℕ) (h : RequestHeader) (a : Answered) → slice_get (ctx.orders request) k ≡ Some (Ok (Bills c)) → IsUsedUp ctx id request c m b → Rows ctx b advice i r h a → IsUsedUp ctx id request c m a.book
used_rows ctx id request c m k b advice i r h a at u (Known row found same book text) = subst (IsUsedUp ctx id request c m) (sym book) u
used_rows ctx id request c m k b advice i r h a at u (New fresh fits advised book text) =
    let row : Row = new_row ctx b advice i r in
    let still : StillUsed b c (ruled_rows ctx b.rows ++ ruled_row ctx row) = still_used ctx b advice (ruled_rows ctx b.rows) i 1 (ctx.orders r) c u.used u.none fits in
    let more : StillUsed b c (ruled_rows ctx (b.rows ++ row ∷ [])) = subst (StillUsed b c) (sym (ruled_rows_more ctx b.rows row)) still in
    subst (IsUsedUp ctx id request c m) (sym book)
    (record {
      by_plan = u.by_plan;
      price = u.price;
      used = more.used;
      none = more.none;
      rows = λ x found same. elim (row_cases id b.rows row x (row_of id b.rows) refl found) [
        | inl old ↦ u.rows x old same
        | inr new ↦
            let request_is : r ≡ request = ap (λ (q : Row). q.request) (sym new) ∙ same in
            wanted_refused ctx b advice (ruled_rows ctx b.rows) i 1 k (ctx.orders r) c m u.by_plan u.used u.none u.price (subst (λ (q : List ℕ). slice_get (ctx.orders q) k ≡ Some (Ok (Bills c))) (sym request_is) at) fits
      ];
    })

used_takes : (ctx : Context) (id : TxnId) (request : List ℕ) (c : Claim) (m : Amounts) (k : ℕ) (b : Book) (advice : Advice) (from : Node) (o : Result Envelope EnvelopeFault) (next : Power Book Book) (sent : List Sent) → slice_get (ctx.orders request) k ≡ Some (Ok (Bills c)) → IsUsedUp ctx id request c m b
    → payer_takes ctx b advice from o ≡ Done next sent → IsUsedUp ctx id request c m (book_in next)
used_takes ctx id request c m k b advice from (Err fault) next sent at u e = absurd cc
used_takes ctx id request c m k b advice from (Ok env) next sent at u e =
    let t = takes_parts (is_request env) (after_answer ctx from env.id (answered ctx b advice env.id env.payload)) next sent e in
    let d = after_answer_done ctx from env.id (answered ctx b advice env.id env.payload) next sent t.1 in
    let r = answered_ruled ctx b advice env.id env.payload d.0 d.1 in
    subst (λ (x : Power Book Book). IsUsedUp ctx id request c m (book_in x)) d.2 (used_rows ctx id request c m k b advice env.id env.payload r.header d.0 at u r.rows)

abbrev NoReprice : Call → Type 0
NoReprice (Submit text) = ⊤
NoReprice Tick = ⊤
NoReprice (Take from bytes) = ⊤
NoReprice Stop = ⊤
NoReprice Start = ⊤
NoReprice (Revise change) = ⊥
NoReprice (Adjudicate from bytes advice) = ⊤

used_keeps : (ctx : Context) (id : TxnId) (request : List ℕ) (c : Claim) (m : Amounts) (k : ℕ) → slice_get (ctx.orders request) k ≡ Some (Ok (Bills c)) → Keeps ctx (IsUsedUp ctx id request c m) NoReprice
used_keeps ctx id request c m k at (Up b) next (Take from bytes) sent q u e = used_takes ctx id request c m k b unadvised from (ctx.read_envelope bytes) next sent at u e
used_keeps ctx id request c m k at (Up b) next (Adjudicate from bytes advice) sent q u e =
    used_takes ctx id request c m k b (advice_in ctx advice) from (ctx.read_envelope bytes) next sent at u (asked_first b.settings.asks _ next sent e).1
used_keeps ctx id request c m k at (Up b) next Stop sent q u e = subst (λ (x : Power Book Book). IsUsedUp ctx id request c m (book_in x)) (done_same (AtRest b) next [] sent e).0 u
used_keeps ctx id request c m k at (AtRest b) next Start sent q u e = subst (λ (x : Power Book Book). IsUsedUp ctx id request c m (book_in x)) (done_same (Up b) next [] sent e).0 u
used_keeps ctx id request c m k at (Up b) next (Revise change) sent q u e = absurd q
used_keeps ctx id request c m k at (Up b) next (Submit text) sent q u e = absurd cc
used_keeps ctx id request c m k at (Up b) next Tick sent q u e = absurd cc
used_keeps ctx id request c m k at (Up b) next Start sent q u e = absurd cc
used_keeps ctx id request c m k at (AtRest b) next (Submit text) sent q u e = absurd cc
used_keeps ctx id request c m k at (AtRest b) next Tick sent q u e = absurd cc
used_keeps ctx id request c m k at (AtRest b) next (Take from bytes) sent q u e = absurd cc
used_keeps ctx id request c m k at (AtRest b) next Stop sent q u e = absurd cc
used_keeps ctx id request c m k at (AtRest b) next (Revise change) sent q u e = absurd q
used_keeps ctx id request c m k at (AtRest b) next (Adjudicate from bytes advice) sent q u e = absurd cc

kept_calls : (payer : ℕ) (event : Event) → KeepsPlan payer event → CallsFor NoReprice payer event
kept_calls payer (Submission n text) h = tt
kept_calls payer (Ticking n) h = tt
kept_calls payer (Delivery k) h = λ from bytes. tt
kept_calls payer (Stopping node) h = tt
kept_calls payer (Starting node) h = tt
kept_calls payer (Revising node revision) h = λ same. absurd (h same)
kept_calls payer (Adjudication k advice) h = λ from bytes. tt

all_kept : (payer : ℕ) (events : List Event) → AllByRecursion (KeepsPlan payer) events → AllByRecursion (CallsFor NoReprice payer) events
all_kept payer [] h = tt
all_kept payer (event ∷ events) h = (kept_calls payer event h.0, all_kept payer events h.1)

none_some : {a : Row} → ◌≡◌ {A = Option Row} None (Some a) → ⊥
none_some h = cc

-- no row that the request could have means no row of its id
no_row : (ctx : Context) (given : WorldSettings) (w : World) (payer : ℕ) (id : TxnId) (request : List ℕ) (o : Option Row) → Reached ctx given w → asked w id ≡ Some request → row_at w payer id ≡ o → ((row : Row) → row_at w payer id ≡ Some row → row.request ≡ request → ⊥) → o ≡ None
no_row ctx given w payer id request None r asks is none = refl
no_row ctx given w payer id request (Some row) r asks is none =
    let t = row_there ctx given w payer id row (reached_sound ctx given w r) is in
    absurd (none row is (same_some _ _ (sym t.sound.asks ∙ (ap (asked w) t.same ∙ asks))))

used_by : (ctx : Context) (given : WorldSettings) (w : World) (id : TxnId) (request : List ℕ) (h : RequestHeader) (payer : ℕ) (b : Book) (place : ℕ) (c : Claim) (m : Amounts) → Reached ctx given w → IsAskedOf ctx w id request h payer b → row_of id b.rows ≡ None
    → last_serial < next_serial b (ruled_rows ctx b.rows) → numbered (ctx.orders request) place ≡ Some (Ok (Bills c)) → standing_for c.fill (ruled_rows ctx b.rows) ≡ None → ctx.price b.plan c ≡ Some m → b.settings.asks ≡ false → Never ctx w id (KeepsPlan payer)
used_by ctx given w id request h payer b zero c m r x fresh used at free price by_plan = absurd cc
used_by ctx given w id request h payer b (suc k) c m r x fresh used at free price by_plan = λ events node keeps.
    let v : World = run ctx w events in
    let u : Holds (IsUsedUp ctx id request c m) payer v =
    holds_on ctx (IsUsedUp ctx id request c m) NoReprice w payer events (used_keeps ctx id request c m k at) (all_kept payer events keeps)
    (record { book = b; there = x.book; holds = record { by_plan = by_plan; price = price; used = used; none = free; rows = λ row found same. none_some (sym fresh ∙ found) } }) in
    let there : row_at v payer id ≡ row_of id u.book.rows = ap (option_and_then (λ (q : Book). row_of id q.rows)) u.there in
    never_by ctx given w id request h payer b events node r x
    (no_row ctx given v payer id request (row_at v payer id) (reached_on ctx given w v events r refl) (asked_on ctx given w id request events r x.asks) refl (λ row found same. u.holds.rows row (sym there ∙ found) same))

pub used_never : (ctx : Context) (given : WorldSettings) (w : World) (id : TxnId) (request : List ℕ) (h : RequestHeader) (payer : ℕ) (b : Book) → Reached ctx given w → IsAskedOf ctx w id request h payer b → row_of id b.rows ≡ None
    → last_serial < next_serial b (ruled_rows ctx b.rows) → WantsSerial ctx b request → Never ctx w id (KeepsPlan payer)
used_never ctx given w id request h payer b r x fresh used wants = used_by ctx given w id request h payer b wants.place wants.claim wants.amounts r x fresh used wants.stands wants.no_payment wants.price wants.by_plan

-- ---- a change of plan

none_priced : (ctx : Context) (b : Book) (plan : Plan) (request : List ℕ) → PaysNone ctx plan request → NonePriced ctx (with_plan b plan) (ctx.orders request)
none_priced ctx b plan request none = λ k c at. none (suc k) c at

rejected_at : (ctx : Context) (b : Book) (plan : Plan) (id : TxnId) (request : List ℕ) (place : ℕ) (c : Claim) → b.settings.asks ≡ false → PaysNone ctx plan request → numbered (ctx.orders request) place ≡ Some (Ok (Bills c)) → standing_for c.fill (ruled_rows ctx b.rows) ≡ None
    → numbered (new_row ctx (with_plan b plan) unadvised id request).rulings place ≡ Some (Rattle.claim_model.specs.Words.Rejected (Code.NotCovered ∷ []))
rejected_at ctx b plan id request zero c by_plan none at free = absurd cc
rejected_at ctx b plan id request (suc k) c by_plan none at free = unpriced_rejected ctx (with_plan b plan) unadvised (ruled_rows ctx b.rows) id 1 k (ctx.orders request) c by_plan (none_priced ctx b plan request none) free at

changes_plan : (ctx : Context) (w : World) (payer : ℕ) (b : Book) (change : Change) (plan : Plan) → numbered w.payers payer ≡ Some (Up b) → ctx.reprice b.plan change ≡ Ok plan
    → step ctx w (Revising (Payer payer) (OfPlan change)) ≡ Done (with_payer w payer (Up (with_plan b plan)) []) []
unfolding step
changes_plan ctx w payer b change plan up e = on_payer_forward ctx w payer (Up b) (Up (with_plan b plan)) (Revise (OfPlan change)) [] up (ap (after_reprice b) e)

pub rejected_after : (ctx : Context) (given : WorldSettings) (w : World) (journal : JournalAtRest) (id : TxnId) (request : List ℕ) (h : RequestHeader) (payer : ℕ) (b : Book) (change : Change) (plan : Plan) → Reached ctx given w → Timely given → journal_at w id.pharmacy ≡ Some journal → IsOpen w id request
    → IsAskedOf ctx w id request h payer b → numbered w.payers payer ≡ Some (Up b) → row_of id b.rows ≡ None → b.settings.asks ≡ false → length b.rows < b.settings.cap → ctx.reprice b.plan change ≡ Ok plan → PaysNone ctx plan request → RejectedAfter ctx w journal id request payer b change plan
rejected_after ctx given w journal id request h payer b change plan r timely there o x up fresh by_plan room e none =
    let b' : Book = with_plan b plan in
    let v : World = with_payer w payer (Up b') [] in
    let changes : step ctx w (Revising (Payer payer) (OfPlan change)) ≡ Done v [] = changes_plan ctx w payer b change plan up e in
    let rv : Reached ctx given v = reached_on ctx given w v (Revising (Payer payer) (OfPlan change) ∷ []) r (ap (world_after w) changes) in
    let book : book_at v payer ≡ Some b' = ap (option_map book_in) (numbered_put w.payers payer (Up b) (Up b') up) in
    let route : payer_for ctx id h ≡ Some b'.payer = x.route ∙ ap (λ (k : ℕ). Some k) (sym (book_sound ctx given w payer b (reached_sound ctx given w r) x.book).payer) in
    let fits : list_all serial_fits (new_row ctx b' unadvised id request).rulings ≡ true = unpriced_fit ctx b' unadvised (ruled_rows ctx b'.rows) id 1 (ctx.orders request) by_plan (none_priced ctx b plan request none) in
    let answer : Answered = record { book = one_row_more ctx b' unadvised id request; bytes = Rattle.claim_model.specs.Readable.answer_text ctx h (new_row ctx b' unadvised id request); kept = false } in
    let answers : answered ctx b' unadvised id request ≡ Ok answer =
    answers_new ctx b' unadvised id request h x.reads route fresh room fits (unasked_advised ctx b' unadvised (ruled_rows ctx b'.rows) id 1 (ctx.orders request) by_plan) in
    let answerable : Answerable ctx v id request = λ header other reads its_route.
    let same_header : header ≡ h = same_some header h (sym reads ∙ x.reads) in
    let same : other ≡ payer = same_some other payer (sym its_route ∙ (ap (payer_for ctx id) same_header ∙ x.route)) in
    record { book = b'; there = ap (book_at v) same ∙ book; handed = ByDelivery; answer = answer; answers = answers } in
    record {
      world = v;
      changes = changes;
      recovered = recovered ctx given v id request journal rv timely there o answerable;
      answer = answer;
      answers = answers;
      row = find_beyond _ b.rows (new_row ctx b' unadvised id request ∷ []) fresh ∙ cond-true (same_id id id) (Some (new_row ctx b' unadvised id request)) None (id_self id);
      not_covered = λ place c at free. rejected_at ctx b plan id request place c by_plan none at free;
    }

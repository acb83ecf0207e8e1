-- A book answers a request that it has room and serials for.
use Rattle.std.proofs.Common.{◌≡◌, ℕ, zero, suc, ◌+◌, ◌<◌, Bool, true, false, cond, List, [], ◌∷◌, ◌++◌, length, nat_lt, Option, Some, None, Result, Ok, Err, refl, sym, ap, ◌∙◌, subst, arith}
use Rattle.std.specs.Prelude.{bytes_eq, option_map, is_some, IsSome, slice_get, replicate}
use Rattle.std.specs.List.{list_all}
use Rattle.std.proofs.lemmas.Bool.{cond-true, and_from}
use Rattle.std.proofs.lemmas.Bool.Decides.{nat_tests}
use Rattle.claim_model.specs.Words.{Advice, TxnId, RequestHeader, Claim, Reversal, Order, Bills, Reverses, Code, BadBin, Ruling, Rejected}
use Rattle.claim_model.specs.Laws.{Laws, Spells}
use Rattle.claim_model.specs.Numbered.{numbered}
use Rattle.claim_model.specs.Ruled.{Ruled, ruled}
use Rattle.claim_model.specs.Payments.{Payment}
use Rattle.claim_model.specs.Judgement.{same_claim, standing_for, payment_to_reverse, Unpriced, ToPrice, judged, judged_claim, judged_reversal, Verdict, planned, verdict_in, Consent, Allows, consent_in, asks_reversals, consent_of, ruling, is_advised, all_advised}
use Rattle.claim_model.specs.Node.{advice_in}
use Rattle.claim_model.specs.Context.{Context}
use Rattle.claim_model.specs.Readable.{readable, payer_for, is_payer, answer_text, rejection, rulings_in, route_key}
use Rattle.claim_model.specs.declared.refusal.Refusal.{Refusal}
use Rattle.claim_model.specs.Rows.{Row, BookSettings, Book, ruled_rows}
use Rattle.claim_model.specs.Book.{serial_fits, row_of, new_row, has_verdicts, unadvised, Answered, entered_row, answered_by, answered_readable, answered}
use Rattle.claim_model.specs.World.{World}
use Rattle.claim_model.specs.Settings.{WorldSettings}
use Rattle.claim_model.specs.Journal.{JournalAtRest}
use Rattle.claim_model.specs.Held.{book_in, journal_at, book_at, asked}
use Rattle.claim_model.specs.Promises.{Reached}
use Rattle.claim_model.proofs.Lists.{numbered_exists, numbered_within, find_all, find_passes}
use Rattle.claim_model.proofs.Posts.{Posted, reached_posts}
use Rattle.claim_model.proofs.Options.{same_some}
use Rattle.claim_model.proofs.Tests.{bytes_self, id_same, payer_self}
use Rattle.claim_model.proofs.Sound.{SoundRow, SoundBook}
use Rattle.claim_model.proofs.Held.{book_sound}
use Rattle.claim_model.proofs.Decided.{rejection_spells}
use Rattle.claim_model.proofs.Deliverable.{unasked_advised}
use Rattle.claim_model.proofs.Runs.{reached_sound}
use Rattle.claim_recovery.specs.Help.{Timely}
use Rattle.claim_recovery.specs.Recovered.{IsOpen, Handed, ByDelivery, ByAdvice, handed_with, WouldAnswer, Answerable, Recovered, one_row_more}
use Rattle.claim_recovery.specs.Room.{HasRoom, Advises, AdvisesAll, IsAskedOf, RoomInBook}
use Rattle.claim_recovery.proofs.Unchanged.{open_asked}
use Rattle.claim_recovery.proofs.Recoveries.{recovered}
use Rattle.claim_recovery.proofs.Serials.{rulings_fit}

-- what the book answers to a request that is routed to it
by_route : (ctx : Context) (b : Book) (advice : Advice) (id : TxnId) (request : List ℕ) (h : RequestHeader) (o : Option Row) (r : Result Answered Refusal) → readable ctx request ≡ Some h → payer_for ctx id h ≡ Some b.payer → row_of id b.rows ≡ o → answered_by ctx b advice id request h o ≡ r
    → answered ctx b advice id request ≡ r
unfolding answered
by_route ctx b advice id request h o r reads route is e =
    let test : is_payer b.payer (payer_for ctx id h) ≡ true = subst (λ (q : Option ℕ). is_payer b.payer q ≡ true) (sym route) (payer_self b.payer) in
    ap (answered_readable ctx b advice id request) reads
    ∙ (cond-true (is_payer b.payer (payer_for ctx id h)) (answered_by ctx b advice id request h (row_of id b.rows)) (Err Refusal.NotOurs) test
    ∙ (ap (answered_by ctx b advice id request h) is ∙ e))

nat_lt_from : (a b : ℕ) → a < b → nat_lt a b ≡ true
nat_lt_from a b h = grind (arith, nat_tests)

-- a new request whose rulings fit gets a row
pub answers_new : (ctx : Context) (b : Book) (advice : Advice) (id : TxnId) (request : List ℕ) (h : RequestHeader) → readable ctx request ≡ Some h → payer_for ctx id h ≡ Some b.payer → row_of id b.rows ≡ None → length b.rows < b.settings.cap → list_all serial_fits (new_row ctx b advice id request).rulings ≡ true → has_verdicts ctx b advice id request ≡ true
    → answered ctx b advice id request ≡ Ok (record { book = one_row_more ctx b advice id request; bytes = answer_text ctx h (new_row ctx b advice id request); kept = false })
answers_new ctx b advice id request h reads route fresh room fits advised =
    by_route ctx b advice id request h None (Ok (record { book = one_row_more ctx b advice id request; bytes = answer_text ctx h (new_row ctx b advice id request); kept = false })) reads route fresh
    (cond-true (nat_lt (length b.rows) b.settings.cap) (entered_row ctx b h (has_verdicts ctx b advice id request) (new_row ctx b advice id request)) (Err Refusal.BookFull) (nat_lt_from (length b.rows) b.settings.cap room)
    ∙ (cond-true (list_all serial_fits (new_row ctx b advice id request).rulings) _ (Err Refusal.SerialsUsedUp) fits
    ∙ cond-true (has_verdicts ctx b advice id request) (Ok (record { book = one_row_more ctx b advice id request; bytes = answer_text ctx h (new_row ctx b advice id request); kept = false })) (Err Refusal.NotAdvised) advised))

-- a known one gets its row's answer
answers_known : (ctx : Context) (b : Book) (advice : Advice) (id : TxnId) (request : List ℕ) (h : RequestHeader) (row : Row) → readable ctx request ≡ Some h → payer_for ctx id h ≡ Some b.payer → row_of id b.rows ≡ Some row → row.request ≡ request
    → answered ctx b advice id request ≡ Ok (record { book = b; bytes = answer_text ctx h row; kept = true })
answers_known ctx b advice id request h row reads route found same =
    by_route ctx b advice id request h (Some row) (Ok (record { book = b; bytes = answer_text ctx h row; kept = true })) reads route found
    (cond-true (bytes_eq row.request request) (Ok (record { book = b; bytes = answer_text ctx h row; kept = true })) (Err Refusal.NumberReused) (subst (λ (x : List ℕ). bytes_eq row.request x ≡ true) same (bytes_self row.request)))

room_by : (ctx : Context) (given : WorldSettings) (w : World) (id : TxnId) (request : List ℕ) (h : RequestHeader) (payer : ℕ) (b : Book) (advice : Advice) (o : Option Row) → Reached ctx given w → IsAskedOf ctx w id request h payer b → SoundBook ctx given w payer b → row_of id b.rows ≡ o
    → (o ≡ None → HasRoom ctx b h.count) → has_verdicts ctx b advice id request ≡ true → (a : Answered) × (answered ctx b advice id request ≡ Ok a)
room_by ctx given w id request h payer b advice (Some row) r x sb is room advised =
    let s : SoundRow ctx w payer b.rows row = find_all (SoundRow ctx w payer b.rows) _ b.rows row sb.rows is in
    let same_id : row.id ≡ id = id_same row.id id (find_passes _ b.rows row is) in
    let same : row.request ≡ request = same_some _ _ (sym s.asks ∙ (ap (asked w) same_id ∙ x.asks)) in
    (record { book = b; bytes = answer_text ctx h row; kept = true }, answers_known ctx b advice id request h row x.reads (x.route ∙ ap (λ (k : ℕ). Some k) (sym sb.payer)) is same)
room_by ctx given w id request h payer b advice None r x sb is room advised =
    let enough = room refl in
    let serials = enough.serials in
    let groups = r.laws.groups request h x.reads in
    let fits : list_all serial_fits (new_row ctx b advice id request).rulings ≡ true = rulings_fit ctx b advice (ruled_rows ctx b.rows) id 1 (ctx.orders request) (omega (arith, serials, groups)) in (
      record { book = one_row_more ctx b advice id request; bytes = answer_text ctx h (new_row ctx b advice id request); kept = false },
      answers_new ctx b advice id request h x.reads (x.route ∙ ap (λ (k : ℕ). Some k) (sym sb.payer)) is enough.rows fits advised,
    )

-- ---- an advice

claim_advised : (ctx : Context) (b : Book) (advice : Advice) (place : ℕ) (c : Claim) → b.settings.asks ≡ true → IsSome (verdict_in c.fill.prescription (numbered advice.rulings place)) → is_advised ctx b advice place (ToPrice c) ≡ true
claim_advised ctx b advice place c asks s =
    ap is_some (cond-true b.settings.asks (verdict_in c.fill.prescription (numbered advice.rulings place)) (Some (planned (ctx.price b.plan c))) asks) ∙ some_is (verdict_in c.fill.prescription (numbered advice.rulings place)) s
  where
    some_is : (o : Option Verdict) → IsSome o → is_some o ≡ true
    some_is None h = absurd (Rattle.std.proofs.lemmas.Bool.false≢true h)
    some_is (Some v) h = refl

reversal_advised : (b : Book) (advice : Advice) (k : ℕ) (v : Reversal) → (asks_reversals b.settings ≡ true → IsSome (consent_in v.prescription (slice_get advice.rulings k))) → is_some (consent_of b advice (suc k) v) ≡ true
reversal_advised b advice k v s = by_asks (asks_reversals b.settings) s
  where
    some_is : (o : Option Consent) → IsSome o → is_some o ≡ true
    some_is None h = absurd (Rattle.std.proofs.lemmas.Bool.false≢true h)
    some_is (Some x) h = refl

    by_asks : (t : Bool) → (t ≡ true → IsSome (consent_in v.prescription (slice_get advice.rulings k))) → is_some (cond t (consent_in v.prescription (slice_get advice.rulings k)) (Some Allows)) ≡ true
    by_asks true f = some_is (consent_in v.prescription (slice_get advice.rulings k)) (f refl)
    by_asks false f = refl

order_advised : (ctx : Context) (b : Book) (advice : Advice) (before : List Ruled) (k : ℕ) (order : Result Order (List Code)) → b.settings.asks ≡ true
    → Advises b.settings advice.rulings k order → is_advised ctx b advice (suc k) (judged before order) ≡ true
unfolding judged
order_advised ctx b advice before k (Err codes) asks s = refl
order_advised ctx b advice before k (Ok (Bills c)) asks s = by_payment (standing_for c.fill before)
  where
    by_same : (t : Bool) (x y : Ruling) → is_advised ctx b advice (suc k) (cond t (Unpriced x) (Unpriced y)) ≡ true
    by_same true x y = refl
    by_same false x y = refl

    by_payment : (o : Option Payment) → is_advised ctx b advice (suc k) (judged_claim c o) ≡ true
    by_payment None = claim_advised ctx b advice (suc k) c asks s
    by_payment (Some p) = by_same (same_claim p.claim c) _ _
order_advised ctx b advice before k (Ok (Reverses v)) asks s = by_payment (payment_to_reverse v before)
  where
    by_payment : (o : Option Payment) → is_advised ctx b advice (suc k) (judged_reversal v o) ≡ true
    by_payment None = refl
    by_payment (Some p) = reversal_advised b advice k v s

-- from a place on
abbrev AdvisesFrom : BookSettings → List Ruling → ℕ → List (Result Order (List Code)) → Type 0
AdvisesFrom s said place orders = (k : ℕ) (order : Result Order (List Code)) → slice_get orders k ≡ Some order → Advises s said (place + k) order

-- what may be asked about each order is enough
all_advised_by : (ctx : Context) (b : Book) (advice : Advice) (before : List Ruled) (id : TxnId) (k : ℕ) (orders : List (Result Order (List Code))) → b.settings.asks ≡ true → AdvisesFrom b.settings advice.rulings k orders → all_advised ctx b advice before id (suc k) orders ≡ true
all_advised_by ctx b advice before id k [] asks all = refl
all_advised_by ctx b advice before id k (order ∷ orders) asks all =
    let x : Ruled = ruled id (suc k) order (ruling ctx b advice before (suc k) order) in
    let place : suc k + 1 ≡ suc (suc k) = omega arith in
    and_from (is_advised ctx b advice (suc k) (judged before order)) (all_advised ctx b advice (before ++ x ∷ []) id (suc k + 1) orders)
    (order_advised ctx b advice before k order asks
    (let here : k + 0 ≡ k = omega arith in subst (λ (n : ℕ). Advises b.settings advice.rulings n order) here (all 0 order refl)))
    (subst (λ (n : ℕ). all_advised ctx b advice (before ++ x ∷ []) id n orders ≡ true) (sym place)
    (all_advised_by ctx b advice (before ++ x ∷ []) id (suc k) orders asks
    (λ j o e. let next : k + suc j ≡ suc k + j = omega arith in subst (λ (n : ℕ). Advises b.settings advice.rulings n o) next (all (suc j) o e))))

pub verdicts_by : (ctx : Context) (b : Book) (advice : Advice) (id : TxnId) (request : List ℕ) → b.settings.asks ≡ true → AdvisesAll b.settings advice.rulings (ctx.orders request) → has_verdicts ctx b advice id request ≡ true
verdicts_by ctx b advice id request asks all =
    all_advised_by ctx b advice (ruled_rows ctx b.rows) id 0 (ctx.orders request) asks
    (λ k o e. let none : k ≡ 0 + k = omega arith in subst (λ (n : ℕ). Advises b.settings advice.rulings n o) none (all k o e))

-- the fixed rejection of a request, taken as an advice, says something of each place

rejects_each : (codes : List Code) (n claimed k : ℕ) → k < n → IsSome (verdict_in claimed (slice_get (replicate n (Rejected codes)) k)) × IsSome (consent_in claimed (slice_get (replicate n (Rejected codes)) k))
rejects_each codes zero claimed k h = absurd (omega (arith, h))
rejects_each codes (suc n) claimed zero h = (refl, refl)
rejects_each codes (suc n) claimed (suc k) h = rejects_each codes n claimed k (omega (arith, h))

advice_there : (ctx : Context) (s : BookSettings) (request : List ℕ) (h : RequestHeader) → Laws ctx → readable ctx request ≡ Some h → AdvisesAll s (advice_in ctx (rejection ctx h)).rulings (ctx.orders request)
advice_there ctx s request h laws reads k order e = by_order order
  where
    spelt : Spells ctx h (replicate h.count (Rejected (BadBin ∷ []))) (rejection ctx h)
    spelt = rejection_spells ctx request h laws reads

    here : k < h.count
    here =
        let within = (numbered_within (ctx.orders request) (suc k) order e).1 in
        let groups : length (ctx.orders request) ≡ h.count = laws.groups request h reads in
        omega (arith, within, groups)

    verdict_there : (n : ℕ) → IsSome (verdict_in n (slice_get (advice_in ctx (rejection ctx h)).rulings k))
    verdict_there n =
        let said = laws.advised (rejection ctx h) spelt.answer spelt.reads in
        let each : IsSome (verdict_in n (slice_get spelt.answer.rulings k)) =
        subst (λ (rs : List Ruling). IsSome (verdict_in n (slice_get rs k))) (sym spelt.rulings_are) (rejects_each (BadBin ∷ []) h.count n k here).0 in
        subst (λ (rs : List Ruling). IsSome (verdict_in n (slice_get rs k))) (sym (ap rulings_in said.1))
        (subst (λ (v : Option Verdict). IsSome v) (sym (said.2 (suc k) n).0) each)

    consent_there : (n : ℕ) → IsSome (consent_in n (slice_get (advice_in ctx (rejection ctx h)).rulings k))
    consent_there n =
        let said = laws.advised (rejection ctx h) spelt.answer spelt.reads in
        let each : IsSome (consent_in n (slice_get spelt.answer.rulings k)) =
        subst (λ (rs : List Ruling). IsSome (consent_in n (slice_get rs k))) (sym spelt.rulings_are) (rejects_each (BadBin ∷ []) h.count n k here).1 in
        subst (λ (rs : List Ruling). IsSome (consent_in n (slice_get rs k))) (sym (ap rulings_in said.1))
        (subst (λ (v : Option Consent). IsSome v) (sym (said.2 (suc k) n).1) each)

    by_order : (o : Result Order (List Code)) → Advises s (advice_in ctx (rejection ctx h)).rulings k o
    by_order (Err codes) = tt
    by_order (Ok (Bills c)) = verdict_there c.fill.prescription
    by_order (Ok (Reverses v)) = λ asks. consent_there v.prescription

-- how a request is handed to a payer so that there is a verdict on each claim: one that does not ask needs none, one that asks takes some advice
record Enough (ctx : Context) (b : Book) (id : TxnId) (request : List ℕ) : Type 0 where
  handed : Handed b
  verdicts : has_verdicts ctx b (handed_with ctx b handed) id request ≡ true

enough_by : (ctx : Context) (b : Book) (id : TxnId) (request : List ℕ) (h : RequestHeader) (t : Bool) → Laws ctx → readable ctx request ≡ Some h → b.settings.asks ≡ t → Enough ctx b id request
enough_by ctx b id request h false laws reads is = record { handed = ByDelivery; verdicts = unasked_advised ctx b unadvised (ruled_rows ctx b.rows) id 1 (ctx.orders request) is }
enough_by ctx b id request h true laws reads is =
    record {
      handed = ByAdvice (rejection ctx h) is;
      verdicts = verdicts_by ctx b (advice_in ctx (rejection ctx h)) id request is (advice_there ctx b.settings request h laws reads);
    }

pub room_answers : (ctx : Context) (given : WorldSettings) (w : World) (id : TxnId) (request : List ℕ) (h : RequestHeader) (payer : ℕ) (b : Book) → Reached ctx given w → IsAskedOf ctx w id request h payer b → (row_of id b.rows ≡ None → HasRoom ctx b h.count)
    → WouldAnswer ctx w payer id request
room_answers ctx given w id request h payer b r x room =
    let e = enough_by ctx b id request h b.settings.asks r.laws x.reads refl in
    let a = room_by ctx given w id request h payer b (handed_with ctx b e.handed) (row_of id b.rows) r x (book_sound ctx given w payer b (reached_sound ctx given w r) x.book) refl room e.verdicts in
    record { book = b; there = x.book; handed = e.handed; answer = a.0; answers = a.1 }

pub advice_answers : (ctx : Context) (given : WorldSettings) (w : World) (id : TxnId) (request advice : List ℕ) (h : RequestHeader) (payer : ℕ) (b : Book) → Reached ctx given w → IsAskedOf ctx w id request h payer b → b.settings.asks ≡ true → row_of id b.rows ≡ None → HasRoom ctx b h.count
    → AdvisesAll b.settings (advice_in ctx advice).rulings (ctx.orders request) → (answer : Answered) × (answered ctx b (advice_in ctx advice) id request ≡ Ok answer)
advice_answers ctx given w id request advice h payer b r x asks fresh room all =
    room_by ctx given w id request h payer b (advice_in ctx advice) (row_of id b.rows) r x (book_sound ctx given w payer b (reached_sound ctx given w r) x.book) refl (λ e. room)
    (verdicts_by ctx b (advice_in ctx advice) id request asks all)

-- the payer of a route has a book
pub book_there : (ctx : Context) (given : WorldSettings) (w : World) (id : TxnId) (h : RequestHeader) (payer : ℕ) → Reached ctx given w → payer_for ctx id h ≡ Some payer → (b : Book) × (book_at w payer ≡ Some b)
book_there ctx given w id h payer r route =
    let posted : Posted ctx given w = reached_posts ctx given w r in
    let there = r.accepts.routes id.number (route_key h) payer route in
    let as_many = posted.payers in
    let within = there.1 in
    let s = numbered_exists w.payers payer there.0 (omega (arith, within, as_many)) in
    (book_in s.0, ap (option_map book_in) s.1)

-- an open entry for whose request its book has room would be answered
pub answerable_with_room : (ctx : Context) (given : WorldSettings) (w : World) (id : TxnId) (request : List ℕ) → Reached ctx given w → IsOpen w id request → RoomInBook ctx w id request → Answerable ctx w id request
answerable_with_room ctx given w id request r o room = λ h payer reads route.
    let b = book_there ctx given w id h payer r route in
    room_answers ctx given w id request h payer b.0 r (record { asks = open_asked w id request o; reads = reads; route = route; book = b.1 }) (λ fresh. room h payer b.0 reads route b.1 fresh)

pub recovered_with_room : (ctx : Context) (given : WorldSettings) (w : World) (id : TxnId) (request : List ℕ) (journal : JournalAtRest) → Reached ctx given w → Timely given → journal_at w id.pharmacy ≡ Some journal → IsOpen w id request → RoomInBook ctx w id request → Recovered ctx w journal id
recovered_with_room ctx given w id request journal r timely there o room = recovered ctx given w id request journal r timely there o (answerable_with_room ctx given w id request r o room)

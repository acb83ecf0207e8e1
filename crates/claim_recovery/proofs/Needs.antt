-- What books need for a list of ids, as one of them is answered.
use Rattle.std.proofs.Common.{◌≡◌, ℕ, suc, ◌+◌, ◌<◌, ◌≤◌, Bool, true, false, cond, List, [], ◌∷◌, ◌++◌, length, Option, Some, None, Result, refl, sym, ap, ◌∙◌, subst, ◌⊎◌, inl, inr, append_assoc, arith, length-append}
use Rattle.std.specs.Prelude.{filter, sum_by, is_none, option_map, option_and_then}
use Rattle.std.proofs.lemmas.List.{append-nil}
use Rattle.std.proofs.lemmas.List.Sums.{sum_by-cons}
use Rattle.std.proofs.lemmas.Bool.{cases_eq, and_parts, and_from}
use Rattle.claim_model.specs.Words.{Advice, TxnId, RequestHeader, Order, Code}
use Rattle.claim_model.specs.Context.{Context}
use Rattle.claim_model.specs.Laws.{Laws}
use Rattle.claim_model.specs.Readable.{readable, payer_for, is_payer}
use Rattle.claim_model.specs.Numbered.{numbered}
use Rattle.claim_model.specs.Ruled.{Ruled, ruled, ruled_from}
use Rattle.claim_model.specs.Rows.{Row, Book, ruled_rows}
use Rattle.claim_model.specs.Judgement.{next_serial, ruling, rulings_from}
use Rattle.claim_model.specs.Book.{row_of, new_row}
use Rattle.claim_model.specs.Journal.{Journal, JournalAtRest, Kept}
use Rattle.claim_model.specs.Node.{Power}
use Rattle.claim_model.specs.World.{World}
use Rattle.claim_model.specs.Settings.{WorldSettings}
use Rattle.claim_model.specs.Held.{journal_in, book_at, entry_of, asked, row_at}
use Rattle.claim_model.specs.Promises.{Reached}
use Rattle.claim_model.proofs.Lists.{find_append}
use Rattle.claim_model.proofs.Options.{same_some}
use Rattle.claim_model.proofs.Tests.{payer_self}
use Rattle.claim_recovery.specs.Recovered.{IsOpen, BookLeft, AsItWas, OneRowMore, LeavesOthers, Answerable, one_row_more}
use Rattle.claim_recovery.specs.Everyone.{header_of, needs_row, undecided, count_in, transactions, HasRoomFor, RoomForAll}
use Rattle.claim_recovery.proofs.Unchanged.{open_asked}
use Rattle.claim_recovery.proofs.Serials.{next_most}
use Rattle.claim_recovery.proofs.Rooms.{room_answers, book_there}
use Rattle.claim_model.proofs.Ledger.{ruled_rows_more}

-- ---- filters

-- fewer pass a test that asks for more
record Fewer (f g : TxnId → ℕ) (xs ys : List TxnId) : Type 0 where
  count : length xs ≤ length ys
  sum : sum_by f xs ≤ sum_by g ys

fewer_more : (f g : TxnId → ℕ) (x : TxnId) (xs ys : List TxnId) → Fewer f g xs ys → Fewer f g xs (x ∷ ys)
fewer_more f g x xs ys h =
    let a = h.count in
    let b = h.sum in
    record { count = omega (arith, a); sum = omega (arith, b, sum_by-cons g x ys) }

fewer_both : (f g : TxnId → ℕ) (x : TxnId) (xs ys : List TxnId) → f x ≡ g x → Fewer f g xs ys → Fewer f g (x ∷ xs) (x ∷ ys)
fewer_both f g x xs ys e h =
    let a = h.count in
    let b = h.sum in
    record { count = omega (arith, a); sum = omega (arith, b, e, sum_by-cons f x xs, sum_by-cons g x ys) }

fewer : (f g : TxnId → ℕ) (p q : TxnId → Bool) (xs : List TxnId) → ((x : TxnId) → f x ≡ g x) → ((x : TxnId) → p x ≡ true → q x ≡ true) → Fewer f g (filter p xs) (filter q xs)
fewer f g p q [] same more = record { count = omega arith; sum = omega arith }
fewer f g p q (x ∷ xs) same more = go (p x) (q x) (more x) (fewer f g p q xs same more)
  where
    go : (b c : Bool) → (b ≡ true → c ≡ true) → Fewer f g (filter p xs) (filter q xs) → Fewer f g (cond b (x ∷ filter p xs) (filter p xs)) (cond c (x ∷ filter q xs) (filter q xs))
    go true true h r = fewer_both f g x (filter p xs) (filter q xs) (same x) r
    go true false h r = absurd (Rattle.std.proofs.lemmas.Bool.false≢true (h refl))
    go false true h r = fewer_more f g x (filter p xs) (filter q xs) r
    go false false h r = r

-- ---- who asks stays

-- every entry but this one is as it was
pub entry_same : (ctx : Context) (w v : World) (id : TxnId) (request : List ℕ) → LeavesOthers ctx w v id request → (x : TxnId) → (entry_of v x ≡ entry_of w x) ⊎ (x ≡ id)
entry_same ctx w v id request l x =
    elim (cases_eq x.pharmacy id.pharmacy) [
      | inl p ↦ elim (cases_eq x.number id.number) [
        | inl k ↦ inr (λ i. record { pharmacy = p i; number = k i })
        | inr d ↦
            inl (subst (λ (m : ℕ). entry_of v (record { pharmacy = m; number = x.number }) ≡ entry_of w (record { pharmacy = m; number = x.number })) (sym p) (l.entries x.number d))
      ]
      | inr d ↦ inl (ap (λ (o : Option (Power Journal JournalAtRest)). option_and_then (λ (j : JournalAtRest). numbered j.entries x.number) (option_map journal_in o)) (l.pharmacies x.pharmacy d))
    ]

asked_same : (ctx : Context) (w v : World) (id : TxnId) (request : List ℕ) → asked w id ≡ Some request → LeavesOthers ctx w v id request → (x : TxnId) → asked v x ≡ asked w x
asked_same ctx w v id request asks l x =
    elim (entry_same ctx w v id request l x) [
      | inl e ↦ ap (option_map (λ (k : Kept). k.request)) e
      | inr e ↦ ap (asked v) e ∙ (l.asks ∙ sym (ap (asked w) e ∙ asks))
    ]

transactions_same : (ctx : Context) (w v : World) → ((x : TxnId) → asked v x ≡ asked w x) → (x : TxnId) → transactions ctx v x ≡ transactions ctx w x
transactions_same ctx w v same x = ap (λ (o : Option (List ℕ)). count_in (option_and_then (readable ctx) o)) (same x)

-- ---- who needs a row later needed it before

none_before : (b : Book) (row : Row) (x : TxnId) → is_none (row_of x (b.rows ++ row ∷ [])) ≡ true → is_none (row_of x b.rows) ≡ true
none_before b row x e = go (row_of x b.rows) refl
  where
    go : (o : Option Row) → row_of x b.rows ≡ o → is_none o ≡ true
    go None is = refl
    go (Some y) is = ap is_none (sym (find_append _ b.rows (row ∷ []) y is)) ∙ e

row_before : (ctx : Context) (w v : World) (id : TxnId) (request : List ℕ) (payer : ℕ) (x : TxnId) → BookLeft ctx id request payer (book_at w payer) (book_at v payer) → is_none (row_at v payer x) ≡ true → is_none (row_at w payer x) ≡ true
row_before ctx w v id request payer x (AsItWas e) h = ap (λ (o : Option Book). is_none (option_and_then (λ (b : Book). row_of x b.rows) o)) (sym e) ∙ h
row_before ctx w v id request payer x (OneRowMore b advice is fresh routed after) h =
    ap (λ (o : Option Book). is_none (option_and_then (λ (b : Book). row_of x b.rows) o)) is
    ∙ none_before b (new_row ctx b advice id request) x (ap (λ (o : Option Book). is_none (option_and_then (λ (b : Book). row_of x b.rows) o)) (sym after) ∙ h)

needs_before : (ctx : Context) (w v : World) (id : TxnId) (request : List ℕ) (payer : ℕ) → asked w id ≡ Some request → LeavesOthers ctx w v id request → (x : TxnId) → needs_row ctx v payer x ≡ true → needs_row ctx w payer x ≡ true
needs_before ctx w v id request payer asks l x h =
    let p = and_parts (is_payer payer (option_and_then (payer_for ctx x) (header_of ctx v x))) (is_none (row_at v payer x)) h in
    and_from (is_payer payer (option_and_then (payer_for ctx x) (header_of ctx w x))) (is_none (row_at w payer x))
    (ap (λ (o : Option (List ℕ)). is_payer payer (option_and_then (payer_for ctx x) (option_and_then (readable ctx) o))) (sym (asked_same ctx w v id request asks l x)) ∙ p.0)
    (row_before ctx w v id request payer x (l.books payer) p.1)

-- ---- what one request takes

takes_serials : (ctx : Context) (b : Book) (advice : Advice) (before : List Ruled) (id : TxnId) (place : ℕ) (orders : List (Result Order (List Code))) → next_serial b (before ++ ruled_from id place orders (rulings_from ctx b advice before id place orders)) ≤ next_serial b before + length orders
takes_serials ctx b advice before id place [] = let e = ap (next_serial b) (append-nil before) in omega (arith, e)
takes_serials ctx b advice before id place (order ∷ orders) =
    let x : Ruled = ruled id place order (ruling ctx b advice before place order) in
    let rest : List Ruled = ruled_from id (place + 1) orders (rulings_from ctx b advice (before ++ x ∷ []) id (place + 1) orders) in
    let on = takes_serials ctx b advice (before ++ x ∷ []) id (place + 1) orders in
    let one = next_most b before x in
    let e : next_serial b ((before ++ x ∷ []) ++ rest) ≡ next_serial b (before ++ x ∷ rest) = ap (next_serial b) (append_assoc before (x ∷ []) rest) in
    omega (arith, on, one, e)

row_takes : (ctx : Context) (b : Book) (advice : Advice) (id : TxnId) (request : List ℕ) → next_serial b (ruled_rows ctx (b.rows ++ new_row ctx b advice id request ∷ [])) ≤ next_serial b (ruled_rows ctx b.rows) + length (ctx.orders request)
row_takes ctx b advice id request =
    let e = ap (next_serial b) (ruled_rows_more ctx b.rows (new_row ctx b advice id request)) in
    let t = takes_serials ctx b advice (ruled_rows ctx b.rows) id 1 (ctx.orders request) in
    omega (arith, e, t)

header_is : (ctx : Context) (w : World) (id : TxnId) (request : List ℕ) (h : RequestHeader) → asked w id ≡ Some request → readable ctx request ≡ Some h → header_of ctx w id ≡ Some h
header_is ctx w id request h asks reads = ap (option_and_then (readable ctx)) asks ∙ reads

needs_it : (ctx : Context) (w : World) (id : TxnId) (request : List ℕ) (h : RequestHeader) (payer : ℕ) (b : Book) → asked w id ≡ Some request → readable ctx request ≡ Some h → payer_for ctx id h ≡ Some payer → book_at w payer ≡ Some b → row_of id b.rows ≡ None → needs_row ctx w payer id ≡ true
needs_it ctx w id request h payer b asks reads route is fresh =
    and_from (is_payer payer (option_and_then (payer_for ctx id) (header_of ctx w id))) (is_none (row_at w payer id))
    (ap (is_payer payer) (ap (option_and_then (payer_for ctx id)) (header_is ctx w id request h asks reads) ∙ route) ∙ payer_self payer)
    (ap is_none (ap (option_and_then (λ (q : Book). row_of id q.rows)) is ∙ fresh))

undecided_first : (ctx : Context) (w : World) (payer : ℕ) (id : TxnId) (more : List TxnId) → needs_row ctx w payer id ≡ true → undecided ctx w payer (id ∷ more) ≡ id ∷ undecided ctx w payer more
undecided_first ctx w payer id more e = Rattle.std.proofs.lemmas.Bool.cond-true (needs_row ctx w payer id) (id ∷ undecided ctx w payer more) (undecided ctx w payer more) e

-- ---- room for one, and for the rest

-- room for all is room for the first
pub room_first : (ctx : Context) (given : WorldSettings) (w : World) (id : TxnId) (request : List ℕ) (more : List TxnId) → Reached ctx given w → IsOpen w id request → RoomForAll ctx w (id ∷ more) → Answerable ctx w id request
room_first ctx given w id request more r o room = λ h payer reads route.
    let there = book_there ctx given w id h payer r route in
    let b : Book = there.0 in
    let is : book_at w payer ≡ Some b = there.1 in
    let asks : asked w id ≡ Some request = open_asked w id request o in
    room_answers ctx given w id request h payer b r (record { asks = asks; reads = reads; route = route; book = is }) (λ fresh.
    let first = undecided_first ctx w payer id more (needs_it ctx w id request h payer b asks reads route is fresh) in
    let n : length (undecided ctx w payer (id ∷ more)) ≡ suc (length (undecided ctx w payer more)) = ap length first in
    let enough = room payer b is (omega (arith, n)) in
    let rows = enough.rows in
    let serials = enough.serials in
    let sum : sum_by (transactions ctx w) (undecided ctx w payer (id ∷ more)) ≡ transactions ctx w id + sum_by (transactions ctx w) (undecided ctx w payer more) =
    ap (sum_by (transactions ctx w)) first ∙ sum_by-cons (transactions ctx w) id (undecided ctx w payer more) in
    let own : transactions ctx w id ≡ h.count = ap count_in (header_is ctx w id request h asks reads) in
    record { rows = omega (arith, rows, n); serials = omega (arith, serials, sum, own) })

-- room for all is room for the rest
pub room_rest : (ctx : Context) (w : World) (id : TxnId) (more : List TxnId) → RoomForAll ctx w (id ∷ more) → RoomForAll ctx w more
room_rest ctx w id more room = λ payer b is some.
    let less : Fewer (transactions ctx w) (transactions ctx w) (undecided ctx w payer more) (undecided ctx w payer (id ∷ more)) = go payer (needs_row ctx w payer id) in
    let count = less.count in
    let sum = less.sum in
    let enough = room payer b is (omega (arith, some, count)) in
    let rows = enough.rows in
    let serials = enough.serials in
    record { rows = omega (arith, rows, count); serials = omega (arith, serials, sum) }
  where
    go : (payer : ℕ) (b : Bool) → Fewer (transactions ctx w) (transactions ctx w) (undecided ctx w payer more) (cond b (id ∷ undecided ctx w payer more) (undecided ctx w payer more))
    go payer true = fewer_more (transactions ctx w) (transactions ctx w) id (undecided ctx w payer more) (undecided ctx w payer more) (record { count = omega arith; sum = omega arith })
    go payer false = record { count = omega arith; sum = omega arith }

room_left : (ctx : Context) (w v : World) (id : TxnId) (request : List ℕ) (more : List TxnId) (payer : ℕ) (b : Book) → Laws ctx → asked w id ≡ Some request → LeavesOthers ctx w v id request → RoomForAll ctx w (id ∷ more) → RoomForAll ctx w more
    → BookLeft ctx id request payer (book_at w payer) (book_at v payer) → book_at v payer ≡ Some b → 0 < length (undecided ctx v payer more) → HasRoomFor ctx v b (undecided ctx v payer more)
room_left ctx w v id request more payer b laws asks l room rest (AsItWas e) is some =
    let same = asked_same ctx w v id request asks l in
    let less : Fewer (transactions ctx v) (transactions ctx w) (undecided ctx v payer more) (undecided ctx w payer more) =
    fewer (transactions ctx v) (transactions ctx w) (needs_row ctx v payer) (needs_row ctx w payer) more (transactions_same ctx w v same) (needs_before ctx w v id request payer asks l) in
    let count = less.count in
    let sum = less.sum in
    let enough = rest payer b (sym e ∙ is) (omega (arith, some, count)) in
    let rows = enough.rows in
    let serials = enough.serials in
    record { rows = omega (arith, rows, count); serials = omega (arith, serials, sum) }
room_left ctx w v id request more payer b laws asks l room rest (OneRowMore c advice is_c fresh routed after) is some =
    let same = asked_same ctx w v id request asks l in
    let less : Fewer (transactions ctx v) (transactions ctx w) (undecided ctx v payer more) (undecided ctx w payer more) =
    fewer (transactions ctx v) (transactions ctx w) (needs_row ctx v payer) (needs_row ctx w payer) more (transactions_same ctx w v same) (needs_before ctx w v id request payer asks l) in
    let count = less.count in
    let sum = less.sum in
    let first = undecided_first ctx w payer id more (needs_it ctx w id request routed.header payer c asks routed.reads routed.route is_c fresh) in
    let n : length (undecided ctx w payer (id ∷ more)) ≡ suc (length (undecided ctx w payer more)) = ap length first in
    let enough = room payer c is_c (omega (arith, n)) in
    let rows = enough.rows in
    let serials = enough.serials in
    let total : sum_by (transactions ctx w) (undecided ctx w payer (id ∷ more)) ≡ transactions ctx w id + sum_by (transactions ctx w) (undecided ctx w payer more) =
    ap (sum_by (transactions ctx w)) first ∙ sum_by-cons (transactions ctx w) id (undecided ctx w payer more) in
    let own : transactions ctx w id ≡ routed.header.count = ap count_in (header_is ctx w id request routed.header asks routed.reads) in
    let groups : length (ctx.orders request) ≡ routed.header.count = laws.groups request routed.header routed.reads in
    let takes = row_takes ctx c advice id request in
    let longer = length-append c.rows (new_row ctx c advice id request ∷ []) in
    let book : one_row_more ctx c advice id request ≡ b = same_some (one_row_more ctx c advice id request) b (sym after ∙ is) in
    subst (λ (q : Book). HasRoomFor ctx v q (undecided ctx v payer more)) book
    (record { rows = omega (arith, rows, n, count, longer); serials = omega (arith, serials, total, own, groups, takes, sum) })

-- after the first was answered there is room for the rest
pub room_after : (ctx : Context) (w v : World) (id : TxnId) (request : List ℕ) (more : List TxnId) → Laws ctx → IsOpen w id request → LeavesOthers ctx w v id request → RoomForAll ctx w (id ∷ more) → RoomForAll ctx v more
room_after ctx w v id request more laws o l room = λ payer b is some.
    room_left ctx w v id request more payer b laws (open_asked w id request o) l room (room_rest ctx w id more room) (l.books payer) is some

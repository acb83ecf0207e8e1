-- A payer with a larger cap makes each call that it made, where its routes lead to it still.
use Rattle.std.proofs.Common.{◌≡◌, ℕ, ◌+◌, ◌≤◌, Bool, true, false, cond, List, [], ◌∷◌, ◌++◌, length, nat_lt, Option, Some, None, Result, Ok, Err, refl, sym, ap, ◌∙◌, arith}
use Rattle.std.specs.Prelude.{bytes_eq, ◌&&◌}
use Rattle.std.specs.List.{list_all}
use Rattle.std.proofs.lemmas.Bool.Decides.{nat_tests}
use Rattle.claim_model.specs.Words.{Advice, TxnId, RequestHeader, RouteKey, Envelope, EnvelopeFault, Plan, PlanFault, Order, Code, Ruling}
use Rattle.claim_model.specs.Context.{Context}
use Rattle.claim_model.specs.Readable.{readable, route_key, payer_for, is_payer, answer_text, is_request}
use Rattle.claim_model.specs.declared.refusal.Refusal.{Refusal}
use Rattle.claim_model.specs.Ruled.{Ruled, ruled}
use Rattle.claim_model.specs.Rows.{Row, Book, ruled_rows}
use Rattle.claim_model.specs.Judgement.{Judged, Unpriced, ToPrice, ToReverse, judged, ruling, rulings_from, is_advised, all_advised}
use Rattle.claim_model.specs.Book.{serial_fits, row_of, row_with, new_row, has_verdicts, unadvised, entered_row, answered_by, answered_readable, answered}
use Rattle.claim_model.specs.Node.{Node, Power, Up, AtRest, Sent, Call, Submit, Tick, Take, Stop, Start, Revise, OfPlan, OfRule, OfCap, Adjudicate, Outcome, Done, Refused, after_answer, payer_takes, advice_in, after_reprice, payer_up, payer_at_rest, payer_step}
use Rattle.settings_growth.specs.Growth.{book_with_cap, RouteLasts}
use Rattle.settings_growth.proofs.Rerouted.{rerouted, leading}

abbrev capped : ℕ → Book → Book
capped cap b = record b { settings = record b.settings { cap = cap } }

-- a ruling hangs on no cap and on no route

ruled_alike : (ctx : Context) (route : ℕ → RouteKey → Option ℕ) (count : ℕ) (b : Book) (advice : Advice) (cap : ℕ) (before : List Ruled) (id : TxnId) (place : ℕ) (orders : List (Result Order (List Code)))
    → rulings_from (rerouted ctx route count) (capped cap b) advice before id place orders ≡ rulings_from ctx b advice before id place orders
unfolding ruling
ruled_alike ctx route count b advice cap before id place [] = refl
ruled_alike ctx route count b advice cap before id place (order ∷ orders) =
    ap (λ (rs : List Ruling). ruling ctx b advice before place order ∷ rs) (ruled_alike ctx route count b advice cap (before ++ ruled id place order (ruling ctx b advice before place order) ∷ []) id (place + 1) orders)

row_alike : (ctx : Context) (route : ℕ → RouteKey → Option ℕ) (count : ℕ) (b : Book) (advice : Advice) (cap : ℕ) (id : TxnId) (request : List ℕ) → new_row (rerouted ctx route count) (capped cap b) advice id request ≡ new_row ctx b advice id request
row_alike ctx route count b advice cap id request =
    ap (row_with ctx b advice id request) (ruled_alike ctx route count b advice cap (ruled_rows ctx b.rows) id 1 (ctx.orders request))

-- and so it is with whether it has its verdicts

advised_alike : (ctx : Context) (route : ℕ → RouteKey → Option ℕ) (count : ℕ) (b : Book) (advice : Advice) (cap : ℕ) (before : List Ruled) (id : TxnId) (place : ℕ) (orders : List (Result Order (List Code)))
    → all_advised (rerouted ctx route count) (capped cap b) advice before id place orders ≡ all_advised ctx b advice before id place orders
unfolding ruling
advised_alike ctx route count b advice cap before id place [] = refl
advised_alike ctx route count b advice cap before id place (order ∷ orders) =
    one_alike (judged before order) _ _ (advised_alike ctx route count b advice cap (before ++ ruled id place order (ruling ctx b advice before place order) ∷ []) id (place + 1) orders)
  where
    one_alike : (j : Judged) (x y : Bool) → x ≡ y → (is_advised (rerouted ctx route count) (capped cap b) advice place j && x) ≡ (is_advised ctx b advice place j && y)
    one_alike (Unpriced given) x y e = e
    one_alike (ToPrice c) x y e = ap (λ (t : Bool). is_advised ctx b advice place (ToPrice c) && t) e
    one_alike (ToReverse auth v) x y e = ap (λ (t : Bool). is_advised ctx b advice place (ToReverse auth v) && t) e

-- a new row has room still

still_room : (rows cap more : ℕ) → cap ≤ more → nat_lt rows cap ≡ true → nat_lt rows more ≡ true
still_room rows cap more le e = grind (arith, nat_tests)

enters : (ctx : Context) (b : Book) (cap : ℕ) (h : RequestHeader) (row : Row) (fits advised : Bool) (from : Node) (id : TxnId) (next : Power Book Book) (sent : List Sent)
    → after_answer ctx from id (cond fits (cond advised (Ok (record { book = record b { rows = b.rows ++ row ∷ [] }; bytes = answer_text ctx h row; kept = false })) (Err Refusal.NotAdvised)) (Err Refusal.SerialsUsedUp)) ≡ Done next sent
    → after_answer ctx from id (cond fits (cond advised (Ok (record { book = record (capped cap b) { rows = b.rows ++ row ∷ [] }; bytes = answer_text ctx h row; kept = false })) (Err Refusal.NotAdvised)) (Err Refusal.SerialsUsedUp)) ≡ Done (book_with_cap cap next) sent
enters ctx b cap h row true true from id next sent e = ap (leading (book_with_cap cap)) e
enters ctx b cap h row true false from id next sent e = absurd cc
enters ctx b cap h row false advised from id next sent e = absurd cc

has_room : (ctx : Context) (route : ℕ → RouteKey → Option ℕ) (count : ℕ) (b : Book) (advice : Advice) (cap : ℕ) (h : RequestHeader) (id : TxnId) (request : List ℕ) (from : Node) (room more : Bool) (next : Power Book Book) (sent : List Sent) → (room ≡ true → more ≡ true)
    → after_answer ctx from id (cond room (entered_row ctx b h (has_verdicts ctx b advice id request) (new_row ctx b advice id request)) (Err Refusal.BookFull)) ≡ Done next sent
    → after_answer ctx from id (cond more (entered_row (rerouted ctx route count) (capped cap b) h (has_verdicts (rerouted ctx route count) (capped cap b) advice id request) (new_row (rerouted ctx route count) (capped cap b) advice id request)) (Err Refusal.BookFull)) ≡ Done (book_with_cap cap next) sent
has_room ctx route count b advice cap h id request from false more next sent le e = absurd cc
has_room ctx route count b advice cap h id request from true more next sent le e =
    ap (λ (m : Bool). after_answer ctx from id (cond m (entered_row (rerouted ctx route count) (capped cap b) h (has_verdicts (rerouted ctx route count) (capped cap b) advice id request) (new_row (rerouted ctx route count) (capped cap b) advice id request)) (Err Refusal.BookFull))) (le refl)
    ∙ (ap (λ (row : Row). after_answer ctx from id (entered_row ctx (capped cap b) h (has_verdicts (rerouted ctx route count) (capped cap b) advice id request) row)) (row_alike ctx route count b advice cap id request)
    ∙ (ap (λ (m : Bool). after_answer ctx from id (entered_row ctx (capped cap b) h m (new_row ctx b advice id request))) (advised_alike ctx route count b advice cap (ruled_rows ctx b.rows) id 1 (ctx.orders request))
    ∙ enters ctx b cap h (new_row ctx b advice id request) (list_all serial_fits (new_row ctx b advice id request).rulings) (has_verdicts ctx b advice id request) from id next sent e))

known : (ctx : Context) (b : Book) (cap : ℕ) (bytes : List ℕ) (same : Bool) (from : Node) (id : TxnId) (next : Power Book Book) (sent : List Sent)
    → after_answer ctx from id (cond same (Ok (record { book = b; bytes = bytes; kept = true })) (Err Refusal.NumberReused)) ≡ Done next sent
    → after_answer ctx from id (cond same (Ok (record { book = capped cap b; bytes = bytes; kept = true })) (Err Refusal.NumberReused)) ≡ Done (book_with_cap cap next) sent
known ctx b cap bytes true from id next sent e = ap (leading (book_with_cap cap)) e
known ctx b cap bytes false from id next sent e = absurd cc

by_row : (ctx : Context) (route : ℕ → RouteKey → Option ℕ) (count : ℕ) (b : Book) (advice : Advice) (cap : ℕ) (h : RequestHeader) (id : TxnId) (request : List ℕ) (from : Node) (o : Option Row) (next : Power Book Book) (sent : List Sent) → b.settings.cap ≤ cap
    → after_answer ctx from id (answered_by ctx b advice id request h o) ≡ Done next sent
    → after_answer ctx from id (answered_by (rerouted ctx route count) (capped cap b) advice id request h o) ≡ Done (book_with_cap cap next) sent
by_row ctx route count b advice cap h id request from (Some row) next sent le e = known ctx b cap (answer_text ctx h row) (bytes_eq row.request request) from id next sent e
by_row ctx route count b advice cap h id request from None next sent le e =
    has_room ctx route count b advice cap h id request from (nat_lt (length b.rows) b.settings.cap) (nat_lt (length b.rows) cap) next sent (still_room (length b.rows) b.settings.cap cap le) e

-- a payer that is the request's is so still

still_ours : (ctx : Context) (route : ℕ → RouteKey → Option ℕ) (count : ℕ) (id : TxnId) (h : RequestHeader) (payer : ℕ) (o : Option ℕ) → ((p : ℕ) → payer_for ctx id h ≡ Some p → route id.number (route_key h) ≡ Some p) → payer_for ctx id h ≡ o → is_payer payer o ≡ true → is_payer payer (route id.number (route_key h)) ≡ true
still_ours ctx route count id h payer None wide is e = absurd cc
still_ours ctx route count id h payer (Some p) wide is e = ap (is_payer payer) (wide p is) ∙ e

ours : (ctx : Context) (route : ℕ → RouteKey → Option ℕ) (count : ℕ) (b : Book) (advice : Advice) (cap : ℕ) (h : RequestHeader) (id : TxnId) (request : List ℕ) (from : Node) (own more : Bool) (next : Power Book Book) (sent : List Sent) → b.settings.cap ≤ cap → (own ≡ true → more ≡ true)
    → after_answer ctx from id (cond own (answered_by ctx b advice id request h (row_of id b.rows)) (Err Refusal.NotOurs)) ≡ Done next sent
    → after_answer ctx from id (cond more (answered_by (rerouted ctx route count) (capped cap b) advice id request h (row_of id b.rows)) (Err Refusal.NotOurs)) ≡ Done (book_with_cap cap next) sent
ours ctx route count b advice cap h id request from false more next sent le still e = absurd cc
ours ctx route count b advice cap h id request from true more next sent le still e =
    ap (λ (m : Bool). after_answer ctx from id (cond m (answered_by (rerouted ctx route count) (capped cap b) advice id request h (row_of id b.rows)) (Err Refusal.NotOurs))) (still refl)
    ∙ by_row ctx route count b advice cap h id request from (row_of id b.rows) next sent le e

by_header : (ctx : Context) (route : ℕ → RouteKey → Option ℕ) (count : ℕ) (b : Book) (advice : Advice) (cap : ℕ) (id : TxnId) (request : List ℕ) (from : Node) (o : Option RequestHeader) (next : Power Book Book) (sent : List Sent) → ((h : RequestHeader) (p : ℕ) → o ≡ Some h → payer_for ctx id h ≡ Some p → route id.number (route_key h) ≡ Some p) → b.settings.cap ≤ cap
    → after_answer ctx from id (answered_readable ctx b advice id request o) ≡ Done next sent
    → after_answer ctx from id (answered_readable (rerouted ctx route count) (capped cap b) advice id request o) ≡ Done (book_with_cap cap next) sent
by_header ctx route count b advice cap id request from None next sent wide le e = absurd cc
by_header ctx route count b advice cap id request from (Some h) next sent wide le e =
    ours ctx route count b advice cap h id request from (is_payer b.payer (payer_for ctx id h)) (is_payer b.payer (route id.number (route_key h))) next sent le (still_ours ctx route count id h b.payer (payer_for ctx id h) (λ p. wide h p refl) refl) e

by_kind : (ctx : Context) (route : ℕ → RouteKey → Option ℕ) (count : ℕ) (b : Book) (advice : Advice) (cap : ℕ) (e : Envelope) (from : Node) (is : Bool) (next : Power Book Book) (sent : List Sent)
    → ((h : RequestHeader) (p : ℕ) → is ≡ true → readable ctx e.payload ≡ Some h → payer_for ctx e.id h ≡ Some p → route e.id.number (route_key h) ≡ Some p) → b.settings.cap ≤ cap
    → cond is (after_answer ctx from e.id (answered ctx b advice e.id e.payload)) (Refused Refusal.Unreadable) ≡ Done next sent
    → cond is (after_answer ctx from e.id (answered (rerouted ctx route count) (capped cap b) advice e.id e.payload)) (Refused Refusal.Unreadable) ≡ Done (book_with_cap cap next) sent
unfolding answered readable
by_kind ctx route count b advice cap e from true next sent wide le is = by_header ctx route count b advice cap e.id e.payload from (readable ctx e.payload) next sent (λ h p. wide h p refl) le is
by_kind ctx route count b advice cap e from false next sent wide le is = absurd cc

takes : (ctx : Context) (route : ℕ → RouteKey → Option ℕ) (count : ℕ) (b : Book) (advice : Advice) (cap : ℕ) (from : Node) (o : Result Envelope EnvelopeFault) (next : Power Book Book) (sent : List Sent)
    → ((e : Envelope) (h : RequestHeader) (p : ℕ) → o ≡ Ok e → is_request e ≡ true → readable ctx e.payload ≡ Some h → payer_for ctx e.id h ≡ Some p → route e.id.number (route_key h) ≡ Some p) → b.settings.cap ≤ cap
    → payer_takes ctx b advice from o ≡ Done next sent → payer_takes (rerouted ctx route count) (capped cap b) advice from o ≡ Done (book_with_cap cap next) sent
takes ctx route count b advice cap from (Err why) next sent wide le e = absurd cc
takes ctx route count b advice cap from (Ok x) next sent wide le e = by_kind ctx route count b advice cap x from (is_request x) next sent (λ h p. wide x h p refl) le e

reprices : (b : Book) (cap : ℕ) (r : Result Plan PlanFault) (next : Power Book Book) (sent : List Sent) → after_reprice b r ≡ Done next sent → after_reprice (capped cap b) r ≡ Done (book_with_cap cap next) sent
reprices b cap (Err why) next sent e = absurd cc
reprices b cap (Ok plan) next sent e = ap (leading (book_with_cap cap)) e

advised_over : (ctx : Context) (route : ℕ → RouteKey → Option ℕ) (count : ℕ) (b : Book) (cap : ℕ) (from : Node) (bytes advice : List ℕ) (asks : Bool) (next : Power Book Book) (sent : List Sent) → RouteLasts ctx (rerouted ctx route count) (Adjudicate from bytes advice) → b.settings.cap ≤ cap
    → cond asks (payer_takes ctx b (advice_in ctx advice) from (ctx.read_envelope bytes)) (Refused Refusal.NotAsked) ≡ Done next sent
    → cond asks (payer_takes (rerouted ctx route count) (capped cap b) (advice_in ctx advice) from (ctx.read_envelope bytes)) (Refused Refusal.NotAsked) ≡ Done (book_with_cap cap next) sent
advised_over ctx route count b cap from bytes advice true next sent wide le e = takes ctx route count b (advice_in ctx advice) cap from (ctx.read_envelope bytes) next sent wide le e
advised_over ctx route count b cap from bytes advice false next sent wide le e = absurd cc

step_up : (ctx : Context) (route : ℕ → RouteKey → Option ℕ) (count : ℕ) (b : Book) (cap : ℕ) (call : Call) (next : Power Book Book) (sent : List Sent) → RouteLasts ctx (rerouted ctx route count) call → b.settings.cap ≤ cap
    → payer_up ctx b call ≡ Done next sent → payer_up (rerouted ctx route count) (capped cap b) call ≡ Done (book_with_cap cap next) sent
step_up ctx route count b cap (Submit text) next sent wide le e = absurd cc
step_up ctx route count b cap Tick next sent wide le e = absurd cc
step_up ctx route count b cap (Take from bytes) next sent wide le e = takes ctx route count b unadvised cap from (ctx.read_envelope bytes) next sent wide le e
step_up ctx route count b cap Stop next sent wide le e = ap (leading (book_with_cap cap)) e
step_up ctx route count b cap Start next sent wide le e = absurd cc
step_up ctx route count b cap (Revise (OfRule rule)) next sent wide le e = absurd cc
step_up ctx route count b cap (Revise (OfCap most)) next sent wide le e = absurd cc
step_up ctx route count b cap (Revise (OfPlan change)) next sent wide le e = reprices b cap (ctx.reprice b.plan change) next sent e
step_up ctx route count b cap (Adjudicate from bytes advice) next sent wide le e = advised_over ctx route count b cap from bytes advice b.settings.asks next sent wide le e

step_at_rest : (b : Book) (cap : ℕ) (call : Call) (next : Power Book Book) (sent : List Sent) → payer_at_rest b call ≡ Done next sent → payer_at_rest (capped cap b) call ≡ Done (book_with_cap cap next) sent
step_at_rest b cap (Submit text) next sent e = absurd cc
step_at_rest b cap Tick next sent e = absurd cc
step_at_rest b cap (Take from bytes) next sent e = absurd cc
step_at_rest b cap Stop next sent e = absurd cc
step_at_rest b cap Start next sent e = ap (leading (book_with_cap cap)) e
step_at_rest b cap (Revise (OfPlan change)) next sent e = absurd cc
step_at_rest b cap (Revise (OfRule rule)) next sent e = absurd cc
step_at_rest b cap (Revise (OfCap most)) next sent e = absurd cc
step_at_rest b cap (Adjudicate from bytes advice) next sent e = absurd cc

abbrev pub book_cap : Power Book Book → ℕ
book_cap (Up b) = b.settings.cap
book_cap (AtRest b) = b.settings.cap

pub payer_over : (ctx : Context) (route : ℕ → RouteKey → Option ℕ) (count : ℕ) (node : Power Book Book) (cap : ℕ) (call : Call) (next : Power Book Book) (sent : List Sent) → RouteLasts ctx (rerouted ctx route count) call → book_cap node ≤ cap
    → payer_step ctx node call ≡ Done next sent → payer_step (rerouted ctx route count) (book_with_cap cap node) call ≡ Done (book_with_cap cap next) sent
payer_over ctx route count (Up b) cap call next sent wide le e = step_up ctx route count b cap call next sent wide le e
payer_over ctx route count (AtRest b) cap call next sent wide le e = step_at_rest b cap call next sent e

-- ---- a cap stays

capped_by : (f next : Power Book Book) (out sent : List Sent) → ◌≡◌ {A = Outcome (Power Book Book)} (Done f out) (Done next sent) → book_cap next ≡ book_cap f
capped_by f next out sent e = let n : f ≡ next = cc in sym (ap book_cap n)

entered_capped : (ctx : Context) (b : Book) (h : RequestHeader) (row : Row) (fits advised room : Bool) (from : Node) (id : TxnId) (next : Power Book Book) (sent : List Sent)
    → after_answer ctx from id (cond room (cond fits (cond advised (Ok (record { book = record b { rows = b.rows ++ row ∷ [] }; bytes = answer_text ctx h row; kept = false })) (Err Refusal.NotAdvised)) (Err Refusal.SerialsUsedUp)) (Err Refusal.BookFull)) ≡ Done next sent
    → book_cap next ≡ b.settings.cap
entered_capped ctx b h row true true true from id next sent e = capped_by _ next _ sent e
entered_capped ctx b h row true false true from id next sent e = absurd cc
entered_capped ctx b h row false advised true from id next sent e = absurd cc
entered_capped ctx b h row fits advised false from id next sent e = absurd cc

known_capped : (ctx : Context) (b : Book) (bytes : List ℕ) (same : Bool) (from : Node) (id : TxnId) (next : Power Book Book) (sent : List Sent)
    → after_answer ctx from id (cond same (Ok (record { book = b; bytes = bytes; kept = true })) (Err Refusal.NumberReused)) ≡ Done next sent → book_cap next ≡ b.settings.cap
known_capped ctx b bytes true from id next sent e = capped_by _ next _ sent e
known_capped ctx b bytes false from id next sent e = absurd cc

row_capped : (ctx : Context) (b : Book) (advice : Advice) (h : RequestHeader) (id : TxnId) (request : List ℕ) (from : Node) (own : Bool) (o : Option Row) (next : Power Book Book) (sent : List Sent)
    → after_answer ctx from id (cond own (answered_by ctx b advice id request h o) (Err Refusal.NotOurs)) ≡ Done next sent → book_cap next ≡ b.settings.cap
row_capped ctx b advice h id request from false o next sent e = absurd cc
row_capped ctx b advice h id request from true (Some row) next sent e = known_capped ctx b (answer_text ctx h row) (bytes_eq row.request request) from id next sent e
row_capped ctx b advice h id request from true None next sent e =
    entered_capped ctx b h (new_row ctx b advice id request) (list_all serial_fits (new_row ctx b advice id request).rulings) (has_verdicts ctx b advice id request) (nat_lt (length b.rows) b.settings.cap) from id next sent e

header_capped : (ctx : Context) (b : Book) (advice : Advice) (id : TxnId) (request : List ℕ) (from : Node) (is : Bool) (o : Option RequestHeader) (next : Power Book Book) (sent : List Sent)
    → cond is (after_answer ctx from id (answered_readable ctx b advice id request o)) (Refused Refusal.Unreadable) ≡ Done next sent → book_cap next ≡ b.settings.cap
header_capped ctx b advice id request from false o next sent e = absurd cc
header_capped ctx b advice id request from true None next sent e = absurd cc
header_capped ctx b advice id request from true (Some h) next sent e = row_capped ctx b advice h id request from (is_payer b.payer (payer_for ctx id h)) (row_of id b.rows) next sent e

takes_capped : (ctx : Context) (b : Book) (advice : Advice) (from : Node) (o : Result Envelope EnvelopeFault) (next : Power Book Book) (sent : List Sent) → payer_takes ctx b advice from o ≡ Done next sent → book_cap next ≡ b.settings.cap
unfolding answered
takes_capped ctx b advice from (Err why) next sent e = absurd cc
takes_capped ctx b advice from (Ok x) next sent e = header_capped ctx b advice x.id x.payload from (is_request x) (readable ctx x.payload) next sent e

reprice_capped : (b : Book) (r : Result Plan PlanFault) (next : Power Book Book) (sent : List Sent) → after_reprice b r ≡ Done next sent → book_cap next ≡ b.settings.cap
reprice_capped b (Err why) next sent e = absurd cc
reprice_capped b (Ok plan) next sent e = capped_by _ next _ sent e

advised_capped : (ctx : Context) (b : Book) (from : Node) (bytes advice : List ℕ) (asks : Bool) (next : Power Book Book) (sent : List Sent) → cond asks (payer_takes ctx b (advice_in ctx advice) from (ctx.read_envelope bytes)) (Refused Refusal.NotAsked) ≡ Done next sent → book_cap next ≡ b.settings.cap
advised_capped ctx b from bytes advice true next sent e = takes_capped ctx b (advice_in ctx advice) from (ctx.read_envelope bytes) next sent e
advised_capped ctx b from bytes advice false next sent e = absurd cc

pub book_cap_stays : (ctx : Context) (node : Power Book Book) (call : Call) (next : Power Book Book) (sent : List Sent) → payer_step ctx node call ≡ Done next sent → book_cap next ≡ book_cap node
book_cap_stays ctx (Up b) (Submit text) next sent e = absurd cc
book_cap_stays ctx (Up b) Tick next sent e = absurd cc
book_cap_stays ctx (Up b) (Take from bytes) next sent e = takes_capped ctx b unadvised from (ctx.read_envelope bytes) next sent e
book_cap_stays ctx (Up b) Stop next sent e = capped_by _ next _ sent e
book_cap_stays ctx (Up b) Start next sent e = absurd cc
book_cap_stays ctx (Up b) (Revise (OfRule rule)) next sent e = absurd cc
book_cap_stays ctx (Up b) (Revise (OfCap most)) next sent e = absurd cc
book_cap_stays ctx (Up b) (Revise (OfPlan change)) next sent e = reprice_capped b (ctx.reprice b.plan change) next sent e
book_cap_stays ctx (Up b) (Adjudicate from bytes advice) next sent e = advised_capped ctx b from bytes advice b.settings.asks next sent e
book_cap_stays ctx (AtRest b) (Submit text) next sent e = absurd cc
book_cap_stays ctx (AtRest b) Tick next sent e = absurd cc
book_cap_stays ctx (AtRest b) (Take from bytes) next sent e = absurd cc
book_cap_stays ctx (AtRest b) Stop next sent e = absurd cc
book_cap_stays ctx (AtRest b) Start next sent e = capped_by _ next _ sent e
book_cap_stays ctx (AtRest b) (Revise (OfPlan change)) next sent e = absurd cc
book_cap_stays ctx (AtRest b) (Revise (OfRule rule)) next sent e = absurd cc
book_cap_stays ctx (AtRest b) (Revise (OfCap most)) next sent e = absurd cc
book_cap_stays ctx (AtRest b) (Adjudicate from bytes advice) next sent e = absurd cc

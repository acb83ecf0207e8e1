-- The books of every world that events lead to keep their ledgers.
use Rattle.std.proofs.Common.{◌≡◌, ℕ, zero, suc, ◌+◌, List, [], ◌∷◌, Some, Result, Ok, Err, refl, sym, ap, subst}
use Rattle.claim_model.specs.Words.{Advice, TxnId, Envelope, EnvelopeFault, Plan, PlanFault}
use Rattle.claim_model.specs.Context.{Context}
use Rattle.claim_model.specs.Readable.{is_request}
use Rattle.claim_model.specs.Numbered.{numbered}
use Rattle.claim_model.specs.Rows.{Row, BookSettings, Book, ruled_rows}
use Rattle.claim_model.specs.Book.{new_row, unadvised, Answered, answered}
use Rattle.claim_model.specs.Node.{Node, Power, Up, AtRest, Sent, Call, Submit, Tick, Take, Stop, Start, Revise, OfPlan, OfRule, OfCap, Adjudicate, Outcome, Done, Refused, after_answer, payer_takes, advice_in, after_reprice, payer_step}
use Rattle.claim_model.specs.World.{World, Event, step, world_after, run}
use Rattle.claim_model.specs.Settings.{WorldSettings, opening}
use Rattle.claim_model.specs.Held.{book_in}
use Rattle.claim_model.specs.Promises.{Reached}
use Rattle.claim_model.proofs.Sound.{with_payer, each_put}
use Rattle.claim_model.proofs.PharmacyStep.{done_same}
use Rattle.claim_model.proofs.PayerStep.{with_row, Rows, Known, New, Ruled_on, answered_ruled, after_answer_done, takes_parts, asked_first}
use Rattle.claim_model.proofs.Runs.{payer_opens, Step, At_pharmacy, At_switch, At_payer, event_made}
use Rattle.claim_model.proofs.Ledger.{Ledger, empty_ledger, ledger_row}

-- what a call makes of a book: its rows stay, or a new request is entered
pub data BookMoves (ctx : Context) (b after : Book) : Type 0 where
  Same : after.rows ≡ b.rows → after.payer ≡ b.payer → after.settings ≡ b.settings → BookMoves ctx b after
  Adds : (advice : Advice) → (id : TxnId) → (request : List ℕ) → after ≡ with_row b (new_row ctx b advice id request) → BookMoves ctx b after

same_book : (ctx : Context) (b after : Book) → after ≡ b → BookMoves ctx b after
same_book ctx b after e = Same (ap (λ (q : Book). q.rows) e) (ap (λ (q : Book). q.payer) e) (ap (λ (q : Book). q.settings) e)

rows_move : (ctx : Context) (b : Book) (advice : Advice) (a : Answered) (e : Envelope) (r : Ruled_on ctx b advice e.id e.payload a) → Rows ctx b advice e.id e.payload r.header a → BookMoves ctx b a.book
rows_move ctx b advice a e r (Known row found same book text) = same_book ctx b a.book book
rows_move ctx b advice a e r (New fresh fits advised book text) = Adds advice e.id e.payload book

takes_move : (ctx : Context) (b : Book) (advice : Advice) (from : Node) (r : Result Envelope EnvelopeFault) (next : Power Book Book) (sent : List Sent) → payer_takes ctx b advice from r ≡ Done next sent → BookMoves ctx b (book_in next)
takes_move ctx b advice from (Err f) next sent e = absurd cc
takes_move ctx b advice from (Ok env) next sent e =
    let t = takes_parts (is_request env) (after_answer ctx from env.id (answered ctx b advice env.id env.payload)) next sent e in
    let d = after_answer_done ctx from env.id (answered ctx b advice env.id env.payload) next sent t.1 in
    let r = answered_ruled ctx b advice env.id env.payload d.0 d.1 in
    subst (λ y. BookMoves ctx b (book_in y)) d.2 (rows_move ctx b advice d.0 env r r.rows)

reprice_move : (ctx : Context) (b : Book) (r : Result Plan PlanFault) (next : Power Book Book) (sent : List Sent) → after_reprice b r ≡ Done next sent → BookMoves ctx b (book_in next)
reprice_move ctx b (Err f) next sent e = absurd cc
reprice_move ctx b (Ok plan) next sent e =
    let after : Book = record { payer = b.payer; settings = b.settings; plan = plan; rows = b.rows } in
    subst (λ y. BookMoves ctx b (book_in y)) (done_same (Up after) next [] sent e).0 (Same refl refl refl)

pub payer_moves : (ctx : Context) (s next : Power Book Book) (call : Call) (sent : List Sent) → payer_step ctx s call ≡ Done next sent → BookMoves ctx (book_in s) (book_in next)
payer_moves ctx (Up b) next (Take from bytes) sent e = takes_move ctx b unadvised from (ctx.read_envelope bytes) next sent e
payer_moves ctx (Up b) next (Adjudicate from bytes advice) sent e =
    takes_move ctx b (advice_in ctx advice) from (ctx.read_envelope bytes) next sent (asked_first b.settings.asks _ next sent e).1
payer_moves ctx (Up b) next Stop sent e = same_book ctx b (book_in next) (ap book_in (sym (done_same (AtRest b) next [] sent e).0))
payer_moves ctx (Up b) next (Revise (OfPlan change)) sent e = reprice_move ctx b (ctx.reprice b.plan change) next sent e
payer_moves ctx (Up b) next (Revise (OfRule rule)) sent e = absurd cc
payer_moves ctx (Up b) next (Revise (OfCap most)) sent e = absurd cc
payer_moves ctx (AtRest b) next Start sent e = same_book ctx b (book_in next) (ap book_in (sym (done_same (Up b) next [] sent e).0))
payer_moves ctx (Up b) next (Submit text) sent e = absurd cc
payer_moves ctx (Up b) next Tick sent e = absurd cc
payer_moves ctx (Up b) next Start sent e = absurd cc
payer_moves ctx (AtRest b) next (Submit text) sent e = absurd cc
payer_moves ctx (AtRest b) next Tick sent e = absurd cc
payer_moves ctx (AtRest b) next (Take from bytes) sent e = absurd cc
payer_moves ctx (AtRest b) next Stop sent e = absurd cc
payer_moves ctx (AtRest b) next (Revise (OfPlan change)) sent e = absurd cc
payer_moves ctx (AtRest b) next (Revise (OfRule rule)) sent e = absurd cc
payer_moves ctx (AtRest b) next (Revise (OfCap most)) sent e = absurd cc
payer_moves ctx (AtRest b) next (Adjudicate from bytes advice) sent e = absurd cc

-- the ledger of a book
abbrev pub BookLedger : Context → Book → Type 0
BookLedger ctx b = Ledger b.payer b.settings.serial (ruled_rows ctx b.rows)

moved_ledger : (ctx : Context) (b after : Book) → BookMoves ctx b after → BookLedger ctx b → BookLedger ctx after
moved_ledger ctx b after (Same rows payer settings) l =
    subst (λ (n : ℕ). Ledger n after.settings.serial (ruled_rows ctx after.rows)) (sym payer)
    (subst (λ (s : BookSettings). Ledger b.payer s.serial (ruled_rows ctx after.rows)) (sym settings) (subst (λ (rs : List Row). Ledger b.payer b.settings.serial (ruled_rows ctx rs)) (sym rows) l))
moved_ledger ctx b after (Adds advice id request is) l = subst (BookLedger ctx) (sym is) (ledger_row ctx b advice id request l)

abbrev pub Ledgers : Context → World → Type 0
Ledgers ctx w = (n : ℕ) (s : Power Book Book) → numbered w.payers n ≡ Some s → BookLedger ctx (book_in s)

pub step_ledgers : (ctx : Context) (w v : World) (call : Call) → Step ctx w v call → Ledgers ctx w → Ledgers ctx v
step_ledgers ctx w v call (At_pharmacy n s next sent is e f) l = subst (Ledgers ctx) (sym f) l
step_ledgers ctx w v call (At_switch n s next sent is e f) l = subst (Ledgers ctx) (sym f) l
step_ledgers ctx w v call (At_payer n s next sent is e f) l =
    let after : Ledgers ctx (with_payer w n next sent) =
    each_put (λ m p. BookLedger ctx (book_in p)) w.payers n s next is l (moved_ledger ctx (book_in s) (book_in next) (payer_moves ctx s next call sent e) (l n s is)) in
    subst (Ledgers ctx) (sym f) after

outcome_ledgers : (ctx : Context) (w : World) (event : Event) (o : Outcome World) → step ctx w event ≡ o → Ledgers ctx w → Ledgers ctx (world_after w o)
outcome_ledgers ctx w event (Refused f) e l = l
outcome_ledgers ctx w event (Done v sent) e l = let m = event_made ctx w v event sent e in step_ledgers ctx w v m.call m.step_is l

pub run_ledgers : (ctx : Context) (w : World) (events : List Event) → Ledgers ctx w → Ledgers ctx (run ctx w events)
run_ledgers ctx w [] l = l
run_ledgers ctx w (event ∷ events) l = run_ledgers ctx (world_after w (step ctx w event)) events (outcome_ledgers ctx w event (step ctx w event) refl l)

pub opening_ledgers : (ctx : Context) (given : WorldSettings) → Ledgers ctx (opening given)
opening_ledgers ctx given zero s e = absurd cc
opening_ledgers ctx given (suc k) s e =
    let r = payer_opens 1 given.payers k s e in
    subst (λ y. BookLedger ctx (book_in y)) (sym r.2) (empty_ledger (1 + k) r.0.book.serial)

pub reached_ledgers : (ctx : Context) (given : WorldSettings) (w : World) → Reached ctx given w → Ledgers ctx w
reached_ledgers ctx given w r = subst (Ledgers ctx) r.leads (run_ledgers ctx (opening given) r.events (opening_ledgers ctx given))

-- What each node says by itself stays so, and states that vouched calls lead to agree.
use Rattle.std.proofs.Common.{◌≡◌, ℕ, zero, suc, ◌+◌, List, [], ◌∷◌, ◌++◌, length, Some, None, Result, Ok, Err, refl, sym, ap, ◌∙◌, subst, append_assoc}
use Rattle.std.specs.Prelude.{count_by, option_and_then, option_map}
use Rattle.std.specs.List.{AllByRecursion}
use Rattle.std.proofs.lemmas.List.{append-nil}
use Rattle.claim_model.specs.Words.{Advice, TxnId, Auth, Envelope, EnvelopeFault, Order, Code, Plan, PlanFault, Ruling}
use Rattle.claim_model.specs.Context.{Context}
use Rattle.claim_model.specs.Readable.{payer_for, is_request}
use Rattle.claim_model.specs.Numbered.{numbered}
use Rattle.claim_model.specs.Ruled.{Ruled, ruled}
use Rattle.claim_model.specs.Rows.{Row, BookSettings, Book, ruled_rows}
use Rattle.claim_model.specs.Judgement.{Judged, Unpriced, ToPrice, ToReverse, judged, is_paid, next_auth, priced}
use Rattle.claim_model.specs.Book.{row_of, new_row, unadvised, Answered, answered}
use Rattle.claim_model.specs.Node.{Node, Power, Up, AtRest, Sent, Call, Submit, Tick, Take, Stop, Start, Revise, OfPlan, OfRule, OfCap, Adjudicate, Done, after_answer, payer_takes, advice_in, after_reprice, payer_step}
use Rattle.claim_model.specs.World.{World}
use Rattle.claim_model.specs.Settings.{PayerSettings, WorldSettings, opening}
use Rattle.claim_model.specs.Held.{book_in}
use Rattle.claim_model.proofs.Lists.{all_at, all_from, numbered_put, numbered_last}
use Rattle.claim_model.proofs.Options.{map_some}
use Rattle.claim_model.proofs.Sound.{SoundRow, SoundBook, Sound, with_payer, each_put}
use Rattle.claim_model.proofs.PharmacyStep.{done_same}
use Rattle.claim_model.proofs.PayerStep.{with_row, Rows, Known, New, Ruled_on, answered_ruled, after_answer_done, takes_parts, asked_first}
use Rattle.claim_model.proofs.Runs.{payer_opens, Step, At_pharmacy, At_switch, At_payer, at_node}
use Rattle.claim_model.proofs.Firm.{Firm, opening_firm, call_firm}
use Rattle.claim_model.proofs.Held.{journal_sound, book_sound}
use Rattle.crash_safety.specs.Explained.{Turn}
use Rattle.vouched_runs.specs.Parties.{Parties, world_of, parties_in}
use Rattle.vouched_runs.specs.Vouched.{Leads, Vouched}
use Rattle.vouched_runs.specs.Agreeing.{IsOwnEntry, RulesGive, RulesGiveAll, IsNextRow, AreNextRows, AreKept, Agree, Agreeing}
use Rattle.vouched_runs.proofs.Apart.{firm_apart}
use Rattle.vouched_runs.proofs.Leading.{leads_firm}
use Rattle.vouched_runs.proofs.Rules.{rulings_given}
use Rattle.vouched_runs.proofs.Agreed.{agreeing_firm}

-- ---- a book of the same payer and settings gives the same

give_alike : (b after : Book) (before : List Ruled) (j : Judged) (r : Ruling) → after.payer ≡ b.payer → after.settings ≡ b.settings → RulesGive b before j r → RulesGive after before j r
give_alike b after before (Unpriced settled) r payer settings g = g
give_alike b after before (ToPrice c) r payer settings g =
    let same : next_auth b before ≡ next_auth after before = λ i. record { payer = sym payer i; serial = (sym settings i).serial + count_by (λ (x : Ruled). is_paid x.ruling) before } in
    (g.0, g.1 ∙ ap (λ (a : Auth). priced a c (Some g.0)) same)
give_alike b after before (ToReverse auth v) r payer settings g = g

all_alike : (b after : Book) (before : List Ruled) (id : TxnId) (place : ℕ) (orders : List (Result Order (List Code))) (rulings : List Ruling) → after.payer ≡ b.payer → after.settings ≡ b.settings
    → RulesGiveAll b before id place orders rulings → RulesGiveAll after before id place orders rulings
all_alike b after before id place [] [] payer settings g = tt
all_alike b after before id place [] (r ∷ rulings) payer settings g = g
all_alike b after before id place (order ∷ orders) [] payer settings g = g
all_alike b after before id place (order ∷ orders) (r ∷ rulings) payer settings g = (
  give_alike b after before (judged before order) r payer settings g.0,
  all_alike b after (before ++ ruled id place order r ∷ []) id (place + 1) orders rulings payer settings g.1,
)

row_alike : (ctx : Context) (b after : Book) (before : List Row) (row : Row) → after.payer ≡ b.payer → after.settings ≡ b.settings → IsNextRow ctx b before row → IsNextRow ctx after before row
row_alike ctx b after before row payer settings x =
    record { fresh = x.fresh; header = x.header; reads = x.reads; given = all_alike b after (ruled_rows ctx before) row.id 1 (ctx.orders row.request) row.rulings payer settings x.given; written = x.written }

rows_alike : (ctx : Context) (b after : Book) (before rows : List Row) → after.payer ≡ b.payer → after.settings ≡ b.settings → AreNextRows ctx b before rows → AreNextRows ctx after before rows
rows_alike ctx b after before [] payer settings o = tt
rows_alike ctx b after before (row ∷ rows) payer settings o = (row_alike ctx b after before row payer settings o.0, rows_alike ctx b after (before ++ row ∷ []) rows payer settings o.1)

-- ---- one row more

rows_more : (ctx : Context) (b : Book) (before rows : List Row) (row : Row) → AreNextRows ctx b before rows → IsNextRow ctx b (before ++ rows) row → AreNextRows ctx b before (rows ++ row ∷ [])
rows_more ctx b before [] row o x = (subst (λ (all : List Row). IsNextRow ctx b all row) (append-nil before) x, tt)
rows_more ctx b before (r ∷ rows) row o x =
    (o.0, rows_more ctx b (before ++ r ∷ []) rows row o.1 (subst (λ (all : List Row). IsNextRow ctx b all row) (sym (append_assoc before (r ∷ []) rows)) x))

-- what a call makes of a book: its rows stay, or a new request is entered
data Moves (ctx : Context) (b after : Book) : Type 0 where
  Same : after.rows ≡ b.rows → after.payer ≡ b.payer → after.settings ≡ b.settings → Moves ctx b after
  Adds : (advice : Advice) → (id : TxnId) → (request : List ℕ) → row_of id b.rows ≡ None → after ≡ with_row b (new_row ctx b advice id request) → Moves ctx b after

same_book : (ctx : Context) (b after : Book) → after ≡ b → Moves ctx b after
same_book ctx b after e = Same (ap (λ (q : Book). q.rows) e) (ap (λ (q : Book). q.payer) e) (ap (λ (q : Book). q.settings) e)

rows_move : (ctx : Context) (b : Book) (advice : Advice) (a : Answered) (e : Envelope) (r : Ruled_on ctx b advice e.id e.payload a) → Rows ctx b advice e.id e.payload r.header a → Moves ctx b a.book
rows_move ctx b advice a e r (Known row found same book text) = same_book ctx b a.book book
rows_move ctx b advice a e r (New fresh fits advised book text) = Adds advice e.id e.payload fresh book

takes_move : (ctx : Context) (b : Book) (advice : Advice) (from : Node) (r : Result Envelope EnvelopeFault) (next : Power Book Book) (sent : List Sent) → payer_takes ctx b advice from r ≡ Done next sent → Moves ctx b (book_in next)
takes_move ctx b advice from (Err f) next sent e = absurd cc
takes_move ctx b advice from (Ok env) next sent e =
    let t = takes_parts (is_request env) (after_answer ctx from env.id (answered ctx b advice env.id env.payload)) next sent e in
    let d = after_answer_done ctx from env.id (answered ctx b advice env.id env.payload) next sent t.1 in
    let r = answered_ruled ctx b advice env.id env.payload d.0 d.1 in
    subst (λ y. Moves ctx b (book_in y)) d.2 (rows_move ctx b advice d.0 env r r.rows)

reprice_move : (ctx : Context) (b : Book) (r : Result Plan PlanFault) (next : Power Book Book) (sent : List Sent) → after_reprice b r ≡ Done next sent → Moves ctx b (book_in next)
reprice_move ctx b (Err f) next sent e = absurd cc
reprice_move ctx b (Ok plan) next sent e =
    let after : Book = record { payer = b.payer; settings = b.settings; plan = plan; rows = b.rows } in
    subst (λ y. Moves ctx b (book_in y)) (done_same (Up after) next [] sent e).0 (Same refl refl refl)

payer_moves : (ctx : Context) (s next : Power Book Book) (call : Call) (sent : List Sent) → payer_step ctx s call ≡ Done next sent → Moves ctx (book_in s) (book_in next)
payer_moves ctx (Up b) next (Take from bytes) sent e = takes_move ctx b unadvised from (ctx.read_envelope bytes) next sent e
payer_moves ctx (Up b) next (Adjudicate from bytes advice) sent e =
    takes_move ctx b (advice_in ctx advice) from (ctx.read_envelope bytes) next sent (asked_first b.settings.asks _ next sent e).1
payer_moves ctx (Up b) next Stop sent e = same_book ctx b (book_in next) (ap book_in (sym (done_same (AtRest b) next [] sent e).0))
payer_moves ctx (Up b) next (Revise (OfRule rule)) sent e = absurd cc
payer_moves ctx (Up b) next (Revise (OfCap most)) sent e = absurd cc
payer_moves ctx (Up b) next (Revise (OfPlan change)) sent e = reprice_move ctx b (ctx.reprice b.plan change) next sent e
payer_moves ctx (AtRest b) next Start sent e = same_book ctx b (book_in next) (ap book_in (sym (done_same (Up b) next [] sent e).0))
payer_moves ctx (Up b) next (Submit text) sent e = absurd cc
payer_moves ctx (Up b) next Tick sent e = absurd cc
payer_moves ctx (Up b) next Start sent e = absurd cc
payer_moves ctx (AtRest b) next (Submit text) sent e = absurd cc
payer_moves ctx (AtRest b) next Tick sent e = absurd cc
payer_moves ctx (AtRest b) next (Take from bytes) sent e = absurd cc
payer_moves ctx (AtRest b) next Stop sent e = absurd cc
payer_moves ctx (AtRest b) next (Revise (OfPlan change)) sent e = absurd cc
payer_moves ctx (AtRest b) next (Revise (OfRule rule)) sent e = absurd cc
payer_moves ctx (AtRest b) next (Revise (OfCap most)) sent e = absurd cc
payer_moves ctx (AtRest b) next (Adjudicate from bytes advice) sent e = absurd cc

-- the rows of a book were made one after another
abbrev AreMade : Context → Book → Type 0
AreMade ctx b = AreNextRows ctx b [] b.rows

moved_rows : (ctx : Context) (given : WorldSettings) (v : World) (n : ℕ) (b after : Book) → Moves ctx b after → SoundBook ctx given v n after → AreMade ctx b → AreMade ctx after
moved_rows ctx given v n b after (Same rows payer settings) x o = subst (λ (rs : List Row). AreNextRows ctx after [] rs) (sym rows) (rows_alike ctx b after [] b.rows payer settings o)
moved_rows ctx given v n b after (Adds advice id request fresh is) x o =
    let row : Row = new_row ctx b advice id request in
    let more : Book = with_row b row in
    let all : AllByRecursion (SoundRow ctx v n more.rows) more.rows = subst (λ (q : Book). AllByRecursion (SoundRow ctx v n q.rows) q.rows) is x.rows in
    let s : SoundRow ctx v n more.rows row = all_at (SoundRow ctx v n more.rows) more.rows (length b.rows + 1) row all (numbered_last b.rows row) in
    let next : IsNextRow ctx more b.rows row =
    record {
      fresh = fresh;
      header = s.header;
      reads = s.reads;
      given = all_alike b more (ruled_rows ctx b.rows) id 1 (ctx.orders request) row.rulings refl refl (rulings_given ctx b advice (ruled_rows ctx b.rows) id 1 (ctx.orders request));
      written = s.written;
    } in
    subst (AreMade ctx) (sym is) (rows_more ctx more [] b.rows row (rows_alike ctx b more [] b.rows refl refl o) next)

-- ---- all books of a world

abbrev AllMade : Context → World → Type 0
AllMade ctx w = (n : ℕ) (s : Power Book Book) → numbered w.payers n ≡ Some s → AreMade ctx (book_in s)

step_made : (ctx : Context) (given : WorldSettings) (w v : World) (call : Call) → Step ctx w v call → Sound ctx given v → AllMade ctx w → AllMade ctx v
step_made ctx given w v call (At_pharmacy n s next sent is e f) x o = subst (AllMade ctx) (sym f) o
step_made ctx given w v call (At_switch n s next sent is e f) x o = subst (AllMade ctx) (sym f) o
step_made ctx given w v call (At_payer n s next sent is e f) x o =
    let u : World = with_payer w n next sent in
    let there : SoundBook ctx given u n (book_in next) = (subst (Sound ctx given) f x).payers n next (numbered_put w.payers n s next is) in
    let after : AllMade ctx u =
    each_put (λ m p. AreMade ctx (book_in p)) w.payers n s next is o (moved_rows ctx given u n (book_in s) (book_in next) (payer_moves ctx s next call sent e) there (o n s is)) in
    subst (AllMade ctx) (sym f) after

leads_made : (ctx : Context) (given : WorldSettings) (p q : Parties) (turns : List Turn) → Firm ctx given (world_of p) → AllMade ctx (world_of p) → Leads ctx p turns q → AllMade ctx (world_of q)
leads_made ctx given p q [] f o l = subst (λ (r : Parties). AllMade ctx (world_of r)) l o
leads_made ctx given p q (t ∷ turns) f o l =
    let w : World = world_of p in
    let v : World = l.1.0 in
    let k = call_firm ctx given w v t.node t.logged.call t.logged.sent f l.0 l.1.1 in
    let made : AllMade ctx v = step_made ctx given w v t.logged.call (at_node ctx w v t.node t.logged.call t.logged.sent l.1.1) k.firm.sound o in
    leads_made ctx given (parties_in v) q turns (firm_apart ctx given v k.firm) made l.1.2

opening_made : (ctx : Context) (given : WorldSettings) → AllMade ctx (opening given)
opening_made ctx given zero s e = absurd cc
opening_made ctx given (suc k) s e =
    let r = payer_opens 1 given.payers k s e in
    subst (λ y. AreMade ctx (book_in y)) (sym r.2) tt

-- ---- what a firm world's parties say

firm_kept : (ctx : Context) (given : WorldSettings) (p : Parties) → Firm ctx given (world_of p) → AllMade ctx (world_of p) → AreKept ctx given p
firm_kept ctx given p f o =
    record {
      journals = λ n j there.
          let s = journal_sound ctx given (world_of p) n j f.sound there in
          record {
            number = s.number;
            as_given = s.settings;
            room = s.room;
            entries = all_from (IsOwnEntry ctx j.settings) j.entries (λ k e at. let x = s.entries k e at in record { header = x.header; reads = x.reads; own = x.own });
          };
      books = λ n b there.
          let s = book_sound ctx given (world_of p) n b f.sound there in
          let t = map_some book_in (numbered p.payers n) b there in
          record {
            payer = s.payer;
            as_given = ap (option_map (λ (x : PayerSettings). x.book)) s.stands ∙ ap (λ (x : BookSettings). Some x) s.settings;
            rows = subst (AreMade ctx) t.2 (o n t.0 t.1);
          };
    }

firm_agree : (ctx : Context) (given : WorldSettings) (p : Parties) → Firm ctx given (world_of p) → Agree ctx p
firm_agree ctx given p f =
    record {
      asks = λ n b k row there at. (all_at (SoundRow ctx (world_of p) n b.rows) b.rows k row (book_sound ctx given (world_of p) n b f.sound there).rows at).asks;
      routes = λ n b k row there at.
          let s = all_at (SoundRow ctx (world_of p) n b.rows) b.rows k row (book_sound ctx given (world_of p) n b f.sound there).rows at in
          ap (option_and_then (payer_for ctx row.id)) s.reads ∙ s.routed;
      answers = λ n j k e a there at is. ((journal_sound ctx given (world_of p) n j f.sound there).entries k e at).answer a is;
    }

firm_agreeing : (ctx : Context) (given : WorldSettings) (p : Parties) → Firm ctx given (world_of p) → AllMade ctx (world_of p) → Agreeing ctx given p
firm_agreeing ctx given p f o = record { laws = f.laws; accepts = f.accepts; kept = firm_kept ctx given p f o; agree = firm_agree ctx given p f }

pub vouched_agreeing : (ctx : Context) (settings : WorldSettings) (p : Parties) → Vouched ctx settings p → Agreeing ctx settings p
vouched_agreeing ctx settings p v =
    let o : World = opening settings in
    let f : Firm ctx settings (world_of (parties_in o)) = firm_apart ctx settings o (opening_firm ctx settings v.laws v.accepts) in
    firm_agreeing ctx settings p (leads_firm ctx settings (parties_in o) p v.turns f v.leads).firm (leads_made ctx settings (parties_in o) p v.turns f (opening_made ctx settings) v.leads)

pub agreeing_on : (ctx : Context) (settings : WorldSettings) (p q : Parties) (turns : List Turn) → Agreeing ctx settings p → Leads ctx p turns q → Agreeing ctx settings q
agreeing_on ctx settings p q turns a l =
    let f : Firm ctx settings (world_of p) = agreeing_firm ctx settings p a in
    let made : AllMade ctx (world_of p) = λ n s h. (a.kept.books n (book_in s) (ap (option_map book_in) h)).rows in
    firm_agreeing ctx settings q (leads_firm ctx settings p q turns f l).firm (leads_made ctx settings p q turns f made l)

-- The stage of a recovery at a payer: it is up, and its answer goes back to the switch.
use Rattle.std.proofs.Common.{◌≡◌, ℕ, ◌+◌, ◌<◌, ◌≤◌, List, [], ◌∷◌, ◌++◌, length, Option, Some, None, Ok, refl, sym, ap, ◌∙◌, subst, inl, inr, arith}
use Rattle.std.specs.Prelude.{option_map, option_and_then}
use Rattle.std.proofs.lemmas.Bool.{cases_eq, cond-true}
use Rattle.claim_model.specs.Words.{Advice, TxnId, RequestHeader}
use Rattle.claim_model.specs.Context.{Context}
use Rattle.claim_model.specs.Readable.{payer_for, answer_text, same_id, request_envelope, answer_envelope}
use Rattle.claim_model.specs.Numbered.{numbered}
use Rattle.claim_model.specs.Rows.{Row, Book}
use Rattle.claim_model.specs.Book.{row_of, new_row, Answered, answered}
use Rattle.claim_model.specs.Node.{Node, Switch, Payer, Power, Up, AtRest, Sent}
use Rattle.claim_model.specs.World.{World, Packet, Event, Delivery, Starting, Adjudication}
use Rattle.claim_model.specs.Settings.{WorldSettings}
use Rattle.claim_model.specs.Held.{book_in, book_at, row_at, decided}
use Rattle.claim_model.specs.Promises.{Reached}
use Rattle.claim_model.proofs.Lists.{numbered_put, numbered_put_other, find_beyond}
use Rattle.claim_model.proofs.Options.{map_some, same_some}
use Rattle.claim_model.proofs.Tests.{id_self}
use Rattle.claim_model.proofs.Sound.{with_payer}
use Rattle.claim_model.proofs.Decided.{decided_routed}
use Rattle.claim_model.proofs.PayerStep.{Rows, Known, New, answered_ruled}
use Rattle.claim_recovery.specs.Recovered.{Handed, ByDelivery, ByAdvice, handed_with, IsRouted, BookLeft, AsItWas, OneRowMore}
use Rattle.claim_recovery.proofs.Paths.{Path, path_none, path_delivery, path_adjudication, path_start, packet_stays, packet_new}
use Rattle.claim_recovery.proofs.Forward.{start_payer, request_at_payer, advised_at_payer}
use Rattle.claim_recovery.proofs.Unchanged.{Same, same_self, same_payer, Booked}
use Rattle.claim_recovery.proofs.AtSwitch.{IsKnown}

-- ---- the payer is up

pub record PayerUp (ctx : Context) (may : Event → Type 0) (w : World) (p : ℕ) (b : Book) : Type 0 where
  pub world : World
  pub starts : ℕ
  pub few : starts ≤ 1
  pub path : Path ctx may w world 0 0 starts
  pub same : (n : ℕ) → Same n w world
  pub pharmacies : world.pharmacies ≡ w.pharmacies
  pub switches : world.switches ≡ w.switches
  pub up : numbered world.payers p ≡ Some (Up b)
  pub packets : (k : ℕ) (q : Packet) → numbered w.packets k ≡ Some q → numbered world.packets k ≡ Some q

payer_up_by : (ctx : Context) (may : Event → Type 0) (w : World) (p : ℕ) (s : Power Book Book) → may (Starting (Payer p)) → numbered w.payers p ≡ Some s → PayerUp ctx may w p (book_in s)
payer_up_by ctx may w p (Up b) ok is =
    record { world = w; starts = 0; few = omega arith; path = path_none ctx may w; same = λ n. same_self n w; pharmacies = refl; switches = refl; up = is; packets = λ k q e. e }
payer_up_by ctx may w p (AtRest b) ok is =
    let v : World = with_payer w p (Up b) [] in
    record {
      world = v;
      starts = 1;
      few = omega arith;
      path = path_start ctx may w v (Payer p) [] ok (start_payer ctx w p b is);
      same = λ n. same_payer n w p (AtRest b) (Up b) [] is refl;
      pharmacies = refl;
      switches = refl;
      up = numbered_put w.payers p (AtRest b) (Up b) is;
      packets = λ k q e. packet_stays w.packets (Payer p) [] k q e;
    }

pub payer_up : (ctx : Context) (may : Event → Type 0) (w : World) (p : ℕ) (b : Book) → may (Starting (Payer p)) → book_at w p ≡ Some b → PayerUp ctx may w p b
payer_up ctx may w p b ok is =
    let s = map_some book_in (numbered w.payers p) b is in
    subst (PayerUp ctx may w p) s.2 (payer_up_by ctx may w p s.0 ok s.1)

-- ---- the payer answers

-- its answer is on the way to the switch that asked, and is what was decided
pub record Replied (ctx : Context) (may : Event → Type 0) (w : World) (old : ℕ) (id : TxnId) (request : List ℕ) (m : ℕ) : Type 0 where
  pub world : World
  pub path : Path ctx may w world 0 1 0
  pub booked : Booked ctx id request w world
  pub pharmacies : world.pharmacies ≡ w.pharmacies
  pub switches : world.switches ≡ w.switches
  pub answer : List ℕ
  pub decided_is : decided ctx world id ≡ Some answer
  pub from : Node
  pub packet : ℕ
  pub fresh : old < packet
  pub stands : numbered world.packets packet ≡ Some (record { from = from; to = Switch m; bytes = ctx.envelope (answer_envelope id answer) })

-- the books after one payer's step
books_left : (ctx : Context) (id : TxnId) (request : List ℕ) (w : World) (p : ℕ) (b after : Book) (sent : List Sent) → numbered w.payers p ≡ Some (Up b) → BookLeft ctx id request p (Some b) (Some after)
    → (n : ℕ) → BookLeft ctx id request n (book_at w n) (book_at (with_payer w p (Up after) sent) n)
books_left ctx id request w p b after sent is left n =
    elim (cases_eq p n) [
      | inl e ↦
          let before : book_at w n ≡ Some b = subst (λ (k : ℕ). book_at w k ≡ Some b) e (ap (option_map book_in) is) in
          let then' : book_at (with_payer w p (Up after) sent) n ≡ Some after = subst (λ (k : ℕ). book_at (with_payer w p (Up after) sent) k ≡ Some after) e (ap (option_map book_in) (numbered_put w.payers p (Up b) (Up after) is)) in
          subst (λ (x : Option Book). BookLeft ctx id request n x (book_at (with_payer w p (Up after) sent) n)) (sym before)
          (subst (λ (x : Option Book). BookLeft ctx id request n (Some b) x) (sym then') (subst (λ (k : ℕ). BookLeft ctx id request k (Some b) (Some after)) e left))
      | inr d ↦ AsItWas (ap (option_map book_in) (numbered_put_other w.payers p n (Up after) d))
    ]

-- the row of the answer, in the book after it
pub record RowThere (ctx : Context) (b : Book) (id : TxnId) (request : List ℕ) (h : RequestHeader) (a : Answered) : Type 0 where
  pub row : Row
  pub found : row_of id a.book.rows ≡ Some row
  pub request_is : row.request ≡ request
  pub text : a.bytes ≡ answer_text ctx h row

row_there : (ctx : Context) (b : Book) (advice : Advice) (id : TxnId) (request : List ℕ) (h : RequestHeader) (a : Answered) → Rows ctx b advice id request h a → RowThere ctx b id request h a
row_there ctx b advice id request h a (Known row found same book text) = record { row = row; found = subst (λ (q : Book). row_of id q.rows ≡ Some row) (sym book) found; request_is = same; text = text }
row_there ctx b advice id request h a (New fresh fits advised book text) =
    let row : Row = new_row ctx b advice id request in
    let found : row_of id (b.rows ++ row ∷ []) ≡ Some row = find_beyond _ b.rows (row ∷ []) fresh ∙ cond-true (same_id row.id row.id) (Some row) None (id_self row.id) in
    record { row = row; found = subst (λ (q : Book). row_of id q.rows ≡ Some row) (sym book) found; request_is = refl; text = text }

rows_left : (ctx : Context) (b : Book) (advice : Advice) (id : TxnId) (request : List ℕ) (p : ℕ) (h : RequestHeader) (a : Answered) → IsRouted ctx id request p → Rows ctx b advice id request h a → BookLeft ctx id request p (Some b) (Some a.book)
rows_left ctx b advice id request p h a routed (Known row found same book text) = AsItWas (ap (λ (q : Book). Some q) book)
rows_left ctx b advice id request p h a routed (New fresh fits advised book text) = OneRowMore b advice refl fresh routed (ap (λ (q : Book). Some q) book)

-- the request is handed to the payer, which answers
handed_over : (ctx : Context) (may : Event → Type 0) (w : World) (p k m : ℕ) (id : TxnId) (request : List ℕ) (b : Book) (handed : Handed b) (a : Answered) → may (Delivery k) → ((advice : List ℕ) → may (Adjudication k advice)) → numbered w.payers p ≡ Some (Up b)
    → numbered w.packets k ≡ Some (record { from = Switch m; to = Payer p; bytes = ctx.envelope (request_envelope id request) }) → ctx.read_envelope (ctx.envelope (request_envelope id request)) ≡ Ok (request_envelope id request) → answered ctx b (handed_with ctx b handed) id request ≡ Ok a
    → Path ctx may w (with_payer w p (Up a.book) (record { to = Switch m; bytes = ctx.envelope (answer_envelope id a.bytes) } ∷ [])) 0 1 0
handed_over ctx may w p k m id request b ByDelivery a ok advised up stands reads answers =
    path_delivery ctx may w _ k _ ok (request_at_payer ctx w p k (Switch m) (ctx.envelope (request_envelope id request)) (request_envelope id request) b a up stands reads refl answers)
handed_over ctx may w p k m id request b (ByAdvice advice asks) a ok advised up stands reads answers =
    path_adjudication ctx may w _ k advice _ (advised advice) (advised_at_payer ctx w p k advice (Switch m) (ctx.envelope (request_envelope id request)) (request_envelope id request) b a asks up stands reads refl answers)

pub payer_replies : (ctx : Context) (given : WorldSettings) (may : Event → Type 0) (w : World) (old : ℕ) (id : TxnId) (request : List ℕ) (m p k : ℕ) (b : Book) (handed : Handed b) (a : Answered) → Reached ctx given w → old ≤ length w.packets → old < k
    → ((k : ℕ) → old < k → may (Delivery k)) → ((k : ℕ) (advice : List ℕ) → old < k → may (Adjudication k advice)) → (known : IsKnown ctx w id request) → payer_for ctx id known.header ≡ Some p → numbered w.payers p ≡ Some (Up b) → answered ctx b (handed_with ctx b handed) id request ≡ Ok a
    → numbered w.packets k ≡ Some (record { from = Switch m; to = Payer p; bytes = ctx.envelope (request_envelope id request) }) → Replied ctx may w old id request m
payer_replies ctx given may w old id request m p k b handed a r before fresh ok advised known route up answers stands =
    let sent : List Sent = record { to = Switch m; bytes = ctx.envelope (answer_envelope id a.bytes) } ∷ [] in
    let v : World = with_payer w p (Up a.book) sent in
    let ruled = answered_ruled ctx b (handed_with ctx b handed) id request a answers in
    let same_header : ruled.header ≡ known.header = same_some _ _ (sym ruled.reads ∙ known.reads) in
    let row = row_there ctx b (handed_with ctx b handed) id request ruled.header a ruled.rows in
    let there : row_at v p id ≡ Some row.row =
    ap (λ (o : Option (Power Book Book)). option_and_then (λ (q : Book). row_of id q.rows) (option_map book_in o)) (numbered_put w.payers p (Up b) (Up a.book) up) ∙ row.found in
    let d : decided ctx v id ≡ Some (answer_text ctx known.header row.row) = decided_routed ctx v id request known.header p row.row known.asks known.reads route there row.request_is in
    let text : a.bytes ≡ answer_text ctx known.header row.row = row.text ∙ ap (λ (h : RequestHeader). answer_text ctx h row.row) same_header in
    record {
      world = v;
      path = handed_over ctx may w p k m id request b handed a (ok k fresh) (λ advice. advised k advice fresh) up stands (r.laws.envelopes (request_envelope id request) known.fits) answers;
      booked = record {
        pharmacies = λ n d. refl;
        journal = refl;
        books = books_left ctx id request w p b a.book sent up (rows_left ctx b (handed_with ctx b handed) id request p ruled.header a (record { header = known.header; reads = known.reads; route = route }) ruled.rows);
      };
      pharmacies = refl;
      switches = refl;
      answer = a.bytes;
      decided_is = d ∙ ap (λ (x : List ℕ). Some x) (sym text);
      from = Payer p;
      packet = length w.packets + 1;
      fresh = omega (arith, before);
      stands = packet_new w.packets (Payer p) (record { to = Switch m; bytes = ctx.envelope (answer_envelope id a.bytes) });
    }

-- Whose a payment is: one standing payment per fill over all books, and reversals by the owner.
use Rattle.std.proofs.Common.{◌≡◌, ℕ, zero, suc, ◌+◌, List, [], ◌∷◌, Some, Result, Ok, Err, slice_get, refl, sym, ap, ◌∙◌, subst}
use Rattle.std.specs.Prelude.{bytes_eq}
use Rattle.std.specs.List.{AllByRecursion}
use Rattle.std.proofs.lemmas.Bool.{and_parts}
use mathlib.Core.Path.{ap₂}
use Rattle.claim_model.specs.Words.{TxnId, Auth, Fill, Claim, Reversal, Order, Bills, Reverses, Code, Ruling, Paid, Duplicate, Reversed, Rejected, RequestHeader, RouteKey}
use Rattle.claim_model.specs.Context.{Context}
use Rattle.claim_model.specs.Laws.{Laws, IsClaimOf, IsReversalOf, IsOrderOf}
use Rattle.claim_model.specs.Readable.{readable, route_key, payer_for}
use Rattle.claim_model.specs.Numbered.{numbered}
use Rattle.claim_model.specs.Ruled.{Ruled, ruled_from}
use Rattle.claim_model.specs.Payments.{Payment, payment_by, payment_at, payments, is_standing, standing}
use Rattle.claim_model.specs.Rows.{Row, Book, ruled_row, ruled_rows}
use Rattle.claim_model.specs.Journal.{JournalAtRest, Kept}
use Rattle.claim_model.specs.World.{World}
use Rattle.claim_model.specs.Settings.{WorldSettings}
use Rattle.claim_model.specs.Held.{book_in, journal_at, book_at, entry_of, asked}
use Rattle.claim_model.specs.Promises.{Reached, OneStandingPayment, ReversedByOwner}
use Rattle.claim_model.proofs.Lists.{all_at, all_from, all_append, all_filter}
use Rattle.claim_model.proofs.Options.{map_some, then_some, same_some}
use Rattle.claim_model.proofs.Tests.{bytes_same}
use Rattle.claim_model.proofs.Sound.{id_at, SoundEntry, SoundRow, SoundBook, Sound}
use Rattle.claim_model.proofs.Held.{journal_sound, book_sound}
use Rattle.claim_model.proofs.Marks.{no_fill_twice_at}
use Rattle.claim_model.proofs.Ledger.{Names, Named_in, Reversing}
use Rattle.claim_model.proofs.Books.{BookLedger, Ledgers}
use Rattle.claim_model.proofs.Firm.{Firm, reached_firm}

-- where a ruling stands: in a sound row, at a group whose order it answers
pub record Source (ctx : Context) (w : World) (n : ℕ) (rows : List Row) (r : Ruled) : Type 0 where
  pub row : Row
  pub sound : SoundRow ctx w n rows row
  pub same : r.id ≡ row.id
  pub order : IsOrderOf sound.header r.order
  pub place : ℕ
  pub within : numbered (ruled_row ctx row) place ≡ Some r

ruled_at : (id : TxnId) (place : ℕ) (orders : List (Result Order (List Code))) (rulings : List Ruling) (k : ℕ) (r : Ruled) → slice_get (ruled_from id place orders rulings) k ≡ Some r → (r.id ≡ id) × (slice_get orders k ≡ Some r.order)
ruled_at id place [] rulings k r e = absurd cc
ruled_at id place (o ∷ os) [] k r e = absurd cc
ruled_at id place (o ∷ os) (g ∷ gs) zero r e =
    let same : record { id = id; place = place; order = o; ruling = g } ≡ r = cc in
    (ap (λ (x : Ruled). x.id) (sym same), ap (λ (x : Ruled). Some x.order) same)
ruled_at id place (o ∷ os) (g ∷ gs) (suc k) r e = ruled_at id (place + 1) os gs k r e

pub ruled_numbered : (id : TxnId) (place : ℕ) (orders : List (Result Order (List Code))) (rulings : List Ruling) (k : ℕ) (r : Ruled) → numbered (ruled_from id place orders rulings) k ≡ Some r → (r.id ≡ id) × (numbered orders k ≡ Some r.order)
ruled_numbered id place orders rulings zero r e = absurd cc
ruled_numbered id place orders rulings (suc k) r e = ruled_at id place orders rulings k r e

row_sources : (ctx : Context) (w : World) (n : ℕ) (rows : List Row) (row : Row) → Laws ctx → SoundRow ctx w n rows row → AllByRecursion (Source ctx w n rows) (ruled_row ctx row)
row_sources ctx w n rows row laws s =
    all_from (Source ctx w n rows) (ruled_row ctx row) (λ k r e.
    let at = ruled_numbered row.id 1 (ctx.orders row.request) row.rulings k r e in
    record { row = row; sound = s; same = at.0; order = all_at (IsOrderOf s.header) (ctx.orders row.request) k r.order (laws.orders row.request s.header s.reads) at.1; place = k; within = e })

rows_sources : (ctx : Context) (w : World) (n : ℕ) (all rows : List Row) → Laws ctx → AllByRecursion (SoundRow ctx w n all) rows → AllByRecursion (Source ctx w n all) (ruled_rows ctx rows)
rows_sources ctx w n all [] laws s = tt
rows_sources ctx w n all (row ∷ rows) laws s = all_append (Source ctx w n all) (ruled_row ctx row) (ruled_rows ctx rows) (row_sources ctx w n all row laws s.0) (rows_sources ctx w n all rows laws s.1)

-- every ruling of a sound book has its source
pub sources : (ctx : Context) (given : WorldSettings) (w : World) (n : ℕ) (b : Book) → Laws ctx → SoundBook ctx given w n b → AllByRecursion (Source ctx w n b.rows) (ruled_rows ctx b.rows)
sources ctx given w n b laws x = rows_sources ctx w n b.rows b.rows laws x.rows

pub ledger_at : (ctx : Context) (w : World) (n : ℕ) (b : Book) → Ledgers ctx w → book_at w n ≡ Some b → BookLedger ctx b
ledger_at ctx w n b l e = let p = map_some book_in (numbered w.payers n) b e in subst (BookLedger ctx) p.2 (l n p.0 p.1)

-- a payment's claim is of a header that is routed to the payer
pub record ClaimSource (ctx : Context) (n : ℕ) (p : Payment) : Type 0 where
  pub id : TxnId
  pub header : RequestHeader
  pub routed : payer_for ctx id header ≡ Some n
  pub claim : IsClaimOf header p.claim

claim_source : (ctx : Context) (w : World) (n : ℕ) (rows : List Row) (r : Ruled) (later : List Ruled) (id : TxnId) (h : RequestHeader) (order : Result Order (List Code)) (given : Ruling)
    → payer_for ctx id h ≡ Some n → IsOrderOf h order → AllByRecursion (ClaimSource ctx n) (payment_by r later order given)
claim_source ctx w n rows r later id h (Ok (Bills c)) (Paid auth m a) routed o = (record { id = id; header = h; routed = routed; claim = o }, tt)
claim_source ctx w n rows r later id h (Ok (Bills c)) (Duplicate auth m a) routed o = tt
claim_source ctx w n rows r later id h (Ok (Bills c)) (Reversed auth m) routed o = tt
claim_source ctx w n rows r later id h (Ok (Bills c)) (Rejected codes) routed o = tt
claim_source ctx w n rows r later id h (Ok (Reverses v)) given routed o = tt
claim_source ctx w n rows r later id h (Err codes) given routed o = tt

claim_sources : (ctx : Context) (w : World) (n : ℕ) (rows : List Row) (rs : List Ruled) → AllByRecursion (Source ctx w n rows) rs → AllByRecursion (ClaimSource ctx n) (payments rs)
claim_sources ctx w n rows [] s = tt
claim_sources ctx w n rows (r ∷ rs) s =
    let x : Source ctx w n rows r = s.0 in
    all_append (ClaimSource ctx n) (payment_at r rs) (payments rs) (claim_source ctx w n rows r rs x.row.id x.sound.header r.order r.ruling x.sound.routed x.order) (claim_sources ctx w n rows rs s.1)

-- what a route may look at in a fill
fill_key : Fill → RouteKey
fill_key f = record { bin = f.bin; pcn = f.pcn; qualifier = f.qualifier; provider = f.provider }

-- a claim's fill and its header are routed alike
same_key : (h : RequestHeader) (c : Claim) → IsClaimOf h c → fill_key c.fill ≡ route_key h
unfolding fill_key
same_key h c s =
    ap₂ (λ (bin pcn : List ℕ). record { bin = bin; pcn = pcn; qualifier = c.fill.qualifier; provider = c.fill.provider }) s.bin s.pcn
    ∙ ap₂ (λ (qualifier provider : List ℕ). record { bin = h.bin; pcn = h.pcn; qualifier = qualifier; provider = provider }) s.qualifier s.provider

-- the fill of a payment says which payer it has
fill_routed : (ctx : Context) (n : ℕ) (p : Payment) (s : ClaimSource ctx n p) → ctx.route s.id.number (fill_key p.claim.fill) ≡ Some n
fill_routed ctx n p s = ap (ctx.route s.id.number) (same_key s.header p.claim s.claim) ∙ s.routed

pub firm_one_standing : (ctx : Context) (given : WorldSettings) (w : World) → Firm ctx given w → OneStandingPayment ctx w
firm_one_standing ctx given w r =
    record {
      one = λ n m b c i j p q at_n at_m e f fill.
          let claims : (k : ℕ) (d : Book) → book_at w k ≡ Some d → AllByRecursion (ClaimSource ctx k) (standing (ruled_rows ctx d.rows)) =
          λ k d at. all_filter (ClaimSource ctx k) is_standing (payments (ruled_rows ctx d.rows))
          (claim_sources ctx w k d.rows (ruled_rows ctx d.rows) (sources ctx given w k d r.laws (book_sound ctx given w k d r.sound at))) in
          let of_p : ClaimSource ctx n p = all_at (ClaimSource ctx n) (standing (ruled_rows ctx b.rows)) i p (claims n b at_n) e in
          let of_q : ClaimSource ctx m q = all_at (ClaimSource ctx m) (standing (ruled_rows ctx c.rows)) j q (claims m c at_m) f in
          let to_m = ap (λ (y : Fill). ctx.route of_q.id.number (fill_key y)) fill ∙ fill_routed ctx m q of_q in
          let same : n ≡ m = r.laws.routes of_p.id.number of_q.id.number (fill_key p.claim.fill) n m (fill_routed ctx n p of_p) to_m in
          let books : c ≡ b = same_some c b (sym at_m ∙ (ap (book_at w) (sym same) ∙ at_n)) in
          let f' : numbered (standing (ruled_rows ctx b.rows)) j ≡ Some q = subst (λ (y : Book). numbered (standing (ruled_rows ctx y.rows)) j ≡ Some q) books f in
          (same, no_fill_twice_at (standing (ruled_rows ctx b.rows)) i j p q (ledger_at ctx w n b r.ledgers at_n).fills e f' fill);
    }

pub one_standing : (ctx : Context) (given : WorldSettings) (w : World) → Reached ctx given w → OneStandingPayment ctx w
one_standing ctx given w r = firm_one_standing ctx given w (reached_firm ctx given w r)

-- who asked for a request
pub record Asker (ctx : Context) (w : World) (id : TxnId) (request : List ℕ) (h : RequestHeader) : Type 0 where
  pub journal : JournalAtRest
  pub there : journal_at w id.pharmacy ≡ Some journal
  pub entry : Kept
  pub stands : numbered journal.entries id.number ≡ Some entry
  pub request_is : entry.request ≡ request
  pub qualifier : h.qualifier ≡ journal.settings.qualifier
  pub provider : h.provider ≡ journal.settings.provider

pub asker : (ctx : Context) (given : WorldSettings) (w : World) (id : TxnId) (request : List ℕ) (h : RequestHeader) → Sound ctx given w → asked w id ≡ Some request → readable ctx request ≡ Some h → Asker ctx w id request h
asker ctx given w id request h x asks reads =
    let e = map_some (λ (k : Kept). k.request) (entry_of w id) request asks in
    let j = then_some (λ (q : JournalAtRest). numbered q.entries id.number) (journal_at w id.pharmacy) e.0 e.1 in
    let s : SoundEntry ctx w j.0.settings (id_at id.pharmacy id.number) e.0 = (journal_sound ctx given w id.pharmacy j.0 x j.1).entries id.number e.0 j.2 in
    let same : s.header ≡ h = same_some _ _ (sym s.reads ∙ (ap (readable ctx) e.2 ∙ reads)) in
    let own = and_parts (bytes_eq s.header.qualifier j.0.settings.qualifier) (bytes_eq s.header.provider j.0.settings.provider) s.own in
    record {
      journal = j.0;
      there = j.1;
      entry = e.0;
      stands = j.2;
      request_is = e.2;
      qualifier = ap (λ (y : RequestHeader). y.qualifier) (sym same) ∙ bytes_same _ _ own.0;
      provider = ap (λ (y : RequestHeader). y.provider) (sym same) ∙ bytes_same _ _ own.1;
    }

pub names_reversed : (rs : List Ruled) (order : Result Order (List Code)) (given : Ruling) (auth : Auth) (m : ℕ) → Names rs order given → given ≡ Reversed auth m → (v : Reversal) × (order ≡ Ok (Reverses v)) × Reversing rs auth v
names_reversed rs (Ok (Bills c)) (Paid a k q) auth m h e = absurd cc
names_reversed rs (Ok (Bills c)) (Duplicate a k q) auth m h e = absurd cc
names_reversed rs (Ok (Bills c)) (Reversed a k) auth m h e = absurd h
names_reversed rs (Ok (Bills c)) (Rejected codes) auth m h e = absurd cc
names_reversed rs (Ok (Reverses v)) (Paid a k q) auth m h e = absurd h
names_reversed rs (Ok (Reverses v)) (Duplicate a k q) auth m h e = absurd h
names_reversed rs (Ok (Reverses v)) (Reversed a k) auth m h e = let same : a ≡ auth = cc in (v, refl, subst (λ y. Reversing rs y v) same h)
names_reversed rs (Ok (Reverses v)) (Rejected codes) auth m h e = absurd cc
names_reversed rs (Err codes) (Paid a k q) auth m h e = absurd h
names_reversed rs (Err codes) (Duplicate a k q) auth m h e = absurd h
names_reversed rs (Err codes) (Reversed a k) auth m h e = absurd h
names_reversed rs (Err codes) (Rejected rejects) auth m h e = absurd cc

-- what a Reversed ruling says: its payment, its pharmacy's journal, and that its request is a reversal
pub record OwnReversal (ctx : Context) (w : World) (n : ℕ) (b : Book) (r : Ruled) (auth : Auth) : Type 0 where
  pub source : Source ctx w n b.rows r
  pub reversal : Reversal
  pub of_it : IsReversalOf source.sound.header reversal
  pub reversing : Reversing (ruled_rows ctx b.rows) auth reversal
  pub asks : asked w r.id ≡ Some source.row.request
  pub asker_is : Asker ctx w r.id source.row.request source.sound.header
  pub qualifier : asker_is.journal.settings.qualifier ≡ reversing.payment.claim.fill.qualifier
  pub provider : asker_is.journal.settings.provider ≡ reversing.payment.claim.fill.provider

pub own_reversal : (ctx : Context) (given : WorldSettings) (w : World) (n : ℕ) (b : Book) (k : ℕ) (r : Ruled) (auth : Auth) (m : ℕ) → Laws ctx → Sound ctx given w → Ledgers ctx w
    → book_at w n ≡ Some b → numbered (ruled_rows ctx b.rows) k ≡ Some r → r.ruling ≡ Reversed auth m → OwnReversal ctx w n b r auth
own_reversal ctx given w n b k r auth m laws x l at e is =
    let s : Source ctx w n b.rows r = all_at (Source ctx w n b.rows) (ruled_rows ctx b.rows) k r (sources ctx given w n b laws (book_sound ctx given w n b x at)) e in
    let names : Named_in (ruled_rows ctx b.rows) r = all_at (Named_in (ruled_rows ctx b.rows)) (ruled_rows ctx b.rows) k r (ledger_at ctx w n b l at).names e in
    let v = names_reversed (ruled_rows ctx b.rows) r.order r.ruling auth m names is in
    let of_it : IsReversalOf s.sound.header v.0 = subst (IsOrderOf s.sound.header) v.1 s.order in
    let asks : asked w r.id ≡ Some s.row.request = ap (asked w) s.same ∙ s.sound.asks in
    let a : Asker ctx w r.id s.row.request s.sound.header = asker ctx given w r.id s.row.request s.sound.header x asks s.sound.reads in
    let c : Claim = v.2.payment.claim in
    let p₁ = and_parts (bytes_eq v.0.bin c.fill.bin) _ v.2.for_it in
    let p₂ = and_parts (bytes_eq v.0.pcn c.fill.pcn) _ p₁.1 in
    let p₃ = and_parts (bytes_eq v.0.qualifier c.fill.qualifier) _ p₂.1 in
    let p₄ = and_parts (bytes_eq v.0.provider c.fill.provider) _ p₃.1 in
    record {
      source = s;
      reversal = v.0;
      of_it = of_it;
      reversing = v.2;
      asks = asks;
      asker_is = a;
      qualifier = sym a.qualifier ∙ (sym of_it.qualifier ∙ bytes_same _ _ p₃.0);
      provider = sym a.provider ∙ (sym of_it.provider ∙ bytes_same _ _ p₄.0);
    }

pub firm_reversed_by_owner : (ctx : Context) (given : WorldSettings) (w : World) → Firm ctx given w → ReversedByOwner ctx w
firm_reversed_by_owner ctx given w r =
    record {
      reversed = λ n b k ru auth m at e is.
          let o : OwnReversal ctx w n b ru auth = own_reversal ctx given w n b k ru auth m r.laws r.sound r.ledgers at e is in
          record { payment = o.reversing.payment; found = o.reversing.found; journal = o.asker_is.journal; there = o.asker_is.there; qualifier = o.qualifier; provider = o.provider };
    }

pub reversed_by_owner : (ctx : Context) (given : WorldSettings) (w : World) → Reached ctx given w → ReversedByOwner ctx w
reversed_by_owner ctx given w r = firm_reversed_by_owner ctx given w (reached_firm ctx given w r)

-- A counted payment stands, or was reversed at a request of its own pharmacy that is still open.
use Rattle.std.proofs.Common.{◌≡◌, ℕ, zero, suc, ◌+◌, Bool, true, false, not, cond, List, [], ◌∷◌, ◌++◌, replicate, Option, Some, None, Result, Ok, Err, slice_get, refl, sym, ap, ◌∙◌, subst, ◌⊎◌, inl, inr, arith}
use Rattle.std.specs.Prelude.{option_map, option_and_then, filter, filter_map}
use Rattle.std.specs.List.{AllByRecursion, list_any, cons_option}
use Rattle.std.proofs.lemmas.Bool.{both_ways, not-true, or_left, or_right}
use mathlib.Core.Path.{ap₂}
use Rattle.claim_model.specs.Words.{TxnId, Auth, Fill, Claim, Order, Bills, Reverses, Code, BadBin, Ruling, Paid, Duplicate, Reversed, Rejected, RequestHeader}
use Rattle.claim_model.specs.Context.{Context}
use Rattle.claim_model.specs.Laws.{Laws, IsClaimOf, IsOrderOf, Spells}
use Rattle.claim_model.specs.Readable.{readable, rulings_in}
use Rattle.claim_model.specs.Numbered.{numbered}
use Rattle.claim_model.specs.Ruled.{Ruled, ruled_from, ruled_groups}
use Rattle.claim_model.specs.Payments.{Payment, same_auth, auth_reversed, is_auth, reverses, payments, payment_of}
use Rattle.claim_model.specs.Rows.{Row, Book, ruled_row, ruled_rows}
use Rattle.claim_model.specs.Book.{row_of}
use Rattle.claim_model.specs.Journal.{PharmacySettings, JournalAtRest, Kept}
use Rattle.claim_model.specs.Counted.{Counted, ruled_answer, ruled_entries, told, named_by, named, firsts, is_reversed, counted}
use Rattle.claim_model.specs.World.{World}
use Rattle.claim_model.specs.Settings.{WorldSettings}
use Rattle.claim_model.specs.Held.{journal_at, book_at, asked, row_at, decided}
use Rattle.claim_model.specs.Promises.{Reached, HeldOpen, StandsOrReversed, CountedPaymentsStand}
use Rattle.claim_model.proofs.Lists.{all_at, all_from, all_append, all_weaker, all_filter, find_all, find_passes}
use Rattle.claim_model.proofs.Options.{then_some, same_some}
use Rattle.claim_model.proofs.Tests.{auth_same}
use Rattle.claim_model.proofs.Given.{passed}
use Rattle.claim_model.proofs.Providers.{one_pharmacy}
use Rattle.claim_model.proofs.Sound.{id_at, SoundEntry, SoundJournal, SoundRow, Sound}
use Rattle.claim_model.proofs.Decided.{Origin, From, Row_of, Fixed, origin, row_there}
use Rattle.claim_model.proofs.Held.{journal_sound, book_sound}
use Rattle.claim_model.proofs.Marks.{Reverser, HasReverser, payments_reversers}
use Rattle.claim_model.proofs.Ledger.{Names, Named_in, PaidFor, Given}
use Rattle.claim_model.proofs.Books.{BookLedger, Ledgers}
use Rattle.claim_model.proofs.Firm.{Firm, reached_firm}
use Rattle.claim_model.proofs.Owners.{Source, sources, ledger_at, Asker, asker, OwnReversal, own_reversal}

-- lists

pub all_in_row : (P : Ruled → Type 0) (ctx : Context) (rows : List Row) (test : Row → Bool) (row : Row) → AllByRecursion P (ruled_rows ctx rows) → Rattle.std.specs.Prelude.find test rows ≡ Some row → AllByRecursion P (ruled_row ctx row)
all_in_row P ctx [] test row all e = absurd cc
all_in_row P ctx (r ∷ rows) test row all e =
    elim (Rattle.claim_model.proofs.Lists.find_cases (test r) r row (Rattle.std.specs.Prelude.find test rows) e) [
      | inl h ↦ subst (λ y. AllByRecursion P (ruled_row ctx y)) h.1 (front P (ruled_row ctx r) (ruled_rows ctx rows) all)
      | inr h ↦ all_in_row P ctx rows test row (back P (ruled_row ctx r) (ruled_rows ctx rows) all) h.1
    ]
  where
    front : (P : Ruled → Type 0) (xs ys : List Ruled) → AllByRecursion P (xs ++ ys) → AllByRecursion P xs
    front P [] ys a = tt
    front P (x ∷ xs) ys a = (a.0, front P xs ys a.1)

    back : (P : Ruled → Type 0) (xs ys : List Ruled) → AllByRecursion P (xs ++ ys) → AllByRecursion P ys
    back P [] ys a = a
    back P (x ∷ xs) ys a = back P xs ys a.1

any_append_left : {A : Type 0} (test : A → Bool) (xs ys : List A) → list_any test xs ≡ true → list_any test (xs ++ ys) ≡ true
any_append_left test [] ys e = absurd (Rattle.std.proofs.lemmas.Bool.false≢true e)
any_append_left test (x ∷ xs) ys e =
    elim (Rattle.std.proofs.lemmas.Bool.or_cases (test x) (list_any test xs) e) [
      | inl h ↦ or_left (test x) (list_any test (xs ++ ys)) h
      | inr h ↦ or_right (test x) (list_any test (xs ++ ys)) (any_append_left test xs ys h)
    ]

any_append_right : {A : Type 0} (test : A → Bool) (xs ys : List A) → list_any test ys ≡ true → list_any test (xs ++ ys) ≡ true
any_append_right test [] ys e = e
any_append_right test (x ∷ xs) ys e = or_right (test x) (list_any test (xs ++ ys)) (any_append_right test xs ys e)

any_at : {A : Type 0} (test : A → Bool) (xs : List A) (k : ℕ) (a : A) → slice_get xs k ≡ Some a → test a ≡ true → list_any test xs ≡ true
any_at test [] k a e t = absurd cc
any_at test (x ∷ xs) zero a e t = let same : x ≡ a = cc in or_left (test x) (list_any test xs) (subst (λ y. test y ≡ true) (sym same) t)
any_at test (x ∷ xs) (suc k) a e t = or_right (test x) (list_any test xs) (any_at test xs k a e t)

any_numbered : {A : Type 0} (test : A → Bool) (xs : List A) (k : ℕ) (a : A) → numbered xs k ≡ Some a → test a ≡ true → list_any test xs ≡ true
any_numbered test xs zero a e t = absurd cc
any_numbered test xs (suc k) a e t = any_at test xs k a e t

-- what stands in the answer of one entry stands in all that a pharmacy was told
any_told : (ctx : Context) (test : Ruled → Bool) (pharmacy m : ℕ) (es : List Kept) (k : ℕ) (e : Kept) → slice_get es k ≡ Some e → list_any test (ruled_answer ctx (id_at pharmacy (m + k)) e.request e.answer) ≡ true
    → list_any test (ruled_entries ctx pharmacy m es) ≡ true
any_told ctx test pharmacy m [] k e at h = absurd cc
any_told ctx test pharmacy m (f ∷ es) zero e at h =
    let same : f ≡ e = cc in
    let z : m + 0 ≡ m = omega arith in
    any_append_left test (ruled_answer ctx (id_at pharmacy m) f.request f.answer) (ruled_entries ctx pharmacy (m + 1) es)
    (subst (λ (n : ℕ). list_any test (ruled_answer ctx (id_at pharmacy n) f.request f.answer) ≡ true) z (subst (λ (y : Kept). list_any test (ruled_answer ctx (id_at pharmacy (m + 0)) y.request y.answer) ≡ true) (sym same) h))
any_told ctx test pharmacy m (f ∷ es) (suc k) e at h =
    let n : m + suc k ≡ m + 1 + k = omega arith in
    any_append_right test (ruled_answer ctx (id_at pharmacy m) f.request f.answer) (ruled_entries ctx pharmacy (m + 1) es)
    (any_told ctx test pharmacy (m + 1) es k e at (subst (λ (y : ℕ). list_any test (ruled_answer ctx (id_at pharmacy y) e.request e.answer) ≡ true) n h))

-- what holds of the rulings in every answer holds of all that a pharmacy was told
all_told : (P : Ruled → Type 0) (ctx : Context) (pharmacy m : ℕ) (es : List Kept) → ((k : ℕ) (e : Kept) → slice_get es k ≡ Some e → AllByRecursion P (ruled_answer ctx (id_at pharmacy (m + k)) e.request e.answer))
    → AllByRecursion P (ruled_entries ctx pharmacy m es)
all_told P ctx pharmacy m [] each = tt
all_told P ctx pharmacy m (e ∷ es) each =
    let z : m + 0 ≡ m = omega arith in
    all_append P (ruled_answer ctx (id_at pharmacy m) e.request e.answer) (ruled_entries ctx pharmacy (m + 1) es)
    (subst (λ (n : ℕ). AllByRecursion P (ruled_answer ctx (id_at pharmacy n) e.request e.answer)) z (each 0 e refl))
    (all_told P ctx pharmacy (m + 1) es (λ k f at.
    let n : m + suc k ≡ m + 1 + k = omega arith in
    subst (λ (y : ℕ). AllByRecursion P (ruled_answer ctx (id_at pharmacy y) f.request f.answer)) n (each (suc k) f at)))

-- what holds of each payment that is named holds of the first ones
all_named : (P : Counted → Type 0) (Q : Ruled → Type 0) → ((r : Ruled) (c : Counted) → Q r → named r ≡ Some c → P c) → (rs : List Ruled) → AllByRecursion Q rs → AllByRecursion P (filter_map named rs)
all_named P Q f [] all = tt
all_named P Q f (r ∷ rs) all = by_name (named r) (λ c e. f r c all.0 e) (all_named P Q f rs all.1)
  where
    by_name : (o : Option Counted) → ((c : Counted) → o ≡ Some c → P c) → AllByRecursion P (filter_map named rs) → AllByRecursion P (cons_option o (filter_map named rs))
    by_name None g a = a
    by_name (Some c) g a = (g c refl, a)

all_firsts : (P : Counted → Type 0) (cs : List Counted) → AllByRecursion P cs → AllByRecursion P (firsts cs)
all_firsts P [] all = tt
all_firsts P (c ∷ cs) all = (all.0, all_filter P (λ (d : Counted). not (same_auth d.auth c.auth)) (firsts cs) (all_firsts P cs all.1))

all_passing : {A : Type 0} (P Q : A → Type 0) (test : A → Bool) → ((a : A) → P a → test a ≡ true → Q a) → (xs : List A) → AllByRecursion P xs → AllByRecursion Q (filter test xs)
all_passing P Q test f [] all = tt
all_passing P Q test f (x ∷ xs) all = by_test (test x) refl (all_passing P Q test f xs all.1)
  where
    by_test : (b : Bool) → test x ≡ b → AllByRecursion Q (filter test xs) → AllByRecursion Q (cond b (x ∷ filter test xs) (filter test xs))
    by_test true is a = (f x all.0 is, a)
    by_test false is a = a

-- what a pharmacy is told

-- the row whose answer an entry has
pub record ToldBy (ctx : Context) (w : World) (n : ℕ) (id : TxnId) (request : List ℕ) (row : Row) : Type 0 where
  pub there : row_at w n id ≡ Some row
  pub same_id : row.id ≡ id
  pub same_request : row.request ≡ request

-- the rulings in an answer are those of its row, or reject every group
pub data Told (ctx : Context) (w : World) (id : TxnId) (request answer : List ℕ) : Type 0 where
  Ruled_by : (n : ℕ) → (row : Row) → ToldBy ctx w n id request row → ruled_groups ctx id request (rulings_in (ctx.read_answer answer)) ≡ ruled_row ctx row → Told ctx w id request answer
  Turned_down : (count : ℕ) → rulings_in (ctx.read_answer answer) ≡ replicate count (Rejected (BadBin ∷ [])) → Told ctx w id request answer

spelled : (ctx : Context) (h : RequestHeader) (rulings : List Ruling) (answer : List ℕ) → Spells ctx h rulings answer → rulings_in (ctx.read_answer answer) ≡ rulings
spelled ctx h rulings answer s = ap rulings_in s.reads ∙ s.rulings_are

told_from : (ctx : Context) (given : WorldSettings) (w : World) (id : TxnId) (request answer : List ℕ) → Laws ctx → Sound ctx given w → asked w id ≡ Some request → (o : Origin ctx w id answer) → From ctx w id o.header o.rulings → Told ctx w id request answer
told_from ctx given w id request answer laws x asks o (Row_of n row route at same) =
    let t = row_there ctx given w n id row x at in
    let is : row.request ≡ request = same_some _ _ (sym t.sound.asks ∙ (ap (asked w) t.same ∙ asks)) in
    Ruled_by n row (record { there = at; same_id = t.same; same_request = is })
    (ap₂ (λ (i : TxnId) (q : List ℕ). ruled_groups ctx i q (rulings_in (ctx.read_answer answer))) (sym t.same) (sym is)
    ∙ ap (ruled_groups ctx row.id row.request) (spelled ctx o.header o.rulings answer o.spells ∙ sym same))
told_from ctx given w id request answer laws x asks o (Fixed route same) = Turned_down o.header.count (spelled ctx o.header o.rulings answer o.spells ∙ same)

pub told_is : (ctx : Context) (given : WorldSettings) (w : World) (id : TxnId) (request answer : List ℕ) → Laws ctx → Sound ctx given w → asked w id ≡ Some request → decided ctx w id ≡ Some answer → Told ctx w id request answer
told_is ctx given w id request answer laws x asks d = let o = origin ctx given w id answer laws x d in told_from ctx given w id request answer laws x asks o.0 o.1

-- the book, the source and the ledger's word for a ruling that a pharmacy was told
pub record Known (ctx : Context) (w : World) (r : Ruled) : Type 0 where
  pub payer : ℕ
  pub book : Book
  pub there : book_at w payer ≡ Some book
  pub source : Source ctx w payer book.rows r
  pub names : Named_in (ruled_rows ctx book.rows) r

abbrev pub IsRejected : Ruled → Type 0
IsRejected r = (codes : List Code) × (r.ruling ≡ Rejected codes)

-- a ruling rejects, or is known
abbrev pub Heard : Context → World → Ruled → Type 0
Heard ctx w r = IsRejected r ⊎ Known ctx w r

all_rejected : (id : TxnId) (place count : ℕ) (orders : List (Result Order (List Code))) (codes : List Code) → AllByRecursion IsRejected (ruled_from id place orders (replicate count (Rejected codes)))
all_rejected id place count [] codes = tt
all_rejected id place zero (o ∷ os) codes = tt
all_rejected id place (suc count) (o ∷ os) codes = ((codes, refl), all_rejected id (place + 1) count os codes)

-- a rejection names no payment
rejected_unnamed : (order : Result Order (List Code)) (codes : List Code) (c : Counted) → named_by order (Rejected codes) ≡ Some c → ⊥
rejected_unnamed (Ok (Bills d)) codes c e = cc
rejected_unnamed (Ok (Reverses v)) codes c e = cc
rejected_unnamed (Err rejects) codes c e = cc

row_known : (ctx : Context) (given : WorldSettings) (w : World) (n : ℕ) (id : TxnId) (row : Row) → Laws ctx → Sound ctx given w → Ledgers ctx w → row_at w n id ≡ Some row → AllByRecursion (Heard ctx w) (ruled_row ctx row)
row_known ctx given w n id row laws x l at =
    let b = then_some (λ (b : Book). row_of id b.rows) (book_at w n) row at in
    let s = sources ctx given w n b.0 laws (book_sound ctx given w n b.0 x b.1) in
    let names = (ledger_at ctx w n b.0 l b.1).names in
    all_from (Heard ctx w) (ruled_row ctx row) (λ k r e.
    inr (record {
      payer = n;
      book = b.0;
      there = b.1;
      source = all_at (Source ctx w n b.0.rows) (ruled_row ctx row) k r (all_in_row (Source ctx w n b.0.rows) ctx b.0.rows _ row s b.2) e;
      names = all_at (Named_in (ruled_rows ctx b.0.rows)) (ruled_row ctx row) k r (all_in_row (Named_in (ruled_rows ctx b.0.rows)) ctx b.0.rows _ row names b.2) e;
    }))

told_known : (ctx : Context) (given : WorldSettings) (w : World) (id : TxnId) (request answer : List ℕ) → Laws ctx → Sound ctx given w → Ledgers ctx w → Told ctx w id request answer
    → AllByRecursion (Heard ctx w) (ruled_groups ctx id request (rulings_in (ctx.read_answer answer)))
told_known ctx given w id request answer laws x l (Ruled_by n row t same) = subst (AllByRecursion (Heard ctx w)) (sym same) (row_known ctx given w n id row laws x l t.there)
told_known ctx given w id request answer laws x l (Turned_down count same) =
    subst (λ (rs : List Ruling). AllByRecursion (Heard ctx w) (ruled_groups ctx id request rs)) (sym same)
    (all_weaker IsRejected (Heard ctx w) (λ r e. inl e) _ (all_rejected id 1 count (ctx.orders request) (BadBin ∷ [])))

-- every ruling that a pharmacy was told, with its id
abbrev pub HeardAt : Context → World → ℕ → Ruled → Type 0
HeardAt ctx w n r = Heard ctx w r × (r.id.pharmacy ≡ n)

entry_known : (ctx : Context) (given : WorldSettings) (w : World) (n : ℕ) (s : PharmacySettings) (id : TxnId) (e : Kept) (o : Option (List ℕ)) → Laws ctx → Sound ctx given w → Ledgers ctx w → asked w id ≡ Some e.request
    → ((a : List ℕ) → o ≡ Some a → decided ctx w id ≡ Some a) → id.pharmacy ≡ n → AllByRecursion (HeardAt ctx w n) (ruled_answer ctx id e.request o)
entry_known ctx given w n s id e None laws x l asks d here = tt
entry_known ctx given w n s id e (Some a) laws x l asks d here =
    let all = told_known ctx given w id e.request a laws x l (told_is ctx given w id e.request a laws x asks (d a refl)) in
    all_from (HeardAt ctx w n) _ (λ k r at.
    (all_at (Heard ctx w) _ k r all at, ap (λ (i : TxnId). i.pharmacy) (Rattle.claim_model.proofs.Owners.ruled_numbered id 1 (ctx.orders e.request) (rulings_in (ctx.read_answer a)) k r at).0 ∙ here))

-- an entry is asked for
entry_asks : (w : World) (n : ℕ) (j : JournalAtRest) (k : ℕ) (e : Kept) → journal_at w n ≡ Some j → numbered j.entries k ≡ Some e → asked w (id_at n k) ≡ Some e.request
entry_asks w n j k e there at =
    ap (λ (o : Option JournalAtRest). option_map (λ (q : Kept). q.request) (option_and_then (λ (q : JournalAtRest). numbered q.entries k) o)) there
    ∙ ap (λ (o : Option Kept). option_map (λ (q : Kept). q.request) o) at

pub all_heard : (ctx : Context) (given : WorldSettings) (w : World) (n : ℕ) (j : JournalAtRest) → Laws ctx → Sound ctx given w → Ledgers ctx w → journal_at w n ≡ Some j → AllByRecursion (HeardAt ctx w n) (told ctx j)
all_heard ctx given w n j laws x l there =
    let sj = journal_sound ctx given w n j x there in
    subst (λ (p : ℕ). AllByRecursion (HeardAt ctx w n) (ruled_entries ctx p 1 j.entries)) (sym sj.number)
    (all_told (HeardAt ctx w n) ctx n 1 j.entries (λ k e at.
    let num : suc k ≡ 1 + k = omega arith in
    subst (λ (m : ℕ). AllByRecursion (HeardAt ctx w n) (ruled_answer ctx (id_at n m) e.request e.answer)) num
    (entry_known ctx given w n j.settings (id_at n (suc k)) e e.answer laws x l (entry_asks w n j (suc k) e there at) ((sj.entries (suc k) e at).answer) refl)))

-- a payment that is named

-- the payment that a pharmacy was told of, and that its claim is this pharmacy's own
pub record Paid_to (ctx : Context) (w : World) (n : ℕ) (j : JournalAtRest) (c : Counted) : Type 0 where
  pub book : Book
  pub there : book_at w c.auth.payer ≡ Some book
  pub payment : Payment
  pub found : payment_of c.auth (ruled_rows ctx book.rows) ≡ Some payment
  pub fill : payment.claim.fill ≡ c.fill
  pub amounts : payment.amounts ≡ c.amounts
  pub qualifier : c.fill.qualifier ≡ j.settings.qualifier
  pub provider : c.fill.provider ≡ j.settings.provider

-- the payment after a Paid or a Duplicate ruling
named_payment : (rs : List Ruled) (order : Result Order (List Code)) (given : Ruling) (c : Counted) → Names rs order given → named_by order given ≡ Some c
    → (claim : Claim) × (order ≡ Ok (Bills claim)) × (claim.fill ≡ c.fill) × PaidFor rs c.auth c.fill c.amounts
named_payment rs (Ok (Bills c)) (Paid a m q) d h e =
    let same : record { auth = a; fill = c.fill; amounts = q } ≡ d = same_some _ d e in
    (c, refl, ap (λ (y : Counted). y.fill) same, subst (λ (y : Counted). PaidFor rs y.auth y.fill y.amounts) same (record { payment = h.payment; found = h.found; fill_is = ap (λ (y : Claim). y.fill) h.claim_is; amounts_are = h.amounts_are }))
named_payment rs (Ok (Bills c)) (Duplicate a m q) d h e =
    let same : record { auth = a; fill = c.fill; amounts = q } ≡ d = same_some _ d e in
    (c, refl, ap (λ (y : Counted). y.fill) same, subst (λ (y : Counted). PaidFor rs y.auth y.fill y.amounts) same h)
named_payment rs (Ok (Bills c)) (Reversed a m) d h e = absurd h
named_payment rs (Ok (Bills c)) (Rejected codes) d h e = absurd cc
named_payment rs (Ok (Reverses v)) given d h e = absurd cc
named_payment rs (Err codes) given d h e = absurd cc

heard_paid : (ctx : Context) (given : WorldSettings) (w : World) (n : ℕ) (j : JournalAtRest) (r : Ruled) (c : Counted) → Laws ctx → Sound ctx given w → Ledgers ctx w → journal_at w n ≡ Some j → HeardAt ctx w n r → named r ≡ Some c → Paid_to ctx w n j c
heard_paid ctx given w n j r c laws x l there (inl rejected, here) e = absurd (rejected_unnamed r.order rejected.0 c (ap (named_by r.order) (sym rejected.1) ∙ e))
heard_paid ctx given w n j r c laws x l there (inr k, here) e =
    let rs : List Ruled = ruled_rows ctx k.book.rows in
    let p = named_payment rs r.order r.ruling c k.names e in
    let led : BookLedger ctx k.book = ledger_at ctx w k.payer k.book l k.there in
    let g : Given k.book.payer _ p.3.payment = find_all (Given k.book.payer _) _ (payments rs) p.3.payment led.serials p.3.found in
    let auth : p.3.payment.auth ≡ c.auth = auth_same _ _ (find_passes _ (payments rs) p.3.payment p.3.found) in
    let payer : k.payer ≡ c.auth.payer = sym (book_sound ctx given w k.payer k.book x k.there).payer ∙ (sym g.payer_is ∙ ap (λ (a : Auth). a.payer) auth) in
    let of_it : IsClaimOf k.source.sound.header p.0 = subst (IsOrderOf k.source.sound.header) p.1 k.source.order in
    let asks : asked w r.id ≡ Some k.source.row.request = ap (asked w) k.source.same ∙ k.source.sound.asks in
    let a : Asker ctx w r.id k.source.row.request k.source.sound.header = asker ctx given w r.id k.source.row.request k.source.sound.header x asks k.source.sound.reads in
    let own : a.journal ≡ j = same_some _ _ (sym a.there ∙ (ap (journal_at w) here ∙ there)) in
    record {
      book = k.book;
      there = subst (λ (m : ℕ). book_at w m ≡ Some k.book) payer k.there;
      payment = p.3.payment;
      found = p.3.found;
      fill = p.3.fill_is;
      amounts = p.3.amounts_are;
      qualifier = ap (λ (y : Fill). y.qualifier) (sym p.2) ∙ (of_it.qualifier ∙ (a.qualifier ∙ ap (λ (y : JournalAtRest). y.settings.qualifier) own));
      provider = ap (λ (y : Fill). y.provider) (sym p.2) ∙ (of_it.provider ∙ (a.provider ∙ ap (λ (y : JournalAtRest). y.settings.provider) own));
    }

-- a payment that was reversed

any_told_numbered : (ctx : Context) (test : Ruled → Bool) (pharmacy : ℕ) (es : List Kept) (m : ℕ) (e : Kept) → numbered es m ≡ Some e → list_any test (ruled_answer ctx (id_at pharmacy m) e.request e.answer) ≡ true → list_any test (ruled_entries ctx pharmacy 1 es) ≡ true
any_told_numbered ctx test pharmacy es zero e at h = absurd cc
any_told_numbered ctx test pharmacy es (suc k) e at h =
    let num : suc k ≡ 1 + k = omega arith in
    any_told ctx test pharmacy 1 es k e at (subst (λ (m : ℕ). list_any test (ruled_answer ctx (id_at pharmacy m) e.request e.answer) ≡ true) num h)

pub reverses_ruling : (auth : Auth) (g : Ruling) → is_auth auth (auth_reversed g) ≡ true → (m : ℕ) × (g ≡ Reversed auth m)
reverses_ruling auth (Reversed a m) e = (m, ap (λ (x : Auth). Reversed x m) (auth_same a auth e))
reverses_ruling auth (Paid a m q) e = absurd (Rattle.std.proofs.lemmas.Bool.false≢true e)
reverses_ruling auth (Duplicate a m q) e = absurd (Rattle.std.proofs.lemmas.Bool.false≢true e)
reverses_ruling auth (Rejected codes) e = absurd (Rattle.std.proofs.lemmas.Bool.false≢true e)

-- the answer of a row, read in a journal, is that row's rulings
told_row : (ctx : Context) (w : World) (n : ℕ) (rows : List Row) (row : Row) (id : TxnId) (request a : List ℕ) → Laws ctx → SoundRow ctx w n rows row → row_at w n row.id ≡ Some row → row.id ≡ id → request ≡ row.request → decided ctx w id ≡ Some a
    → ruled_groups ctx id request (rulings_in (ctx.read_answer a)) ≡ ruled_row ctx row
told_row ctx w n rows row id request a laws s there same_id same_request d =
    let text : Rattle.claim_model.specs.Readable.answer_text ctx s.header row ≡ a =
    same_some _ a (sym (Rattle.claim_model.proofs.Decided.decided_routed ctx w row.id row.request s.header n row s.asks s.reads s.routed there refl) ∙ (ap (decided ctx w) same_id ∙ d)) in
    let spells : Spells ctx s.header row.rulings a = subst (Spells ctx s.header row.rulings) text (Rattle.claim_model.proofs.Decided.row_spells ctx row.request s.header row laws s.reads s.count s.written) in
    ap₂ (λ (i : TxnId) (q : List ℕ). ruled_groups ctx i q (rulings_in (ctx.read_answer a))) (sym same_id) same_request ∙ ap (ruled_groups ctx row.id row.request) (spelled ctx s.header row.rulings a spells)

-- an entry whose answer reverses a payment that is counted has no answer
open_by : (ctx : Context) (w : World) (n m : ℕ) (b : Book) (j : JournalAtRest) (r : Ruled) (auth : Auth) (e : Kept) (o : Option (List ℕ)) → Laws ctx → (s : Source ctx w m b.rows r) → book_at w m ≡ Some b → j.number ≡ n → r.id.pharmacy ≡ n
    → numbered j.entries r.id.number ≡ Some e → e.request ≡ s.row.request → ((a : List ℕ) → o ≡ Some a → decided ctx w r.id ≡ Some a) → reverses auth r ≡ true → list_any (reverses auth) (told ctx j) ≡ false → e.answer ≡ o → o ≡ None
open_by ctx w n m b j r auth e None laws s there number here stands request d reversing free is = refl
open_by ctx w n m b j r auth e (Some a) laws s there number here stands request d reversing free is =
    let at : row_at w m s.row.id ≡ Some s.row = ap (λ (q : Option Book). option_and_then (λ (q : Book). row_of s.row.id q.rows) q) there ∙ s.sound.found in
    let same : ruled_groups ctx r.id e.request (rulings_in (ctx.read_answer a)) ≡ ruled_row ctx s.row = told_row ctx w m b.rows s.row r.id e.request a laws s.sound at (sym s.same) request (d a refl) in
    let any : list_any (reverses auth) (ruled_row ctx s.row) ≡ true = any_numbered (reverses auth) (ruled_row ctx s.row) s.place r s.within reversing in
    let any' : list_any (reverses auth) (ruled_answer ctx r.id e.request (Some a)) ≡ true = subst (λ (rs : List Ruled). list_any (reverses auth) rs ≡ true) (sym same) any in
    let any'' : list_any (reverses auth) (ruled_answer ctx (id_at j.number r.id.number) e.request e.answer) ≡ true =
    subst (λ (q : Option (List ℕ)). list_any (reverses auth) (ruled_answer ctx (id_at j.number r.id.number) e.request q) ≡ true) (sym is)
    (subst (λ (p : ℕ). list_any (reverses auth) (ruled_answer ctx (id_at p r.id.number) e.request (Some a)) ≡ true) (here ∙ sym number) any') in
    absurd (both_ways (list_any (reverses auth) (told ctx j)) free (any_told_numbered ctx (reverses auth) j.number j.entries r.id.number e stands any''))

-- each ruling that reverses a payment that is counted is of an id that is held open
open_reverser : (ctx : Context) (given : WorldSettings) (w : World) (n : ℕ) (j : JournalAtRest) (c : Counted) (k : ℕ) (r : Ruled) → Firm ctx given w → journal_at w n ≡ Some j → (p : Paid_to ctx w n j c)
    → is_reversed (told ctx j) c ≡ false → numbered (ruled_rows ctx p.book.rows) k ≡ Some r → reverses c.auth r ≡ true → HeldOpen ctx n j r.id
open_reverser ctx given w n j c k r firm there p free at reversing =
    let rs : List Ruled = ruled_rows ctx p.book.rows in
    let g = reverses_ruling c.auth r.ruling reversing in
    let o : OwnReversal ctx w c.auth.payer p.book r c.auth = own_reversal ctx given w c.auth.payer p.book k r c.auth g.0 firm.laws firm.sound firm.ledgers p.there at g.1 in
    let same : o.reversing.payment ≡ p.payment = same_some _ _ (sym o.reversing.found ∙ p.found) in
    let a : Asker ctx w r.id o.source.row.request o.source.sound.header = o.asker_is in
    let theirs : SoundJournal ctx given w r.id.pharmacy a.journal = journal_sound ctx given w r.id.pharmacy a.journal firm.sound a.there in
    let ours : SoundJournal ctx given w n j = journal_sound ctx given w n j firm.sound there in
    let fill : o.reversing.payment.claim.fill ≡ c.fill = ap (λ (y : Payment). y.claim.fill) same ∙ p.fill in
    let qualifier : a.journal.settings.qualifier ≡ j.settings.qualifier = o.qualifier ∙ (ap (λ (y : Fill). y.qualifier) fill ∙ p.qualifier) in
    let provider : a.journal.settings.provider ≡ j.settings.provider = o.provider ∙ (ap (λ (y : Fill). y.provider) fill ∙ p.provider) in
    let here : r.id.pharmacy ≡ n = one_pharmacy given.pharmacies r.id.pharmacy n a.journal.settings j.settings (passed given firm.accepts.no_fault).providers theirs.settings ours.settings qualifier provider in
    let journal : a.journal ≡ j = same_some _ _ (sym a.there ∙ (ap (journal_at w) here ∙ there)) in
    let stands : numbered j.entries r.id.number ≡ Some a.entry = subst (λ (y : JournalAtRest). numbered y.entries r.id.number ≡ Some a.entry) journal a.stands in
    let sound : SoundEntry ctx w j.settings (id_at n r.id.number) a.entry = ours.entries r.id.number a.entry stands in
    let is_open : a.entry.answer ≡ None =
    open_by ctx w n c.auth.payer p.book j r c.auth a.entry a.entry.answer firm.laws o.source p.there ours.number here stands a.request_is
    (λ b h. subst (λ (m : ℕ). decided ctx w (id_at m r.id.number) ≡ Some b) (sym here) (sound.answer b h)) reversing free refl in
    record {
      of_it = here;
      entry = a.entry;
      stands = stands;
      header = o.source.sound.header;
      reads = ap (readable ctx) a.request_is ∙ o.source.sound.reads;
      is_reversal = o.of_it.code;
      is_open = is_open;
    }

held_open : (ctx : Context) (given : WorldSettings) (w : World) (n : ℕ) (j : JournalAtRest) (c : Counted) (id : TxnId) → Firm ctx given w → journal_at w n ≡ Some j → (p : Paid_to ctx w n j c)
    → is_reversed (told ctx j) c ≡ false → p.payment.reversed_by ≡ Some id → HeldOpen ctx n j id
held_open ctx given w n j c id firm there p free e =
    let rs : List Ruled = ruled_rows ctx p.book.rows in
    let v : Reverser rs p.payment.auth id = find_all (HasReverser rs) _ (payments rs) p.payment (payments_reversers rs) p.found id e in
    let auth : p.payment.auth ≡ c.auth = auth_same _ _ (find_passes _ (payments rs) p.payment p.found) in
    subst (HeldOpen ctx n j) v.same
    (open_reverser ctx given w n j c v.number v.ruled firm there p free v.stands (subst (λ (y : Auth). reverses y v.ruled ≡ true) auth v.reversing))

all_counted : (ctx : Context) (given : WorldSettings) (w : World) (n : ℕ) (j : JournalAtRest) → Firm ctx given w → journal_at w n ≡ Some j → AllByRecursion (StandsOrReversed ctx w n j) (counted ctx j)
unfolding counted
all_counted ctx given w n j firm there =
    let named_all : AllByRecursion (Paid_to ctx w n j) (filter_map named (told ctx j)) =
    all_named (Paid_to ctx w n j) (HeardAt ctx w n) (λ r c h e. heard_paid ctx given w n j r c firm.laws firm.sound firm.ledgers there h e) (told ctx j) (all_heard ctx given w n j firm.laws firm.sound firm.ledgers there) in
    all_passing (Paid_to ctx w n j) (StandsOrReversed ctx w n j) (λ (c : Counted). not (is_reversed (told ctx j) c))
    (λ c p free. record {
      book = p.book;
      there = p.there;
      payment = p.payment;
      found = p.found;
      fill = p.fill;
      amounts = p.amounts;
      reversed = λ id e. held_open ctx given w n j c id firm there p (not-true (is_reversed (told ctx j) c) free) e;
      reversals = λ k r e h. open_reverser ctx given w n j c k r firm there p (not-true (is_reversed (told ctx j) c) free) e h;
    })
    (firsts (filter_map named (told ctx j))) (all_firsts (Paid_to ctx w n j) (filter_map named (told ctx j)) named_all)

pub firm_counted_stand : (ctx : Context) (given : WorldSettings) (w : World) → Firm ctx given w → CountedPaymentsStand ctx w
firm_counted_stand ctx given w firm =
    record { counts = λ n j k c there e. all_at (StandsOrReversed ctx w n j) (counted ctx j) k c (all_counted ctx given w n j firm there) e }

pub counted_stand : (ctx : Context) (given : WorldSettings) (w : World) → Reached ctx given w → CountedPaymentsStand ctx w
counted_stand ctx given w r = firm_counted_stand ctx given w (reached_firm ctx given w r)

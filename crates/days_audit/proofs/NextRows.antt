-- A kept row that stands in a book is a next row: the rules give its rulings for some plan or advice, and they can be written.
use Rattle.std.proofs.Common.{◌≡◌, ℕ, ◌+◌, ◌≤◌, Bool, true, false, cond, List, [], ◌∷◌, ◌++◌, Option, Some, None, Result, Ok, Err, inl, inr, refl, sym, ap, ◌∙◌, subst, append_assoc, arith, leb-true}
use Rattle.std.specs.Prelude.{count_by}
use Rattle.std.specs.List.{AllByRecursion, list_all}
use Rattle.std.proofs.lemmas.Bool.{and_parts}
use Rattle.std.proofs.lemmas.List.{append-nil}
use Rattle.claim_profile.specs.Ruling.{IsCode}
use Rattle.bin_routes.specs.Table.{RouteMaps}
use Rattle.claim_model.specs.Words.{TxnId, RequestHeader, Auth, Claim, Reversal, Order, Bills, Reverses, Code, Ruling, Duplicate, Rejected}
use Rattle.claim_model.specs.Laws.{Laws, IsClaimOf, IsOrderOf, IsPrescription, IsRejects, IsRuling}
use Rattle.claim_model.specs.Bytes.{bytes_with}
use Rattle.claim_model.specs.Readable.{readable}
use Rattle.claim_model.specs.Ruled.{Ruled, ruled}
use Rattle.claim_model.specs.Payments.{Payment, payments, is_standing, standing}
use Rattle.claim_model.specs.Rows.{Row, Book, ruled_rows}
use Rattle.claim_model.specs.Judgement.{Judged, Unpriced, ToPrice, ToReverse, asks_reversals, Allows, Denies, judged, judged_claim, judged_reversal, same_claim, is_for, standing_for, payment_to_reverse, Pays, Rejects, is_paid, next_serial, next_auth, priced}
use Rattle.claim_model.specs.Book.{serial_fits}
use Rattle.claim_model.proofs.BytesLaws.{readable_alike}
use Rattle.claim_model.proofs.Lists.{all_append, all_filter, find_all}
use Rattle.claim_model.proofs.Written.{IsWritten, RuledWritten, payments_written, only_all, MayPay, rows_written}
use Rattle.payer_book.specs.Books.{reading}
use Rattle.payer_book.specs.Added.{row_saying, with_row}
use Rattle.payer_book.specs.Following.{MayReject, MayDeny, FollowsRules, AllFollow, RowStands}
use Rattle.vouched_runs.specs.Agreeing.{RulesGive, RulesGiveAll, IsNextRow, AreNextRows}

-- ---- what follows the rules is what they give

rule_gives : (b : Book) (before : List Ruled) (j : Judged) (r : Ruling) → FollowsRules b before j r → RulesGive b before j r
rule_gives b before (Unpriced settled) r f = f
rule_gives b before (ToPrice c) r (inl e) = (Rejects e.0, e.2)
rule_gives b before (ToPrice c) r (inr p) = (Pays p.0, p.2)
rule_gives b before (ToReverse auth v) r (inl e) = (Denies e.0, e.2)
rule_gives b before (ToReverse auth v) r (inr p) = (Allows, p)

rules_give : (b : Book) (before : List Ruled) (id : TxnId) (place : ℕ) (orders : List (Result Order (List Code))) (rulings : List Ruling) → AllFollow b before id place orders rulings → RulesGiveAll b before id place orders rulings
rules_give b before id place [] [] f = tt
rules_give b before id place [] (r ∷ rulings) f = f
rules_give b before id place (order ∷ orders) [] f = f
rules_give b before id place (order ∷ orders) (r ∷ rulings) f =
    (rule_gives b before (judged before order) r f.0, rules_give b (before ++ ruled id place order r ∷ []) id (place + 1) orders rulings f.1)

-- ---- and can be written

one_code : (code : Code) → IsCode code → IsRejects (code ∷ [])
one_code code is = record { some = omega arith; few = omega arith; each = (is, tt) }

codes_written : (asks : Bool) (codes : List Code) → MayReject asks codes → IsRejects codes
codes_written true codes m = m
codes_written false codes m = subst IsRejects (sym m) (one_code _ refl)

denials_written : (asks : Bool) (codes : List Code) → MayDeny asks codes → IsRejects codes
denials_written true codes m = m
denials_written false codes m = absurd m

claim_written : (b : Book) (before : List Ruled) (h : RequestHeader) (c : Claim) (o : Option Payment) (r : Ruling) → MayPay b → IsClaimOf h c → ((p : Payment) → o ≡ Some p → IsWritten p)
    → FollowsRules b before (judged_claim c o) r → serial_fits r ≡ true → IsRuling r
claim_written b before h c None r may of_it w (inl e) s = subst IsRuling (sym e.2) (codes_written b.settings.asks e.0 e.1)
claim_written b before h c None r may of_it w (inr p) s =
    let le : next_serial b before ≤ 999999999999 = leb-true _ _ (ap serial_fits (sym p.2) ∙ s) in
    subst IsRuling (sym p.2) (record { payer = may.payer; payer_fits = may.payer_fits; serial = omega (arith, may.serial); serial_fits = le }, of_it.prescription, p.1)
claim_written b before h c (Some p) r may of_it w f s = by_test (same_claim p.claim c) f
  where
    by_test : (t : Bool) → FollowsRules b before (cond t (Unpriced (Duplicate p.auth c.fill.prescription p.amounts)) (Unpriced (Rejected (Code.DuplicateClaim ∷ [])))) r → IsRuling r
    by_test true g = let q = w p refl in subst IsRuling (sym g) (q.0, of_it.prescription, q.1)
    by_test false g = subst IsRuling (sym g) (one_code _ refl)

reversal_written : (b : Book) (before : List Ruled) (v : Reversal) (o : Option Payment) (r : Ruling) → IsPrescription v.prescription → ((p : Payment) → o ≡ Some p → IsWritten p) → FollowsRules b before (judged_reversal v o) r → IsRuling r
reversal_written b before v None r n w f = subst IsRuling (sym f) (one_code _ refl)
reversal_written b before v (Some p) r n w (inl e) = subst IsRuling (sym e.2) (denials_written (asks_reversals b.settings) e.0 e.1)
reversal_written b before v (Some p) r n w (inr e) = subst IsRuling (sym e) ((w p refl).0, n)

one_written : (b : Book) (before : List Ruled) (h : RequestHeader) (order : Result Order (List Code)) (r : Ruling) → MayPay b → AllByRecursion RuledWritten before → IsOrderOf h order → FollowsRules b before (judged before order) r → serial_fits r ≡ true
    → IsRuling r
unfolding judged
one_written b before h (Err codes) r may w o f s = subst IsRuling (sym f) o
one_written b before h (Ok (Bills c)) r may w o f s =
    let all : AllByRecursion IsWritten (standing before) = all_filter IsWritten is_standing (payments before) (payments_written before w) in
    claim_written b before h c (standing_for c.fill before) r may o (λ p e. find_all IsWritten _ (standing before) p all e) f s
one_written b before h (Ok (Reverses v)) r may w o f s =
    let all : AllByRecursion IsWritten (standing before) = all_filter IsWritten is_standing (payments before) (payments_written before w) in
    reversal_written b before v (payment_to_reverse v before) r o.prescription (λ p e. only_all IsWritten _ p (all_filter IsWritten (λ (q : Payment). is_for v q.claim) (standing before) all) e) f

all_written : (b : Book) (before : List Ruled) (h : RequestHeader) (id : TxnId) (place : ℕ) (orders : List (Result Order (List Code))) (rulings : List Ruling) → MayPay b → AllByRecursion RuledWritten before → AllByRecursion (IsOrderOf h) orders
    → AllFollow b before id place orders rulings → list_all serial_fits rulings ≡ true → AllByRecursion IsRuling rulings
all_written b before h id place [] [] may w o f s = tt
all_written b before h id place [] (r ∷ rulings) may w o f s = absurd f
all_written b before h id place (order ∷ orders) [] may w o f s = tt
all_written b before h id place (order ∷ orders) (r ∷ rulings) may w o f s =
    let p = and_parts (serial_fits r) (list_all serial_fits rulings) s in
    let x : IsRuling r = one_written b before h order r may w o.0 f.0 p.0 in
    (x, all_written b (before ++ ruled id place order r ∷ []) h id (place + 1) orders rulings may (all_append RuledWritten before _ w (x, tt)) o.1 f.1 p.1)

-- ---- a book of the same payer and settings gives the same

gives_alike : (b after : Book) (before : List Ruled) (j : Judged) (r : Ruling) → after.payer ≡ b.payer → after.settings ≡ b.settings → RulesGive b before j r → RulesGive after before j r
gives_alike b after before (Unpriced settled) r payer settings g = g
gives_alike b after before (ToPrice c) r payer settings g =
    let same : next_auth b before ≡ next_auth after before = λ i. record { payer = sym payer i; serial = (sym settings i).serial + count_by (λ (x : Ruled). is_paid x.ruling) before } in
    (g.0, g.1 ∙ ap (λ (a : Auth). priced a c (Some g.0)) same)
gives_alike b after before (ToReverse auth v) r payer settings g = g

all_alike : (b after : Book) (before : List Ruled) (id : TxnId) (place : ℕ) (orders : List (Result Order (List Code))) (rulings : List Ruling) → after.payer ≡ b.payer → after.settings ≡ b.settings
    → RulesGiveAll b before id place orders rulings → RulesGiveAll after before id place orders rulings
all_alike b after before id place [] [] payer settings g = tt
all_alike b after before id place [] (r ∷ rulings) payer settings g = g
all_alike b after before id place (order ∷ orders) [] payer settings g = g
all_alike b after before id place (order ∷ orders) (r ∷ rulings) payer settings g =
    (gives_alike b after before (judged before order) r payer settings g.0, all_alike b after (before ++ ruled id place order r ∷ []) id (place + 1) orders rulings payer settings g.1)

module _ (routes : RouteMaps) where
  rows_alike : (b after : Book) (before rows : List Row) → after.payer ≡ b.payer → after.settings ≡ b.settings → AreNextRows (bytes_with routes) b before rows → AreNextRows (bytes_with routes) after before rows
  rows_alike b after before [] payer settings o = tt
  rows_alike b after before (row ∷ rows) payer settings o = (
    record {
      fresh = o.0.fresh;
      header = o.0.header;
      reads = o.0.reads;
      given = all_alike b after (ruled_rows (bytes_with routes) before) row.id 1 ((bytes_with routes).orders row.request) row.rulings payer settings o.0.given;
      written = o.0.written;
    },
    rows_alike b after (before ++ row ∷ []) rows payer settings o.1,
  )

  rows_more : (b : Book) (before rows : List Row) (row : Row) → AreNextRows (bytes_with routes) b before rows → IsNextRow (bytes_with routes) b (before ++ rows) row → AreNextRows (bytes_with routes) b before (rows ++ row ∷ [])
  rows_more b before [] row o x = (subst (λ (all : List Row). IsNextRow (bytes_with routes) b all row) (append-nil before) x, tt)
  rows_more b before (r ∷ rows) row o x =
      (o.0, rows_more b (before ++ r ∷ []) rows row o.1 (subst (λ (all : List Row). IsNextRow (bytes_with routes) b all row) (sym (append_assoc before (r ∷ []) rows)) x))

  rulings_are_written : (b : Book) (before rows : List Row) → AreNextRows (bytes_with routes) b before rows → AllByRecursion (λ (row : Row). AllByRecursion IsRuling row.rulings) rows
  rulings_are_written b before [] o = tt
  rulings_are_written b before (row ∷ rows) o = (o.0.written, rulings_are_written b (before ++ row ∷ []) rows o.1)

  -- ---- one row more

  pub stands_next : Laws (bytes_with routes) → (b : Book) (id : TxnId) (request answer : List ℕ) (after : Book) → MayPay b → RowStands b id request answer after → AreNextRows (bytes_with routes) b [] b.rows
      → AreNextRows (bytes_with routes) after [] after.rows
  stands_next laws b id request answer after may x o =
      let row : Row = row_saying b id request x.rulings answer in
      let more : Book = with_row b row in
      let reads : readable (bytes_with routes) request ≡ Some x.header = readable_alike routes request ∙ x.reads in
      let before : AllByRecursion RuledWritten (ruled_rows (bytes_with routes) b.rows) = rows_written (bytes_with routes) b.rows (rulings_are_written b [] b.rows o) in
      let next : IsNextRow (bytes_with routes) more b.rows row =
      record {
        fresh = x.fresh;
        header = x.header;
        reads = reads;
        given = all_alike b more (ruled_rows (bytes_with routes) b.rows) id 1 ((bytes_with routes).orders request) x.rulings refl refl (rules_give b (ruled_rows reading b.rows) id 1 (reading.orders request) x.rulings x.follow);
        written = all_written b (ruled_rows (bytes_with routes) b.rows) x.header id 1 ((bytes_with routes).orders request) x.rulings may before (laws.orders request x.header reads) x.follow x.fit;
      } in
      subst (λ (q : Book). AreNextRows (bytes_with routes) q [] q.rows) (sym x.book) (rows_more more [] b.rows row (rows_alike b more [] b.rows refl refl o) next)

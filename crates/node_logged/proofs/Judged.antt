-- What tests of tills and ledgers tell.
use Rattle.std.proofs.Common.{◌≡◌, ℕ, zero, suc, ◌+◌, ◌<◌, ◌==◌, Bool, true, false, cond, List, [], ◌∷◌, length, Option, Some, None, slice_get, nat_eq, refl, sym, ap, ◌∙◌, subst, inl, inr, arith, eqb-true, eq-eqb}
use Rattle.std.specs.Prelude.{Contains}
use Rattle.std.specs.List.{list_all, AllByRecursion}
use Rattle.std.specs.Cmp.Lexicographic.{pointwise, bytes_decides}
use Rattle.std.proofs.lemmas.Bool.{and_parts, and_from, or_left, or_right, or_cases, both_ways}
use Rattle.claim_model.specs.Context.{Context}
use Rattle.claim_model.specs.Journal.{Journal, JournalAtRest, Kept}
use Rattle.claim_model.specs.Node.{Power}
use Rattle.claim_model.specs.Numbered.{numbered}
use Rattle.node_logged.specs.Tills.{Receipt, Till}
use Rattle.node_logged.specs.Ledgers.{Ledger, receipts_at, heard_at, counts_agree, is_receipt, has_one, each_has_one, has_receipts, answer_at, is_equal, is_answer, has_answers, lacking}
use Rattle.claim_model.specs.Logs.{NodeLog}
use Rattle.node_logged.specs.Replayed.{ledger_after, ledgers_from}
use Rattle.node_logged.specs.Judged.{AreAsMany, AreReceipts, AreHeard, Lacks}

-- elements and tests of them

later : {A : Type 0} (y : A) (xs : List A) (x : A) → Contains xs x → Contains (y ∷ xs) x
later y xs x h = let less : suc h.0 < suc (length xs) = omega (arith, h.1) in (suc h.0, less, h.2)

first : {A : Type 0} (y : A) (xs : List A) → Contains (y ∷ xs) y
first y xs = let less : 0 < suc (length xs) = omega arith in (0, less, refl)

pub all_tested : {A : Type 0} (test : A → Bool) (xs : List A) (x : A) → list_all test xs ≡ true → Contains xs x → test x ≡ true
all_tested test [] x a (k, h, e) = absurd (omega (arith, h))
all_tested test (y ∷ xs) x a (zero, h, e) = subst (λ z. test z ≡ true) e (and_parts (test y) (list_all test xs) a).0
all_tested test (y ∷ xs) x a (suc k, h, e) = let less : k < length xs = omega (arith, h) in all_tested test xs x (and_parts (test y) (list_all test xs) a).1 (k, less, e)

pub all_by_test : {A : Type 0} (test : A → Bool) (xs : List A) → ((x : A) → Contains xs x → test x ≡ true) → list_all test xs ≡ true
all_by_test test [] each = refl
all_by_test test (y ∷ xs) each = and_from (test y) (list_all test xs) (each y (first y xs)) (all_by_test test xs (λ x h. each x (later y xs x h)))

-- receipts

is_one : (number : ℕ) (request : List ℕ) (r : Receipt) → is_receipt number request r ≡ true → r ≡ record { number = number; request = request }
is_one number request r h =
    let p = and_parts (r.number == number) (pointwise nat_eq request r.request) h in
    let n : r.number ≡ number = eqb-true r.number number p.0 in
    let q : r.request ≡ request = sym ((bytes_decides request r.request).0 p.1) in
    λ i. record { number = n i; request = q i }

one_is : (number : ℕ) (request : List ℕ) → is_receipt number request (record { number = number; request = request }) ≡ true
one_is number request = and_from (number == number) (pointwise nat_eq request request) (eq-eqb number number refl) ((bytes_decides request request).1 refl)

one_there : (number : ℕ) (request : List ℕ) (rs : List Receipt) → has_one number request rs ≡ true → Contains rs (record { number = number; request = request })
one_there number request [] h = absurd cc
one_there number request (r ∷ rs) h =
    elim (or_cases (is_receipt number request r) (has_one number request rs) h) [
      | inl e ↦ subst (λ (x : Receipt). Contains (r ∷ rs) x) (is_one number request r e) (first r rs)
      | inr e ↦ later r rs (record { number = number; request = request }) (one_there number request rs e)
    ]

one_found : (number : ℕ) (request : List ℕ) (rs : List Receipt) → Contains rs (record { number = number; request = request }) → has_one number request rs ≡ true
one_found number request [] (k, h, e) = absurd (omega (arith, h))
one_found number request (r ∷ rs) (zero, h, e) = or_left (is_receipt number request r) (has_one number request rs) (ap (is_receipt number request) e ∙ one_is number request)
one_found number request (r ∷ rs) (suc k, h, e) =
    let less : k < length rs = omega (arith, h) in
    or_right (is_receipt number request r) (has_one number request rs) (one_found number request rs (k, less, e))

-- each entry from a number on has a receipt
each_one : (n : ℕ) (entries : List Kept) (rs : List Receipt) → each_has_one n entries rs ≡ true → (k : ℕ) (entry : Kept) → slice_get entries k ≡ Some entry → has_one (n + k) entry.request rs ≡ true
each_one n [] rs h k entry e = absurd cc
each_one n (x ∷ entries) rs h zero entry e =
    let same : x ≡ entry = cc in
    let number : n ≡ n + 0 = omega arith in
    subst (λ (m : ℕ). has_one m entry.request rs ≡ true) number (subst (λ (y : Kept). has_one n y.request rs ≡ true) same (and_parts (has_one n x.request rs) (each_has_one (n + 1) entries rs) h).0)
each_one n (x ∷ entries) rs h (suc k) entry e =
    let number : n + 1 + k ≡ n + suc k = omega arith in
    subst (λ (m : ℕ). has_one m entry.request rs ≡ true) number (each_one (n + 1) entries rs (and_parts (has_one n x.request rs) (each_has_one (n + 1) entries rs) h).1 k entry e)

one_each : (n : ℕ) (entries : List Kept) (rs : List Receipt) → ((k : ℕ) (entry : Kept) → slice_get entries k ≡ Some entry → has_one (n + k) entry.request rs ≡ true) → each_has_one n entries rs ≡ true
one_each n [] rs each = refl
one_each n (x ∷ entries) rs each =
    let here : n + 0 ≡ n = omega arith in
    and_from (has_one n x.request rs) (each_has_one (n + 1) entries rs) (subst (λ (m : ℕ). has_one m x.request rs ≡ true) here (each 0 x refl)) (one_each (n + 1) entries rs (λ k entry e. next k entry (each (suc k) entry e)))
  where
    next : (k : ℕ) (entry : Kept) → has_one (n + suc k) entry.request rs ≡ true → has_one (n + 1 + k) entry.request rs ≡ true
    next k entry h = let number : n + suc k ≡ n + 1 + k = omega arith in subst (λ (m : ℕ). has_one m entry.request rs ≡ true) number h

-- a ledger whose count agrees, and each of whose entries has a receipt
pub are_receipts : (tills : List Till) (ledger : Ledger) → counts_agree tills ledger ≡ true → has_receipts tills ledger ≡ true → AreReceipts tills ledger
are_receipts tills ledger c h =
    record {
      count = eqb-true (length (receipts_at ledger.pharmacy tills)) (length ledger.entries) c;
      each = by;
    }
  where
    by : (number : ℕ) (entry : Kept) → numbered ledger.entries number ≡ Some entry → Contains (receipts_at ledger.pharmacy tills) (record { number = number; request = entry.request })
    by zero entry e = absurd cc
    by (suc k) entry e =
        let number : 1 + k ≡ suc k = omega arith in
        one_there (suc k) entry.request (receipts_at ledger.pharmacy tills)
        (subst (λ (m : ℕ). has_one m entry.request (receipts_at ledger.pharmacy tills) ≡ true) number (each_one 1 ledger.entries (receipts_at ledger.pharmacy tills) h k entry e))

pub receipts_are : (tills : List Till) (ledger : Ledger) → AreReceipts tills ledger → has_receipts tills ledger ≡ true
receipts_are tills ledger a = one_each 1 ledger.entries (receipts_at ledger.pharmacy tills) by
  where
    by : (k : ℕ) (entry : Kept) → slice_get ledger.entries k ≡ Some entry → has_one (1 + k) entry.request (receipts_at ledger.pharmacy tills) ≡ true
    by k entry e =
        let number : suc k ≡ 1 + k = omega arith in
        subst (λ (m : ℕ). has_one m entry.request (receipts_at ledger.pharmacy tills) ≡ true) number (one_found (suc k) entry.request (receipts_at ledger.pharmacy tills) (a.each (suc k) entry e))

-- answers that were heard

equal_is : (o : Option (List ℕ)) (answer : List ℕ) → is_equal o answer ≡ true → o ≡ Some answer
equal_is None answer h = absurd cc
equal_is (Some held) answer h = ap (λ (a : List ℕ). Some a) ((bytes_decides held answer).0 h)

is_equal_to : (o : Option (List ℕ)) (answer : List ℕ) → o ≡ Some answer → is_equal o answer ≡ true
is_equal_to None answer e = absurd cc
is_equal_to (Some held) answer e = let same : held ≡ answer = cc in (bytes_decides held answer).1 same

pub are_heard : (tills : List Till) (ledger : Ledger) → has_answers tills ledger ≡ true → AreHeard tills ledger
are_heard tills ledger h = λ number answer c. equal_is (answer_at ledger.entries number) answer (all_tested (is_answer ledger.entries) (heard_at ledger.pharmacy tills) (number, answer) h c)

pub heard_are : (tills : List Till) (ledger : Ledger) → AreHeard tills ledger → has_answers tills ledger ≡ true
heard_are tills ledger a = all_by_test (is_answer ledger.entries) (heard_at ledger.pharmacy tills) by
  where
    by : (h : ℕ × List ℕ) → Contains (heard_at ledger.pharmacy tills) h → is_answer ledger.entries h ≡ true
    by (number, answer) c = is_equal_to (answer_at ledger.entries number) answer (a number answer c)

-- all ledgers

none_lacks : (tills : List Till) (x : Ledger) (more : List Ledger) → lacking tills (x ∷ more) ≡ None → (counts_agree tills x ≡ true) × (lacking tills more ≡ None)
none_lacks tills x more l = by (counts_agree tills x) refl l
  where
    by : (t : Bool) → counts_agree tills x ≡ t → cond t (lacking tills more) (Some x.pharmacy) ≡ None → (counts_agree tills x ≡ true) × (lacking tills more ≡ None)
    by true e l = (e, l)
    by false e l = absurd cc

pub all_receipts : (tills : List Till) (ledgers : List Ledger) → lacking tills ledgers ≡ None → list_all (has_receipts tills) ledgers ≡ true → AllByRecursion (AreReceipts tills) ledgers
all_receipts tills [] l h = tt
all_receipts tills (x ∷ more) l h =
    let n = none_lacks tills x more l in
    let p = and_parts (has_receipts tills x) (list_all (has_receipts tills) more) h in
    (are_receipts tills x n.0 p.0, all_receipts tills more n.1 p.1)

pub receipts_all : (tills : List Till) (ledgers : List Ledger) → AllByRecursion (AreReceipts tills) ledgers → list_all (has_receipts tills) ledgers ≡ true
receipts_all tills [] a = refl
receipts_all tills (x ∷ more) a = and_from (has_receipts tills x) (list_all (has_receipts tills) more) (receipts_are tills x a.0) (receipts_all tills more a.1)

pub all_counts : (tills : List Till) (ledgers : List Ledger) → lacking tills ledgers ≡ None → AllByRecursion (AreAsMany tills) ledgers
all_counts tills [] l = tt
all_counts tills (x ∷ more) l =
    let n = none_lacks tills x more l in
    (eqb-true (length (receipts_at x.pharmacy tills)) (length x.entries) n.0, all_counts tills more n.1)

pub all_heard : (tills : List Till) (ledgers : List Ledger) → list_all (has_answers tills) ledgers ≡ true → AllByRecursion (AreHeard tills) ledgers
all_heard tills [] h = tt
all_heard tills (x ∷ more) h =
    let p = and_parts (has_answers tills x) (list_all (has_answers tills) more) h in
    (are_heard tills x p.0, all_heard tills more p.1)

pub heard_all : (tills : List Till) (ledgers : List Ledger) → AllByRecursion (AreHeard tills) ledgers → list_all (has_answers tills) ledgers ≡ true
heard_all tills [] a = refl
heard_all tills (x ∷ more) a = and_from (has_answers tills x) (list_all (has_answers tills) more) (heard_are tills x a.0) (heard_all tills more a.1)

-- the first pharmacy that lacks receipts, or has some too many, among ledgers that are numbered from a number on
record LacksFrom (tills : List Till) (ledgers : List Ledger) (n pharmacy : ℕ) : Type 0 where
  place : ℕ
  ledger : Ledger
  at : slice_get ledgers place ≡ Some ledger
  is : pharmacy ≡ n + place
  differs : AreAsMany tills ledger → ⊥
  least : (k : ℕ) (other : Ledger) → k < place → slice_get ledgers k ≡ Some other → AreAsMany tills other

lacks_from : (ctx : Context) (logs : List NodeLog) (tills : List Till) (n : ℕ) (ps : List (Power Journal JournalAtRest)) (pharmacy : ℕ) → lacking tills (ledgers_from ctx logs n ps) ≡ Some pharmacy → LacksFrom tills (ledgers_from ctx logs n ps) n pharmacy
lacks_from ctx logs tills n [] pharmacy e = absurd cc
lacks_from ctx logs tills n (p ∷ ps) pharmacy e = by (lacks_from ctx logs tills (n + 1) ps pharmacy) (counts_agree tills (ledger_after ctx logs n p)) refl e
  where
    here : Ledger
    here = ledger_after ctx logs n p

    more : List Ledger
    more = ledgers_from ctx logs (n + 1) ps

    by : (lacking tills (ledgers_from ctx logs (n + 1) ps) ≡ Some pharmacy → LacksFrom tills (ledgers_from ctx logs (n + 1) ps) (n + 1) pharmacy) → (t : Bool) → counts_agree tills (ledger_after ctx logs n p) ≡ t
        → cond t (lacking tills (ledgers_from ctx logs (n + 1) ps)) (Some n) ≡ Some pharmacy → LacksFrom tills (ledger_after ctx logs n p ∷ ledgers_from ctx logs (n + 1) ps) n pharmacy
    by again false c e =
        let same : n ≡ pharmacy = cc in
        record {
          place = 0;
          ledger = ledger_after ctx logs n p;
          at = refl;
          is = omega (arith, same);
          differs = λ a. both_ways (counts_agree tills (ledger_after ctx logs n p)) c (eq-eqb (length (receipts_at n tills)) (length (ledger_after ctx logs n p).entries) a);
          least = λ k other h g. absurd (omega (arith, h));
        }
    by again true c e =
        let r = again e in
        record {
          place = suc r.place;
          ledger = r.ledger;
          at = r.at;
          is = omega (arith, r.is);
          differs = r.differs;
          least = λ k other h g. before k other h g;
        }
      where
        before : (k : ℕ) (other : Ledger) → k < suc (again e).place → slice_get (ledger_after ctx logs n p ∷ ledgers_from ctx logs (n + 1) ps) k ≡ Some other → AreAsMany tills other
        before zero other h g = let same : ledger_after ctx logs n p ≡ other = cc in subst (AreAsMany tills) same (eqb-true (length (receipts_at n tills)) (length (ledger_after ctx logs n p).entries) c)
        before (suc k) other h g = (again e).least k other (omega (arith, h)) g

pub lacks : (ctx : Context) (logs : List NodeLog) (tills : List Till) (ps : List (Power Journal JournalAtRest)) (pharmacy : ℕ) → lacking tills (ledgers_from ctx logs 1 ps) ≡ Some pharmacy → Lacks tills (ledgers_from ctx logs 1 ps) pharmacy
lacks ctx logs tills ps pharmacy e =
    let r = lacks_from ctx logs tills 1 ps pharmacy e in
    let number : suc r.place ≡ pharmacy = omega (arith, r.is) in
    subst (Lacks tills (ledgers_from ctx logs 1 ps)) number (record {
      ledger = r.ledger;
      at = r.at;
      differs = r.differs;
      least = λ k other h g. by r k other h g;
    })
  where
    by : (r : LacksFrom tills (ledgers_from ctx logs 1 ps) 1 pharmacy) → (k : ℕ) (other : Ledger) → k < suc r.place → numbered (ledgers_from ctx logs 1 ps) k ≡ Some other → AreAsMany tills other
    by r zero other h g = absurd cc
    by r (suc k) other h g = r.least k other (omega (arith, h)) g

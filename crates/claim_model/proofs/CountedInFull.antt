-- A payment that an answer in a pharmacy's journal names, and that stands in its book, is counted.
use Rattle.std.proofs.Common.{◌≡◌, ℕ, zero, suc, Bool, true, false, not, cond, List, [], ◌∷◌, Option, Some, None, slice_get, refl, sym, ap, ◌∙◌, subst, ◌⊎◌, inl, inr}
use Rattle.std.specs.Prelude.{filter, filter_map}
use Rattle.std.specs.List.{AllByRecursion, list_any, cons_option}
use Rattle.std.proofs.lemmas.Bool.{both_ways, false_from_ne_true, or_from, or_left, or_right, or_cases}
use Rattle.claim_model.specs.Words.{Auth, Ruling}
use Rattle.claim_model.specs.Context.{Context}
use Rattle.claim_model.specs.Numbered.{numbered}
use Rattle.claim_model.specs.Ruled.{Ruled}
use Rattle.claim_model.specs.Payments.{Payment, same_auth, auth_reversed, is_auth, reverses, payments, is_standing, payment_of}
use Rattle.claim_model.specs.Rows.{Book, ruled_rows}
use Rattle.claim_model.specs.Journal.{JournalAtRest}
use Rattle.claim_model.specs.Counted.{Counted, told, named, firsts, is_reversed, counted}
use Rattle.claim_model.specs.World.{World}
use Rattle.claim_model.specs.Settings.{WorldSettings}
use Rattle.claim_model.specs.Held.{book_at, journal_at}
use Rattle.claim_model.specs.Promises.{Reached, IsCounted, StandingAreCounted}
use Rattle.claim_model.proofs.Lists.{all_weaker, find_all, find_passes}
use Rattle.claim_model.proofs.Options.{same_some}
use Rattle.claim_model.proofs.Tests.{auth_same, auth_self}
use Rattle.claim_model.proofs.Sound.{Sound}
use Rattle.claim_model.proofs.Held.{book_sound}
use Rattle.claim_model.proofs.Ledger.{Given, Reversing}
use Rattle.claim_model.proofs.Books.{BookLedger, Ledgers}
use Rattle.claim_model.proofs.Firm.{Firm, reached_firm}
use Rattle.claim_model.proofs.Owners.{ledger_at, names_reversed}
use Rattle.claim_model.proofs.Counting.{HeardAt, all_heard, reverses_ruling}

-- lists

none_any : {A : Type 0} (test : A → Bool) (xs : List A) → AllByRecursion (λ x. test x ≡ false) xs → list_any test xs ≡ false
none_any test [] all = refl
none_any test (x ∷ xs) all = or_from (test x) (list_any test xs) all.0 (none_any test xs all.1)

-- what passes a test is left where that test implies the filter's
any_left : {A : Type 0} (test kept : A → Bool) (xs : List A) → ((x : A) → test x ≡ true → kept x ≡ true) → list_any test xs ≡ true → list_any test (filter kept xs) ≡ true
any_left test kept [] implies any = any
any_left test kept (x ∷ xs) implies any = by_test (kept x) refl (any_left test kept xs implies) (or_cases (test x) (list_any test xs) any)
  where
    by_test : (b : Bool) → kept x ≡ b → (list_any test xs ≡ true → list_any test (filter kept xs) ≡ true) → (test x ≡ true) ⊎ (list_any test xs ≡ true) → list_any test (cond b (x ∷ filter kept xs) (filter kept xs)) ≡ true
    by_test true is g (inl h) = or_left (test x) (list_any test (filter kept xs)) h
    by_test true is g (inr h) = or_right (test x) (list_any test (filter kept xs)) (g h)
    by_test false is g (inl h) = absurd (both_ways (kept x) is (implies x h))
    by_test false is g (inr h) = g h

-- an element that passes stands somewhere
any_stands : {A : Type 0} (test : A → Bool) (xs : List A) → list_any test xs ≡ true → (k : ℕ) × (a : A) × (numbered xs (suc k) ≡ Some a) × (test a ≡ true)
any_stands test [] any = absurd (Rattle.std.proofs.lemmas.Bool.false≢true any)
any_stands test (x ∷ xs) any =
    elim (or_cases (test x) (list_any test xs) any) [
      | inl h ↦ (0, x, refl, h)
      | inr h ↦ let s = any_stands test xs h in (suc s.0, s.1, s.2, s.3)
    ]

-- payments with an authorization

abbrev is_of : Auth → Counted → Bool
is_of auth c = same_auth c.auth auth

any_option : (auth : Auth) (o : Option Counted) (cs : List Counted) → list_any (is_of auth) cs ≡ true → list_any (is_of auth) (cons_option o cs) ≡ true
any_option auth None cs any = any
any_option auth (Some c) cs any = or_right (is_of auth c) (list_any (is_of auth) cs) any

any_named : (rs : List Ruled) (k : ℕ) (r : Ruled) (c : Counted) → slice_get rs k ≡ Some r → named r ≡ Some c → list_any (is_of c.auth) (filter_map named rs) ≡ true
any_named [] k r c at is = absurd cc
any_named (x ∷ rs) zero r c at is =
    let same : x ≡ r = cc in
    subst (λ (o : Option Counted). list_any (is_of c.auth) (cons_option o (filter_map named rs)) ≡ true) (sym (ap named same ∙ is))
    (or_left (is_of c.auth c) (list_any (is_of c.auth) (filter_map named rs)) (auth_self c.auth))
any_named (x ∷ rs) (suc k) r c at is = any_option c.auth (named x) (filter_map named rs) (any_named rs k r c at is)

named_numbered : (rs : List Ruled) (k : ℕ) (r : Ruled) (c : Counted) → numbered rs k ≡ Some r → named r ≡ Some c → list_any (is_of c.auth) (filter_map named rs) ≡ true
named_numbered rs zero r c at is = absurd cc
named_numbered rs (suc k) r c at is = any_named rs k r c at is

-- the first of each authorization is one of that authorization
any_first : (auth : Auth) (cs : List Counted) → list_any (is_of auth) cs ≡ true → list_any (is_of auth) (firsts cs) ≡ true
any_first auth [] any = any
any_first auth (c ∷ cs) any = by_test (is_of auth c) refl (any_first auth cs) (or_cases (is_of auth c) (list_any (is_of auth) cs) any)
  where
    later : List Counted
    later = filter (λ (d : Counted). not (same_auth d.auth c.auth)) (firsts cs)

    other : is_of auth c ≡ false → (d : Counted) → is_of auth d ≡ true → not (same_auth d.auth c.auth) ≡ true
    other is d h =
        ap not (false_from_ne_true (same_auth d.auth c.auth) (λ t.
        let e : c.auth ≡ auth = sym (auth_same d.auth c.auth t) ∙ auth_same d.auth auth h in
        both_ways (is_of auth c) is (subst (λ (a : Auth). same_auth a auth ≡ true) (sym e) (auth_self auth))))

    by_test : (b : Bool) → is_of auth c ≡ b → (list_any (is_of auth) cs ≡ true → list_any (is_of auth) (firsts cs) ≡ true) → (is_of auth c ≡ true) ⊎ (list_any (is_of auth) cs ≡ true) → list_any (is_of auth) (c ∷ later) ≡ true
    by_test true is g h = or_left (is_of auth c) (list_any (is_of auth) later) is
    by_test false is g (inl h) = absurd (both_ways (is_of auth c) is h)
    by_test false is g (inr h) = or_right (is_of auth c) (list_any (is_of auth) later) (any_left (is_of auth) (λ (d : Counted). not (same_auth d.auth c.auth)) (firsts cs) (other is) (g h))

-- a payment that stands

-- nothing that a pharmacy was told reverses it
not_reversed : (ctx : Context) (given : WorldSettings) (w : World) (n : ℕ) (auth : Auth) (b : Book) (p : Payment) → Sound ctx given w → Ledgers ctx w → book_at w auth.payer ≡ Some b
    → payment_of auth (ruled_rows ctx b.rows) ≡ Some p → is_standing p ≡ true → (r : Ruled) → HeardAt ctx w n r → reverses auth r ≡ false
not_reversed ctx given w n auth b p x l there found stands r (inl rejected, here) = ap (λ (g : Ruling). is_auth auth (auth_reversed g)) rejected.1
not_reversed ctx given w n auth b p x l there found stands r (inr k, here) =
    false_from_ne_true (reverses auth r) (λ t.
    let rs : List Ruled = ruled_rows ctx k.book.rows in
    let g = reverses_ruling auth r.ruling t in
    let v = names_reversed rs r.order r.ruling auth g.0 k.names g.1 in
    let u : Reversing rs auth v.0 = v.2 in
    let led : BookLedger ctx k.book = ledger_at ctx w k.payer k.book l k.there in
    let of_payer : Given k.book.payer _ u.payment = find_all (Given k.book.payer _) _ (payments rs) u.payment led.serials u.found in
    let its : u.payment.auth ≡ auth = auth_same _ _ (find_passes _ (payments rs) u.payment u.found) in
    let payer : k.payer ≡ auth.payer = sym (book_sound ctx given w k.payer k.book x k.there).payer ∙ (sym of_payer.payer_is ∙ ap (λ (a : Auth). a.payer) its) in
    let book : k.book ≡ b = same_some _ _ (sym k.there ∙ (ap (book_at w) payer ∙ there)) in
    let same : u.payment ≡ p = same_some _ _ (sym u.found ∙ (ap (λ (y : Book). payment_of auth (ruled_rows ctx y.rows)) book ∙ found)) in
    both_ways (is_standing p) (subst (λ (y : Payment). is_standing y ≡ false) same u.reversed) stands)

is_counted : (ctx : Context) (given : WorldSettings) (w : World) (n : ℕ) (j : JournalAtRest) (k : ℕ) (r : Ruled) (c : Counted) (b : Book) (p : Payment) → Firm ctx given w → journal_at w n ≡ Some j → numbered (told ctx j) k ≡ Some r
    → named r ≡ Some c → book_at w c.auth.payer ≡ Some b → payment_of c.auth (ruled_rows ctx b.rows) ≡ Some p → is_standing p ≡ true → IsCounted ctx j c.auth
unfolding counted
is_counted ctx given w n j k r c b p firm there at is book found stands =
    let rs : List Ruled = told ctx j in
    let free : list_any (reverses c.auth) rs ≡ false =
    none_any (reverses c.auth) rs (all_weaker (HeardAt ctx w n) (λ (q : Ruled). reverses c.auth q ≡ false) (not_reversed ctx given w n c.auth b p firm.sound firm.ledgers book found stands) rs (all_heard ctx given w n j firm.laws firm.sound firm.ledgers there)) in
    let left : (d : Counted) → is_of c.auth d ≡ true → not (is_reversed rs d) ≡ true =
    λ d h. ap not (ap (λ (a : Auth). list_any (reverses a) rs) (auth_same d.auth c.auth h) ∙ free) in
    let s = any_stands (is_of c.auth) (filter (λ (d : Counted). not (is_reversed rs d)) (firsts (filter_map named rs)))
    (any_left (is_of c.auth) (λ (d : Counted). not (is_reversed rs d)) (firsts (filter_map named rs)) left (any_first c.auth (filter_map named rs) (named_numbered rs k r c at is))) in
    record { number = suc s.0; payment = s.1; stands = s.2; same = auth_same s.1.auth c.auth s.3 }

pub firm_standing_counted : (ctx : Context) (given : WorldSettings) (w : World) → Firm ctx given w → StandingAreCounted ctx w
firm_standing_counted ctx given w firm = record { counted = λ n j k r c b p there at is book found stands. is_counted ctx given w n j k r c b p firm there at is book found stands }

pub standing_counted : (ctx : Context) (given : WorldSettings) (w : World) → Reached ctx given w → StandingAreCounted ctx w
standing_counted ctx given w r = firm_standing_counted ctx given w (reached_firm ctx given w r)

-- No fill is paid twice, in the words of `payment`.
use Rattle.std.proofs.Common.{◌≡◌, ℕ, suc, Bool, true, false, cond, List, [], ◌∷◌, Option, Some, None, refl, sym, ap, ◌∙◌, subst, inl, inr}
use Rattle.std.specs.Prelude.{find, filter, is_none, option_map, option_and_then, slice_get}
use Rattle.claim_model.specs.Words.{Auth}
use Rattle.claim_model.specs.Context.{Context}
use Rattle.claim_model.specs.Payments.{Payment, same_auth, payments, is_standing, standing, payment_of}
use Rattle.claim_model.specs.Rows.{Book, ruled_rows}
use Rattle.claim_model.specs.Numbered.{numbered}
use Rattle.claim_model.specs.World.{World}
use Rattle.claim_model.specs.Held.{book_at}
use Rattle.claim_model.specs.Promises.{OneStandingPayment, rulings_of}
use Rattle.payer_book.specs.declared.book.PaymentView.{PaymentView}
use Rattle.payer_book.specs.Views.{payment_view}
use Rattle.world_core.specs.Headline.{FillIsPaidOnce}
use Rattle.claim_model.proofs.Lists.{find_cases, find_passes}
use Rattle.claim_model.proofs.Tests.{auth_same}

-- an element that a search finds, and that passes another test, stands where that test filters
kept_first : {A : Type 0} (b : Bool) (x : A) (more : List A) → b ≡ true → slice_get (cond b (x ∷ more) more) 0 ≡ Some x
kept_first true x more e = refl
kept_first false x more e = absurd cc

kept_later : {A : Type 0} (b : Bool) (x a : A) (more : List A) (k : ℕ) → slice_get more k ≡ Some a → (m : ℕ) × (slice_get (cond b (x ∷ more) more) m ≡ Some a)
kept_later true x a more k e = (suc k, e)
kept_later false x a more k e = (k, e)

found_kept : {A : Type 0} (test keep : A → Bool) (xs : List A) (a : A) → find test xs ≡ Some a → keep a ≡ true → (k : ℕ) × (slice_get (filter keep xs) k ≡ Some a)
found_kept test keep [] a h t = absurd cc
found_kept test keep (x ∷ xs) a h t =
    elim (find_cases (test x) x a (find test xs) h) [
      | inl e ↦ (0, subst (λ y. slice_get (cond (keep x) (x ∷ filter keep xs) (filter keep xs)) 0 ≡ Some y) e.1 (kept_first (keep x) x (filter keep xs) (ap keep e.1 ∙ t)))
      | inr e ↦ let r = found_kept test keep xs a e.1 t in kept_later (keep x) x a (filter keep xs) r.0 r.1
    ]

-- what `payment` gives, as the payment that a book has
payment_there : (ctx : Context) (auth : Auth) (p : PaymentView) (o : Option Book) → option_and_then (λ (b : Book). option_map payment_view (payment_of auth (ruled_rows ctx b.rows))) o ≡ Some p
    → (b : Book) × (o ≡ Some b) × ((x : Payment) × (payment_of auth (ruled_rows ctx b.rows) ≡ Some x) × (payment_view x ≡ p))
payment_there ctx auth p None e = absurd cc
payment_there ctx auth p (Some b) e = (b, refl, seen (payment_of auth (ruled_rows ctx b.rows)) refl e)
  where
    seen : (o : Option Payment) → payment_of auth (ruled_rows ctx b.rows) ≡ o → option_map payment_view o ≡ Some p → (x : Payment) × (payment_of auth (ruled_rows ctx b.rows) ≡ Some x) × (payment_view x ≡ p)
    seen None is h = absurd cc
    seen (Some x) is h = (x, is, cc)

none_is : {A : Type 0} (o : Option A) → o ≡ None → is_none o ≡ true
none_is None e = refl
none_is (Some a) e = absurd cc

some_same : {A : Type 0} (o : Option A) (a b : A) → o ≡ Some a → o ≡ Some b → a ≡ b
some_same o a b p q = let e : Some a ≡ Some b = sym p ∙ q in cc

pub paid_once : (ctx : Context) (w : World) → OneStandingPayment ctx w → FillIsPaidOnce ctx w
paid_once ctx w one n m a b p q at_n at_m stands_p stands_q fill =
    let x = payment_there ctx a p (book_at w n) at_n in
    let y = payment_there ctx b q (book_at w m) at_m in
    let u = x.2.0 in
    let v = y.2.0 in
    let i = found_kept (λ (z : Payment). same_auth z.auth a) is_standing (payments (rulings_of ctx x.0)) u x.2.1 (none_is u.reversed_by (ap (λ (z : PaymentView). z.reversed_by) x.2.2 ∙ stands_p)) in
    let j = found_kept (λ (z : Payment). same_auth z.auth b) is_standing (payments (rulings_of ctx y.0)) v y.2.1 (none_is v.reversed_by (ap (λ (z : PaymentView). z.reversed_by) y.2.2 ∙ stands_q)) in
    let fills : u.claim.fill ≡ v.claim.fill = ap (λ (z : PaymentView). z.fill) x.2.2 ∙ (fill ∙ sym (ap (λ (z : PaymentView). z.fill) y.2.2)) in
    let r = one.one n m x.0 y.0 (suc i.0) (suc j.0) u v x.1 y.1 i.1 j.1 fills in
    let books : x.0 ≡ y.0 = some_same (book_at w n) x.0 y.0 x.1 (ap (book_at w) r.0 ∙ y.1) in
    let at_j : numbered (standing (rulings_of ctx y.0)) (suc j.0) ≡ Some u = subst (λ (k : ℕ). numbered (standing (rulings_of ctx y.0)) k ≡ Some u) r.1 (subst (λ (b : Book). numbered (standing (rulings_of ctx b)) (suc i.0) ≡ Some u) books i.1) in
    let same : u ≡ v = some_same (numbered (standing (rulings_of ctx y.0)) (suc j.0)) u v at_j j.1 in
    let of_u : u.auth ≡ a = auth_same u.auth a (find_passes (λ (z : Payment). same_auth z.auth a) (payments (rulings_of ctx x.0)) u x.2.1) in
    let of_v : v.auth ≡ b = auth_same v.auth b (find_passes (λ (z : Payment). same_auth z.auth b) (payments (rulings_of ctx y.0)) v y.2.1) in
    (r.0, sym of_u ∙ (ap (λ (z : Payment). z.auth) same ∙ of_v))

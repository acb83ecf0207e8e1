-- What a stretch of events leaves as it was.
use Rattle.std.proofs.Common.{◌≡◌, ℕ, List, Option, Some, refl, sym, ap, ◌∙◌, subst, inl, inr}
use Rattle.std.specs.Prelude.{option_map, option_and_then}
use Rattle.std.proofs.lemmas.Bool.{cases_eq}
use Rattle.claim_model.specs.Words.{TxnId}
use Rattle.claim_model.specs.Context.{Context}
use Rattle.claim_model.specs.Numbered.{numbered, renumbered}
use Rattle.claim_model.specs.Rows.{Book}
use Rattle.claim_model.specs.Journal.{Journal, JournalAtRest, Kept}
use Rattle.claim_model.specs.Table.{Table}
use Rattle.claim_model.specs.Node.{Power, Sent}
use Rattle.claim_model.specs.World.{World}
use Rattle.claim_model.specs.Held.{journal_in, book_in, journal_at, book_at, asked}
use Rattle.claim_model.proofs.Lists.{numbered_put, numbered_put_other}
use Rattle.claim_model.proofs.Sound.{with_pharmacy, with_switch, with_payer}
use Rattle.claim_recovery.specs.Recovered.{BookLeft, AsItWas, OneRowMore, IsOpen}

-- nothing but phases, powers, tables and packets changed, and of pharmacies only this one's
pub record Same (n : ℕ) (w v : World) : Type 0 where
  pub pharmacies : (m : ℕ) → (m ≡ n → ⊥) → numbered v.pharmacies m ≡ numbered w.pharmacies m
  pub journal : journal_at v n ≡ journal_at w n
  pub books : (m : ℕ) → book_at v m ≡ book_at w m

-- the same, but the request may have got its row
pub record Booked (ctx : Context) (id : TxnId) (request : List ℕ) (w v : World) : Type 0 where
  pub pharmacies : (m : ℕ) → (m ≡ id.pharmacy → ⊥) → numbered v.pharmacies m ≡ numbered w.pharmacies m
  pub journal : journal_at v id.pharmacy ≡ journal_at w id.pharmacy
  pub books : (m : ℕ) → BookLeft ctx id request m (book_at w m) (book_at v m)

pub same_self : (n : ℕ) (w : World) → Same n w w
same_self n w = record { pharmacies = λ m d. refl; journal = refl; books = λ m. refl }

pub same_then : (n : ℕ) (u v w : World) → Same n u v → Same n v w → Same n u w
same_then n u v w a b = record { pharmacies = λ m d. b.pharmacies m d ∙ a.pharmacies m d; journal = b.journal ∙ a.journal; books = λ m. b.books m ∙ a.books m }

pub left_after : (ctx : Context) (id : TxnId) (request : List ℕ) (m : ℕ) (x y z : Option Book) → BookLeft ctx id request m x y → z ≡ y → BookLeft ctx id request m x z
left_after ctx id request m x y z (AsItWas e) f = AsItWas (f ∙ e)
left_after ctx id request m x y z (OneRowMore b advice is fresh routed e) f = OneRowMore b advice is fresh routed (f ∙ e)

left_before : (ctx : Context) (id : TxnId) (request : List ℕ) (m : ℕ) (x y z : Option Book) → y ≡ x → BookLeft ctx id request m y z → BookLeft ctx id request m x z
left_before ctx id request m x y z e (AsItWas f) = AsItWas (f ∙ e)
left_before ctx id request m x y z e (OneRowMore b advice is fresh routed f) = OneRowMore b advice (sym e ∙ is) fresh routed f

pub booked_same : (ctx : Context) (id : TxnId) (request : List ℕ) (w v : World) → Same id.pharmacy w v → Booked ctx id request w v
booked_same ctx id request w v a = record { pharmacies = a.pharmacies; journal = a.journal; books = λ m. AsItWas (a.books m) }

pub same_booked : (ctx : Context) (id : TxnId) (request : List ℕ) (u v w : World) → Same id.pharmacy u v → Booked ctx id request v w → Booked ctx id request u w
same_booked ctx id request u v w a b =
    record { pharmacies = λ m d. b.pharmacies m d ∙ a.pharmacies m d; journal = b.journal ∙ a.journal; books = λ m. left_before ctx id request m (book_at u m) (book_at v m) (book_at w m) (a.books m) (b.books m) }

pub booked_then : (ctx : Context) (id : TxnId) (request : List ℕ) (u v w : World) → Booked ctx id request u v → Same id.pharmacy v w → Booked ctx id request u w
booked_then ctx id request u v w a b =
    record { pharmacies = λ m d. b.pharmacies m d ∙ a.pharmacies m d; journal = b.journal ∙ a.journal; books = λ m. left_after ctx id request m (book_at u m) (book_at v m) (book_at w m) (a.books m) (b.books m) }

-- ---- one step

-- what a node is in a list after another step, seen through a view that the step kept
viewed : {A B : Type 0} (view : A → B) (xs : List A) (n m : ℕ) (s next : A) → numbered xs n ≡ Some s → view next ≡ view s → option_map view (numbered (renumbered xs n next) m) ≡ option_map view (numbered xs m)
viewed {B = B} view xs n m s next is same =
    elim (cases_eq n m) [
      | inl e ↦
          let here : numbered xs m ≡ Some s = subst (λ k. numbered xs k ≡ Some s) e is in
          let there : numbered (renumbered xs n next) m ≡ Some next = subst (λ k. numbered (renumbered xs n next) k ≡ Some next) e (numbered_put xs n s next is) in
          ap (option_map view) there ∙ (ap (λ (b : B). Some b) same ∙ sym (ap (option_map view) here))
      | inr d ↦ ap (option_map view) (numbered_put_other xs n m next d)
    ]

pub same_pharmacy : (w : World) (n : ℕ) (s next : Power Journal JournalAtRest) (sent : List Sent) → numbered w.pharmacies n ≡ Some s → journal_in next ≡ journal_in s → Same n w (with_pharmacy w n next sent)
same_pharmacy w n s next sent is same =
    record { pharmacies = λ m d. numbered_put_other w.pharmacies n m next (λ e. d (sym e)); journal = viewed journal_in w.pharmacies n n s next is same; books = λ m. refl }

pub same_switch : (n : ℕ) (w : World) (m : ℕ) (next : Power Table ℕ) (sent : List Sent) → Same n w (with_switch w m next sent)
same_switch n w m next sent = record { pharmacies = λ k d. refl; journal = refl; books = λ k. refl }

pub same_payer : (n : ℕ) (w : World) (p : ℕ) (s next : Power Book Book) (sent : List Sent) → numbered w.payers p ≡ Some s → book_in next ≡ book_in s → Same n w (with_payer w p next sent)
same_payer n w p s next sent is same = record { pharmacies = λ m d. refl; journal = refl; books = λ m. viewed book_in w.payers p m s next is same }

-- ---- what follows

pub open_on : (w v : World) (id : TxnId) (request : List ℕ) → journal_at v id.pharmacy ≡ journal_at w id.pharmacy → IsOpen w id request → IsOpen v id request
open_on w v id request e o = ap (option_and_then (λ (j : JournalAtRest). numbered j.entries id.number)) e ∙ o

pub open_asked : (w : World) (id : TxnId) (request : List ℕ) → IsOpen w id request → asked w id ≡ Some request
open_asked w id request o = ap (option_map (λ (k : Kept). k.request)) o

-- What is read of a book's answer is read of it as an advice too, but for its authorization numbers; and what fees of advices are.
use Rattle.std.proofs.Common.{◌≡◌, ℕ, cond, List, [], ◌∷◌, map, Option, Some, None, Result, Ok, Err, codes, refl, ap, subst, ◌∙◌, ◌⊎◌, inl, inr}
use Rattle.std.specs.Str.{bytes_eq}
use Rattle.d0_header.specs.Response.{Response}
use Rattle.d0_segments.specs.Parts.{SegmentParts, TransmissionParts}
use Rattle.d0_segments.specs.Framing.{response_kind, transmission_of}
use Rattle.claim_profile.specs.declared.reject.Code.{Code}
use Rattle.claim_profile.specs.declared.ruling.Ruling.{Ruling}
use Rattle.claim_profile.specs.declared.ruling.Ruling.TheVariants.{Paid, Duplicate, Reversed, Rejected}
use Rattle.claim_profile.specs.declared.answer_status.Status.{Status}
use Rattle.claim_profile.specs.declared.answer_status.Status.TheVariants as status
use Rattle.claim_profile.specs.declared.answer_reading.Speaker.{Speaker}
use Rattle.claim_profile.specs.declared.answer_reading.Speaker.TheVariants.{Book, System}
use Rattle.claim_profile.specs.declared.answer_reading.AnswerFault.{AnswerFault}
use Rattle.claim_profile.specs.declared.answer_reading.AnswerFault.TheVariants.{BadAmount, NoStatus}
use Rattle.claim_profile.specs.Authorization.{Authorization}
use Rattle.claim_profile.specs.Money.{Money}
use Rattle.claim_profile.specs.Fields.{values_in, required, optional}
use Rattle.claim_profile.specs.Order.{amount_in_cents}
use Rattle.claim_profile.specs.Ruling.{AnswerParts, ◌>>=◌, or_fault, unread, status_of, again_by, or_status, status_by, checked_status, status_in, authorization_in, claim_in, money_of, amount_at, fee_in, money_in, rejects_in, payment_in, reversal_in, rejection_in, ruling_under, ruling_in, rulings_in, answer_with, said_by}
use Rattle.claim_profile.specs.Unnamed.{unnamed, unnamed_parts}

bind_ok : {A B : Type 0} (r : Result A AnswerFault) (f : A → Result B AnswerFault) (y : B) → (r >>= f) ≡ Ok y → (x : A) × (r ≡ Ok x) × (f x ≡ Ok y)
bind_ok (Ok x) f y e = (x, refl, e)
bind_ok (Err fault) f y e = absurd cc

same_ok : {A : Type 0} (a b : A) → ◌≡◌ {A = Result A AnswerFault} (Ok a) (Ok b) → a ≡ b
same_ok a b e = cc

-- the fee of a book's answer is there
fee_same : (vs : List (List ℕ)) (x : ℕ) → required amount_in_cents vs ≡ Some x → optional 0 amount_in_cents vs ≡ Some x
fee_same [] x e = absurd cc
fee_same (v ∷ []) x e = e
fee_same (v ∷ w ∷ vs) x e = absurd cc

four_same : (cost fee fee' copay total : Option ℕ) (m : Money) → ((x : ℕ) → fee ≡ Some x → fee' ≡ Some x) → or_fault BadAmount (money_of cost fee copay total) ≡ Ok m → or_fault BadAmount (money_of cost fee' copay total) ≡ Ok m
four_same None fee fee' copay total m h e = absurd cc
four_same (Some c) None fee' copay total m h e = absurd cc
four_same (Some c) (Some f) fee' copay total m h e = ap (λ (o : Option ℕ). or_fault BadAmount (money_of (Some c) o copay total)) (h f refl) ∙ e

money_same : (group : List SegmentParts) (m : Money) → money_in Book group ≡ Ok m → money_in System group ≡ Ok m
money_same group m e =
    four_same (amount_at (codes "F6") group) (amount_at (codes "F7") group) (fee_in System group) (amount_at (codes "F5") group) (amount_at (codes "F9") group) m (fee_same (values_in (codes "23") (codes "F7") group)) e

-- a fee is an amount that is there, or 0
pub fee_there : (by : Speaker) (group : List SegmentParts) (x : ℕ) → fee_in by group ≡ Some x → (required amount_in_cents (values_in (codes "23") (codes "F7") group) ≡ Some x) ⊎ (x ≡ 0)
fee_there Book group x e = inl e
fee_there System group x e = of_values (values_in (codes "23") (codes "F7") group) e
  where
    of_values : (vs : List (List ℕ)) → optional 0 amount_in_cents vs ≡ Some x → (required amount_in_cents vs ≡ Some x) ⊎ (x ≡ 0)
    of_values [] h = inr cc
    of_values (v ∷ []) h = inl h
    of_values (v ∷ w ∷ vs) h = absurd cc

-- parts that are there, of an advice
payment_said : (paid : Authorization → ℕ → Money → Ruling) (group : List SegmentParts) (n : ℕ) (m : Money) → claim_in group ≡ Ok n → money_in System group ≡ Ok m → payment_in System paid group ≡ Ok (paid unread n m)
payment_said paid group n m c p = rw (c, p) refl

reversal_said : (group : List SegmentParts) (n : ℕ) → claim_in group ≡ Ok n → reversal_in System group ≡ Ok (Reversed unread n)
reversal_said group n c = rw c refl

under_same : (group : List SegmentParts) (s : Status) (r : Ruling) → ruling_under Book group s ≡ Ok r → ruling_under System group s ≡ Ok (unnamed r)
under_same group status.Paid r e =
    let a = bind_ok (authorization_in Book group) _ r e in
    let n = bind_ok (claim_in group) _ r a.2 in
    let m = bind_ok (money_in Book group) _ r n.2 in
    subst (λ (x : Ruling). payment_in System Paid group ≡ Ok (unnamed x)) (same_ok _ r m.2) (payment_said Paid group n.0 m.0 n.1 (money_same group m.0 m.1))
under_same group status.Duplicate r e =
    let a = bind_ok (authorization_in Book group) _ r e in
    let n = bind_ok (claim_in group) _ r a.2 in
    let m = bind_ok (money_in Book group) _ r n.2 in
    subst (λ (x : Ruling). payment_in System Duplicate group ≡ Ok (unnamed x)) (same_ok _ r m.2) (payment_said Duplicate group n.0 m.0 n.1 (money_same group m.0 m.1))
under_same group status.Reversed r e =
    let a = bind_ok (authorization_in Book group) _ r e in
    let n = bind_ok (claim_in group) _ r a.2 in
    subst (λ (x : Ruling). reversal_in System group ≡ Ok (unnamed x)) (same_ok _ r n.2) (reversal_said group n.0 n.1)
under_same group status.Rejected r e =
    let c = bind_ok (rejects_in group) _ r e in
    subst (λ (x : Ruling). rejection_in group ≡ Ok (unnamed x)) (same_ok _ r c.2) (ap (λ (x : Result (List Code) AnswerFault). x >>= λ rejects. Ok (Rejected rejects)) c.1)

known_same : (h : Response) (o again : Option Status) (s : Status) → checked_status h (or_status o None) ≡ Ok s → checked_status h (or_status o again) ≡ Ok s
known_same h None again s e = absurd cc
known_same h (Some status) again s e = e

-- a status of a book is that of a system too
status_same : (h : Response) (group : List SegmentParts) (s : Status) → status_in Book h group ≡ Ok s → status_in System h group ≡ Ok s
status_same h group s e =
    let t = bind_ok (or_fault NoStatus (required (λ value. Some value) (values_in (codes "21") (codes "AN") group))) (λ text. checked_status h (status_by Book text)) s e in
    ap (λ (x : Result (List ℕ) AnswerFault). x >>= λ text. checked_status h (status_by System text)) t.1 ∙ known_same h (status_of t.0) (again_by System t.0) s t.2

-- what is said again is said of a reversal, and by a text `S`
pub said_again : (by : Speaker) (text : List ℕ) (s : Status) → again_by by text ≡ Some s → cond (bytes_eq text (codes "S")) (Some status.Reversed) None ≡ Some s
said_again Book text s e = absurd cc
said_again System text s e = e

ruling_same : (h : Response) (group : List SegmentParts) (r : Ruling) → ruling_in Book h group ≡ Ok r → ruling_in System h group ≡ Ok (unnamed r)
unfolding ruling_in
ruling_same h group r e =
    let s = bind_ok (status_in Book h group) (ruling_under Book group) r e in
    ap (λ (x : Result Status AnswerFault). x >>= ruling_under System group) (status_same h group s.0 s.1) ∙ under_same group s.0 r s.2

rulings_same : (h : Response) (groups : List (List SegmentParts)) (rs : List Ruling) → rulings_in Book h groups ≡ Ok rs → rulings_in System h groups ≡ Ok (map unnamed rs)
unfolding rulings_in
rulings_same h [] rs e = ap (λ (xs : List Ruling). Ok (map unnamed xs)) (same_ok [] rs e)
rulings_same h (group ∷ groups) rs e =
    let first = bind_ok (ruling_in Book h group) _ rs e in
    let later = bind_ok (rulings_in Book h groups) _ rs first.2 in
    rw (ruling_same h group first.0 first.1, rulings_same h groups later.0 later.1) (ap (λ (xs : List Ruling). Ok (map unnamed xs)) (same_ok (first.0 ∷ later.0) rs later.2))

with_same : (o : Option (TransmissionParts Response)) (a : AnswerParts) → answer_with Book o ≡ Ok a → answer_with System o ≡ Ok (unnamed_parts a)
with_same None a e = absurd cc
with_same (Some t) a e =
    let rs = bind_ok (rulings_in Book t.header t.groups) _ a e in
    subst (λ (x : AnswerParts). answer_with System (Some t) ≡ Ok (unnamed_parts x)) (same_ok _ a rs.2) (rw (rulings_same t.header t.groups rs.0 rs.1) refl)

pub parts_same : (bytes : List ℕ) (a : AnswerParts) → said_by Book bytes ≡ Ok a → said_by System bytes ≡ Ok (unnamed_parts a)
unfolding said_by
parts_same bytes a e = with_same (transmission_of response_kind bytes) a e

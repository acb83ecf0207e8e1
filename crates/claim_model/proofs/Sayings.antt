-- What an answer says of a claim can be written again: amounts of eight digits each, or one to five codes.
use Rattle.std.proofs.Common.{◌≡◌, ℕ, zero, suc, ◌≤◌, ◌==◌, Bool, true, false, ◌&&◌, cond, List, [], ◌∷◌, length, Option, Some, None, Result, Ok, Err, refl, ap, subst, arith, leb-true, inl, inr}
use Rattle.std.specs.Prelude.{bytes_eq, codes, nat_le, option_map}
use Rattle.std.specs.List.{AllByRecursion}
use Rattle.std.proofs.lemmas.Bool.{and_parts}
use Rattle.d0_header.specs.Response.{Response}
use Rattle.d0_segments.specs.Parts.{SegmentParts, TransmissionParts}
use Rattle.d0_segments.specs.Framing.{response_kind, transmission_of}
use Rattle.claim_profile.specs.declared.answer_reading.AnswerFault.{AnswerFault}
use Rattle.claim_profile.specs.declared.answer_reading.AnswerFault.TheVariants.{NoStatus, BadStatus, BadAmount, BadRejects}
use Rattle.claim_profile.specs.Fields.{values_in, required}
use Rattle.claim_profile.specs.Order.{number_up_to, amount_in_cents}
use Rattle.claim_profile.specs.Ruling.{AnswerParts, ◌>>=◌, or_fault, status_of, again_by, or_status, status_by, stands_beside, checked_status, status_in, authorization_in, claim_in, money_of, amount_at, fee_in, money_in, code_of, IsCode, codes_of, counted_codes, rejects_in, payment_in, reversal_in, rejection_in, ruling_under, ruling_in, rulings_in, answer_with, said_by}
use Rattle.claim_model.specs.Words.{Amounts, Code, Ruling, Paid, Duplicate, Answer}
use Rattle.claim_model.specs.Judgement.{Verdict, Pays, Rejects, verdict_in}
use Rattle.claim_model.specs.Laws.{IsAmounts, IsRejects, IsVerdict, AdvisesWell}
use Rattle.claim_model.specs.Bytes.{answer_in}
use Rattle.claim_profile.proofs.CodeLemmas.{code_is}
use Rattle.claim_profile.proofs.Unnamed.{fee_there, said_again}
use Rattle.claim_model.proofs.Options.{map_some, then_some, same_some, same_ok}
use Rattle.claim_model.proofs.BytesLaws.{AmountsInRange, amount_fits}

bind_ok : {A B : Type 0} (r : Result A AnswerFault) (f : A → Result B AnswerFault) (y : B) → (r >>= f) ≡ Ok y → (x : A) × (r ≡ Ok x) × (f x ≡ Ok y)
bind_ok (Ok x) f y e = (x, refl, e)
bind_ok (Err fault) f y e = absurd cc

some_of_ok : {A : Type 0} (fault : AnswerFault) (o : Option A) (a : A) → or_fault fault o ≡ Ok a → o ≡ Some a
some_of_ok fault None a e = absurd cc
some_of_ok fault (Some x) a e = cc

required_fits : AmountsInRange → (vs : List (List ℕ)) (x : ℕ) → required amount_in_cents vs ≡ Some x → x ≤ 99999999
required_fits law [] x e = absurd cc
required_fits law (v ∷ []) x e = amount_fits law v x e
required_fits law (v ∷ w ∷ vs) x e = absurd cc

-- four of them
money_fits : (cost fee copay : ℕ) (total : Option ℕ) (m : Amounts) → cost ≤ 99999999 → fee ≤ 99999999 → copay ≤ 99999999 → ((t : ℕ) → total ≡ Some t → t ≤ 99999999)
    → option_map (λ (t : ℕ). record { cost = cost; fee = fee; copay = copay; total = t }) total ≡ Some m → IsAmounts m
money_fits cost fee copay None m a b c d e = absurd cc
money_fits cost fee copay (Some total) m a b c d e = subst IsAmounts (same_some _ m e) (record { cost = a; fee = b; copay = c; total = d total refl })

fee_fits : AmountsInRange → (by : _) (group : List SegmentParts) (x : ℕ) → fee_in by group ≡ Some x → x ≤ 99999999
fee_fits law by group x e = elim (fee_there by group x e) [ inl there ↦ required_fits law (values_in (codes "23") (codes "F7") group) x there | inr none ↦ omega (arith, none) ]

amounts_fit : AmountsInRange → (by : _) (group : List SegmentParts) (m : Amounts) → money_in by group ≡ Ok m → IsAmounts m
amounts_fit law by group m e =
    let all = some_of_ok BadAmount (money_of (amount_at (codes "F6") group) (fee_in by group) (amount_at (codes "F5") group) (amount_at (codes "F9") group)) m e in
    let c = then_some _ (amount_at (codes "F6") group) m all in
    let f = then_some _ (fee_in by group) m c.2 in
    let p = then_some _ (amount_at (codes "F5") group) m f.2 in
    money_fits c.0 f.0 p.0 (amount_at (codes "F9") group) m (required_fits law (values_in (codes "23") (codes "F6") group) c.0 c.1) (fee_fits law by group f.0 f.1)
    (required_fits law (values_in (codes "23") (codes "F5") group) p.0 p.1) (required_fits law (values_in (codes "23") (codes "F9") group)) p.2

-- what texts are read as are codes
codes_are : (texts : List (List ℕ)) (cs : List Code) → codes_of texts ≡ Some cs → AllByRecursion IsCode cs
codes_are [] cs e = subst (AllByRecursion IsCode) (same_some [] cs e) tt
codes_are (text ∷ texts) cs e =
    let first = then_some _ (code_of text) cs e in
    let more = map_some _ (codes_of texts) cs first.2 in
    subst (AllByRecursion IsCode) more.2 (code_is text first.0 first.1, codes_are texts more.0 more.1)

-- as many codes as are counted, one to five
counted_fit : (count : Option ℕ) (o : Option (List Code)) (cs : List Code) → ((rejects : List Code) → o ≡ Some rejects → AllByRecursion IsCode rejects) → counted_codes count o ≡ Some cs → IsRejects cs
counted_fit None o cs are e = absurd cc
counted_fit (Some count) None cs are e = absurd cc
counted_fit (Some count) (Some rejects) cs are e = by_test (nat_le 1 (length rejects) && nat_le (length rejects) 5 && count == length rejects) refl e
  where
    by_test : (t : Bool) → (nat_le 1 (length rejects) && nat_le (length rejects) 5 && count == length rejects) ≡ t → cond t (Some rejects) None ≡ Some cs → IsRejects cs
    by_test true is h =
        let p = and_parts (nat_le 1 (length rejects) && nat_le (length rejects) 5) (count == length rejects) is in
        let q = and_parts (nat_le 1 (length rejects)) (nat_le (length rejects) 5) p.0 in
        let some : 1 ≤ length rejects = leb-true _ _ q.0 in
        let few : length rejects ≤ 5 = leb-true _ _ q.1 in
        subst IsRejects (same_some _ cs h) (record { some = omega (arith, some); few = few; each = are rejects refl })
    by_test false is h = absurd cc

codes_fit : (group : List SegmentParts) (cs : List Code) → rejects_in group ≡ Ok cs → IsRejects cs
codes_fit group cs e =
    counted_fit (required (number_up_to 2) (values_in (codes "21") (codes "FA") group)) (codes_of (values_in (codes "21") (codes "FB") group)) cs
    (codes_are (values_in (codes "21") (codes "FB") group))
    (some_of_ok BadRejects (counted_codes (required (number_up_to 2) (values_in (codes "21") (codes "FA") group)) (codes_of (values_in (codes "21") (codes "FB") group))) cs e)

-- what a ruling says of a claim
abbrev pub SaysWell : Ruling → Type 0
SaysWell r = (claimed : ℕ) (v : Verdict) → verdict_in claimed (Some r) ≡ Some v → IsVerdict v

-- amounts that are said of this prescription
said_of : (t : Bool) (m : Amounts) (v : Verdict) → IsAmounts m → cond t (Some (Pays m)) None ≡ Some v → IsVerdict v
said_of true m v fit h = subst IsVerdict (same_some (Pays m) v h) fit
said_of false m v fit h = absurd cc

payment_says : AmountsInRange → (by : _) (group : List SegmentParts) (r : Ruling) → payment_in by Paid group ≡ Ok r → SaysWell r
payment_says law by group r e =
    let a = bind_ok (authorization_in by group) _ r e in
    let n = bind_ok (claim_in group) _ r a.2 in
    let m = bind_ok (money_in by group) _ r n.2 in
    subst SaysWell (same_ok _ r m.2) (λ claimed v h. said_of (n.0 == claimed) m.0 v (amounts_fit law by group m.0 m.1) h)

duplicate_says : AmountsInRange → (by : _) (group : List SegmentParts) (r : Ruling) → payment_in by Duplicate group ≡ Ok r → SaysWell r
duplicate_says law by group r e =
    let a = bind_ok (authorization_in by group) _ r e in
    let n = bind_ok (claim_in group) _ r a.2 in
    let m = bind_ok (money_in by group) _ r n.2 in
    subst SaysWell (same_ok _ r m.2) (λ claimed v h. said_of (n.0 == claimed) m.0 v (amounts_fit law by group m.0 m.1) h)

reversal_says : (by : _) (group : List SegmentParts) (r : Ruling) → reversal_in by group ≡ Ok r → SaysWell r
reversal_says by group r e =
    let a = bind_ok (authorization_in by group) _ r e in
    let n = bind_ok (claim_in group) _ r a.2 in
    subst SaysWell (same_ok _ r n.2) (λ claimed v h. absurd cc)

rejection_says : (group : List SegmentParts) (r : Ruling) → rejection_in group ≡ Ok r → SaysWell r
rejection_says group r e =
    let a = bind_ok (rejects_in group) _ r e in
    subst SaysWell (same_ok _ r a.2) (λ claimed v h. subst IsVerdict (same_some (Rejects a.0) v h) (codes_fit group a.0 a.1))

-- each status leads to one of these
abbrev Leads : {S : Type 0} → (S → Result Ruling AnswerFault) → S → Type 0
Leads f s = (r : Ruling) → f s ≡ Ok r → SaysWell r

by_status : {S : Type 0} (f : S → Result Ruling AnswerFault) (p d a n : S) → Leads f p → Leads f d → Leads f a → Leads f n → (b c e g : Bool) (s : S)
    → cond b (Some p) (cond c (Some d) (cond e (Some a) (cond g (Some n) None))) ≡ Some s → Leads f s
by_status f p d a n x y z w true c e g s h = subst (Leads f) (same_some p s h) x
by_status f p d a n x y z w false true e g s h = subst (Leads f) (same_some d s h) y
by_status f p d a n x y z w false false true g s h = subst (Leads f) (same_some a s h) z
by_status f p d a n x y z w false false false true s h = subst (Leads f) (same_some n s h) w
by_status f p d a n x y z w false false false false s h = absurd cc

if_ok : {S : Type 0} (t : Bool) (a s : S) → cond t (Ok a) (Err BadStatus) ≡ Ok s → a ≡ s
if_ok true a s e = same_ok a s e
if_ok false a s e = absurd cc

checked_some : (h : Response) (o : _) (s : _) → checked_status h o ≡ Ok s → o ≡ Some s
checked_some h None s e = absurd cc
checked_some h (Some a) s e = ap (λ x. Some x) (if_ok (stands_beside h a) a s e)

status_leads : AmountsInRange → (by : _) (group : List SegmentParts) (text : List ℕ) (s : _) → status_of text ≡ Some s → Leads (ruling_under by group) s
status_leads law by group text s e =
    by_status (ruling_under by group) _ _ _ _ (payment_says law by group) (duplicate_says law by group) (reversal_says by group) (rejection_says group)
    (bytes_eq text (codes "P")) (bytes_eq text (codes "D")) (bytes_eq text (codes "A")) (bytes_eq text (codes "R")) s e

-- a status that is said of a reversal again leads where that of a reversal does
if_leads : {S : Type 0} (f : S → Result Ruling AnswerFault) (a s : S) (t : Bool) → Leads f a → cond t (Some a) None ≡ Some s → Leads f s
if_leads f a s true y h = subst (Leads f) (same_some a s h) y
if_leads f a s false y h = absurd cc

repeated_leads : (by : _) (group : List SegmentParts) (text : List ℕ) (o : _) (s : _) → ((x : _) → o ≡ Some x → Leads (ruling_under by group) x) → or_status o (again_by by text) ≡ Some s → Leads (ruling_under by group) s
repeated_leads by group text (Some x) s z h = subst (Leads (ruling_under by group)) (same_some x s h) (z x refl)
repeated_leads by group text None s z h = if_leads (ruling_under by group) _ s (bytes_eq text (codes "S")) (reversal_says by group) (said_again by text s h)

said_leads : AmountsInRange → (by : _) (group : List SegmentParts) (text : List ℕ) (s : _) → status_by by text ≡ Some s → Leads (ruling_under by group) s
said_leads law by group text s e = repeated_leads by group text (status_of text) s (status_leads law by group text) e

ruling_says : AmountsInRange → (by : _) (h : Response) (group : List SegmentParts) (r : Ruling) → ruling_in by h group ≡ Ok r → SaysWell r
unfolding ruling_in
ruling_says law by h group r e =
    let s = bind_ok (status_in by h group) (ruling_under by group) r e in
    let t = bind_ok (or_fault NoStatus (required (λ value. Some value) (values_in (codes "21") (codes "AN") group))) (λ text. checked_status h (status_by by text)) s.0 s.1 in
    said_leads law by group t.0 s.0 (checked_some h (status_by by t.0) s.0 t.2) r s.2

rulings_say : AmountsInRange → (by : _) (h : Response) (groups : List (List SegmentParts)) (rs : List Ruling) → rulings_in by h groups ≡ Ok rs → AllByRecursion SaysWell rs
unfolding rulings_in
rulings_say law by h [] rs e = subst (AllByRecursion SaysWell) (same_ok [] rs e) tt
rulings_say law by h (group ∷ groups) rs e =
    let first = bind_ok (ruling_in by h group) _ rs e in
    let later = bind_ok (rulings_in by h groups) _ rs first.2 in
    subst (AllByRecursion SaysWell) (same_ok (first.0 ∷ later.0) rs later.2) (ruling_says law by h group first.0 first.1, rulings_say law by h groups later.0 later.1)

with_says : AmountsInRange → (by : _) (o : Option (TransmissionParts Response)) (a : AnswerParts) → answer_with by o ≡ Ok a → AllByRecursion SaysWell a.rulings
with_says law by None a e = absurd cc
with_says law by (Some t) a e =
    let rs = bind_ok (rulings_in by t.header t.groups) _ a e in
    subst (λ (x : AnswerParts). AllByRecursion SaysWell x.rulings) (same_ok _ a rs.2) (rulings_say law by t.header t.groups rs.0 rs.1)

answer_says : AmountsInRange → (by : _) (bytes : List ℕ) (a : AnswerParts) → said_by by bytes ≡ Ok a → AllByRecursion SaysWell a.rulings
unfolding said_by
answer_says law by bytes a e = with_says law by (transmission_of response_kind bytes) a e

-- at each place
pub at_place : (rs : List Ruling) → AllByRecursion SaysWell rs → AdvisesWell rs
at_place rs all zero claimed v e = absurd cc
at_place [] all (suc place) claimed v e = absurd cc
at_place (r ∷ rs) all (suc zero) claimed v e = all.0 claimed v e
at_place (r ∷ rs) all (suc (suc place)) claimed v e = at_place rs all.1 (suc place) claimed v e

pub speaks_well : AmountsInRange → (by : _) (bytes : List ℕ) (r : Result AnswerParts AnswerFault) (a : Answer) → said_by by bytes ≡ r → answer_in r ≡ Some a → AdvisesWell a.rulings
speaks_well law by bytes (Ok parts) a is e = subst (λ (x : Answer). AdvisesWell x.rulings) (same_some _ a e) (at_place parts.rulings (answer_says law by bytes parts is))
speaks_well law by bytes (Err fault) a is e = absurd cc

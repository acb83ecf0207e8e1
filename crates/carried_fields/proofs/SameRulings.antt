-- A group that carries is read as the ruling of the book's own group.
use Rattle.std.proofs.Common.{◌≡◌, ℕ, Bool, true, false, cond, List, [], ◌∷◌, ◌++◌, map, filter, Option, Some, Result, Ok, Err, codes, refl, sym, ap, ◌∙◌}
use Rattle.std.specs.Str.{bytes_eq}
use Rattle.d0_header.specs.Response.{Response}
use Rattle.d0_segments.specs.Parts.{FieldParts, SegmentParts}
use Rattle.claim_profile.specs.declared.reject.Code.{Code}
use Rattle.claim_profile.specs.declared.ruling.Ruling.{Ruling}
use Rattle.claim_profile.specs.declared.ruling.Ruling.TheVariants.{Paid, Duplicate, Reversed, Rejected}
use Rattle.claim_profile.specs.declared.answer_reading.AnswerFault.{AnswerFault}
use Rattle.claim_profile.specs.declared.answer_reading.AnswerFault.TheVariants.{BadStatus, BadClaim}
use Rattle.claim_profile.specs.Authorization.{Authorization}
use Rattle.claim_profile.specs.Money.{Money}
use Rattle.claim_profile.specs.Fields.{untrimmed, trimmed, values, fields_of, values_in}
use Rattle.claim_profile.specs.Tally.{Tally, Absent, Single, tallied}
use Rattle.claim_profile.specs.Order.{number_up_to}
use Rattle.claim_profile.specs.OrderSeen.{required_seen, qualified_seen}
use Rattle.claim_profile.specs.Answer.{status_segment, claim_segment, pricing_segment, code_field, reject_segment, ruling_segments, ruling_groups}
use Rattle.claim_profile.specs.AnswerTally.{AnswerTally}
use Rattle.claim_profile.specs.Ruling.{◌>>=◌, or_fault, ruling_in, rulings_in}
use Rattle.claim_profile.specs.RulingSeen.{status_seen, authorization_seen, codes_counted, some_codes, ruled_under, ruled_seen, rejection_with, or_rejection}
use Rattle.claim_profile.proofs.AnswerCounting.{all_answer_counted, is_all_answer_counted}
use Rattle.claim_profile.proofs.RulingLemmas.{ruling_is}
use Rattle.carried_fields.specs.Merging.{has_segment, merged, carried_group, carried_groups}
use Rattle.carried_fields.proofs.Further.{is_read, own_values}

-- ---- what is known of the fields that a ruling is read from

abbrev known : List SegmentParts → AnswerTally
known group = all_answer_counted group

abbrev codes_in : List SegmentParts → List (List ℕ)
codes_in group = values_in (codes "21") (codes "FB") group

-- the rejection of these codes, where this is known of their count
abbrev rejection_seen : List (List ℕ) → Tally → Result Ruling AnswerFault
rejection_seen rejects count = rejection_with (some_codes (codes_counted (Some []) rejects)) (required_seen (number_up_to 2) count)

-- a ruling, as it is read from what is known, by whoever reads
ruling_as : (by : _) (h : Response) (group : List SegmentParts) → or_rejection (ruled_seen by h (known group)) (rejection_seen (codes_in group) (known group).reject_count) ≡ ruling_in by h group
ruling_as by h group = ruling_is by h group (known group) (sym (is_all_answer_counted group))

-- what is known of one field of a group that carries
tally_same : (reading : List ℕ → List ℕ) (id name : List ℕ) (own said : List SegmentParts) → is_read id name ≡ true → has_segment own id ≡ true
    → tallied Absent (values reading name (fields_of id (merged own said))) ≡ tallied Absent (values reading name (fields_of id own))
tally_same reading id name own said is has = ap (tallied Absent) (own_values reading id name own said is has)

codes_same : (own said : List SegmentParts) → has_segment own (codes "21") ≡ true → codes_in (merged own said) ≡ codes_in own
codes_same own said has = own_values untrimmed (codes "21") (codes "FB") own said refl has

-- ---- payments: each field is known as before

all_known : (own said : List SegmentParts) → has_segment own (codes "21") ≡ true → has_segment own (codes "22") ≡ true → has_segment own (codes "23") ≡ true → known (merged own said) ≡ known own
all_known own said has1 has2 has3 = λ i. record {
  status = tally_same untrimmed (codes "21") (codes "AN") own said refl has1 i;
  authorization = tally_same untrimmed (codes "21") (codes "F3") own said refl has1 i;
  reject_count = tally_same untrimmed (codes "21") (codes "FA") own said refl has1 i;
  prescription_qualifier = tally_same trimmed (codes "22") (codes "EM") own said refl has2 i;
  prescription = tally_same untrimmed (codes "22") (codes "D2") own said refl has2 i;
  copay = tally_same untrimmed (codes "23") (codes "F5") own said refl has3 i;
  cost = tally_same untrimmed (codes "23") (codes "F6") own said refl has3 i;
  fee = tally_same untrimmed (codes "23") (codes "F7") own said refl has3 i;
  total = tally_same untrimmed (codes "23") (codes "F9") own said refl has3 i;
}

payment_same : (by : _) (h : Response) (own said : List SegmentParts) → has_segment own (codes "21") ≡ true → has_segment own (codes "22") ≡ true → has_segment own (codes "23") ≡ true
    → ruling_in by h (merged own said) ≡ ruling_in by h own
payment_same by h own said has1 has2 has3 =
    let facts = all_known own said has1 has2 has3 in
    let rejects = codes_same own said has1 in
    sym (ruling_as by h (merged own said))
    ∙ (λ i. or_rejection (ruled_seen by h (facts i)) (rejection_seen (rejects i) (facts i).reject_count))
    ∙ ruling_as by h own

-- ---- where the book's status decides what is looked at

chosen : {S : Type 0} (s : S) (b : Bool) (f g : S → Result (Option Ruling) AnswerFault) (here there : Result Ruling AnswerFault) → or_rejection (f s) here ≡ or_rejection (g s) there
    → or_rejection ((let r : Result S AnswerFault = cond b (Ok s) (Err BadStatus) in r) >>= f) here ≡ or_rejection ((let r : Result S AnswerFault = cond b (Ok s) (Err BadStatus) in r) >>= g) there
chosen s true f g here there e = e
chosen s false f g here there e = refl

-- ---- reversals

reversal_has : (auth : Authorization) (prescription : ℕ) → (has_segment (ruling_segments (Reversed auth prescription)) (codes "21") ≡ true) × (has_segment (ruling_segments (Reversed auth prescription)) (codes "22") ≡ true)
unfolding status_segment claim_segment
reversal_has auth prescription = (refl, refl)

reversal_status : (auth : Authorization) (prescription : ℕ) → (known (ruling_segments (Reversed auth prescription))).status ≡ Single (codes "A")
unfolding tallied fields_of values status_segment claim_segment
reversal_status auth prescription = refl

-- a reversal, from its authorization and what is known of its prescription number
abbrev reversal_from : Result Authorization AnswerFault → (em d2 : Tally) → Result (Option Ruling) AnswerFault
reversal_from authorization em d2 = authorization >>= λ auth. or_fault BadClaim (qualified_seen (codes "1") em (required_seen (number_up_to 12) d2)) >>= λ prescription. Ok (Some (Reversed auth prescription))

reversal_same : (by : _) (h : Response) (auth : Authorization) (prescription : ℕ) (said : List SegmentParts) → ruling_in by h (merged (ruling_segments (Reversed auth prescription)) said) ≡ ruling_in by h (ruling_segments (Reversed auth prescription))
reversal_same by h auth prescription said =
    let own = ruling_segments (Reversed auth prescription) in
    let carries = merged own said in
    let has = reversal_has auth prescription in
    let an = tally_same untrimmed (codes "21") (codes "AN") own said refl has.0 in
    let f3 = tally_same untrimmed (codes "21") (codes "F3") own said refl has.0 in
    let fa = tally_same untrimmed (codes "21") (codes "FA") own said refl has.0 in
    let em = tally_same trimmed (codes "22") (codes "EM") own said refl has.1 in
    let d2 = tally_same untrimmed (codes "22") (codes "D2") own said refl has.1 in
    let fb = codes_same own said has.0 in
    let here = rejection_seen (codes_in carries) (known carries).reject_count in
    let there = rejection_seen (codes_in own) (known own).reject_count in
    sym (ruling_as by h carries)
    ∙ ap (λ (t : Tally). or_rejection (status_seen by h t >>= ruled_under by (known carries)) here) (an ∙ reversal_status auth prescription)
    ∙ chosen _ _ (ruled_under by (known carries)) (ruled_under by (known own)) here there (λ i. or_rejection (reversal_from (authorization_seen by (f3 i)) (em i) (d2 i)) (rejection_seen (fb i) (fa i)))
    ∙ ap (λ (t : Tally). or_rejection (status_seen by h t >>= ruled_under by (known own)) there) (sym (reversal_status auth prescription))
    ∙ ruling_as by h own

-- ---- rejections

no_statuses : (rejects : List Code) → filter (λ (f : FieldParts). bytes_eq f.id (codes "AN")) (map code_field rejects ++ []) ≡ []
no_statuses [] = refl
no_statuses (code ∷ rejects) = no_statuses rejects

rejection_has : (rejects : List Code) → has_segment (ruling_segments (Rejected rejects)) (codes "21") ≡ true
unfolding reject_segment
rejection_has rejects = refl

rejection_status : (rejects : List Code) → (known (ruling_segments (Rejected rejects))).status ≡ Single (codes "R")
unfolding tallied fields_of values reject_segment
rejection_status rejects = rw (no_statuses rejects) refl

rejection_same : (by : _) (h : Response) (rejects : List Code) (said : List SegmentParts) → ruling_in by h (merged (ruling_segments (Rejected rejects)) said) ≡ ruling_in by h (ruling_segments (Rejected rejects))
rejection_same by h rejects said =
    let own = ruling_segments (Rejected rejects) in
    let carries = merged own said in
    let has = rejection_has rejects in
    let an = tally_same untrimmed (codes "21") (codes "AN") own said refl has in
    let fa = tally_same untrimmed (codes "21") (codes "FA") own said refl has in
    let fb = codes_same own said has in
    let here = rejection_seen (codes_in carries) (known carries).reject_count in
    let there = rejection_seen (codes_in own) (known own).reject_count in
    sym (ruling_as by h carries)
    ∙ ap (λ (t : Tally). or_rejection (status_seen by h t >>= ruled_under by (known carries)) here) (an ∙ rejection_status rejects)
    ∙ chosen _ _ (ruled_under by (known carries)) (ruled_under by (known own)) here there (λ i. rejection_seen (fb i) (fa i))
    ∙ ap (λ (t : Tally). or_rejection (status_seen by h t >>= ruled_under by (known own)) there) (sym (rejection_status rejects))
    ∙ ruling_as by h own

-- ---- each ruling, and all of them

paid_has : (status : List ℕ) (auth : Authorization) (prescription : ℕ) (m : Money) (id : List ℕ) → has_segment (status_segment status auth ∷ claim_segment prescription ∷ pricing_segment m ∷ []) id ≡ has_segment (
    record { id = codes "21"; fields = [] } ∷ record { id = codes "22"; fields = [] } ∷ record { id = codes "23"; fields = [] } ∷ []) id
unfolding status_segment claim_segment pricing_segment
paid_has status auth prescription m id = refl

pub ruling_same : (by : _) (h : Response) (r : Ruling) (said : List SegmentParts) → ruling_in by h (merged (ruling_segments r) said) ≡ ruling_in by h (ruling_segments r)
ruling_same by h (Paid auth prescription m) said =
    let has = paid_has (codes "P") auth prescription m in
    payment_same by h (ruling_segments (Paid auth prescription m)) said (has (codes "21")) (has (codes "22")) (has (codes "23"))
ruling_same by h (Duplicate auth prescription m) said =
    let has = paid_has (codes "D") auth prescription m in
    payment_same by h (ruling_segments (Duplicate auth prescription m)) said (has (codes "21")) (has (codes "22")) (has (codes "23"))
ruling_same by h (Reversed auth prescription) said = reversal_same by h auth prescription said
ruling_same by h (Rejected rejects) said = rejection_same by h rejects said

group_same : (by : _) (h : Response) (r : Ruling) (b : Bool) (said : List SegmentParts) → ruling_in by h (carried_group b (ruling_segments r) said) ≡ ruling_in by h (ruling_segments r)
group_same by h r true said = ruling_same by h r said
group_same by h r false said = refl

next_same : (by : _) (h : Response) (g k : List SegmentParts) (gs ks : List (List SegmentParts)) → ruling_in by h g ≡ ruling_in by h k → rulings_in by h gs ≡ rulings_in by h ks → rulings_in by h (g ∷ gs) ≡ rulings_in by h (k ∷ ks)
unfolding rulings_in
next_same by h g k gs ks first later = λ i. first i >>= λ r. later i >>= λ rs. Ok (r ∷ rs)

-- the groups that carry are read as the rulings of the book's own
pub rulings_same : (by : _) (h : Response) (bs : List Bool) (rs : List Ruling) (said : List (List SegmentParts)) → rulings_in by h (carried_groups bs (ruling_groups rs) said) ≡ rulings_in by h (ruling_groups rs)
rulings_same by h [] rs said = refl
rulings_same by h (b ∷ bs) [] said = refl
rulings_same by h (b ∷ bs) (r ∷ rs) [] = refl
rulings_same by h (b ∷ bs) (r ∷ rs) (s ∷ said) =
    next_same by h (carried_group b (ruling_segments r) s) (ruling_segments r) (carried_groups bs (ruling_groups rs) said) (ruling_groups rs) (group_same by h r b s) (rulings_same by h bs rs said)

-- Counting the fields of an answer goes on where it stopped.
use Rattle.std.proofs.Common.{◌≡◌, true, false, List, [], ◌∷◌, ◌++◌, codes, refl, ap, sym, ◌∙◌}
use Rattle.std.specs.Str.{bytes_eq}
use Rattle.d0_segments.specs.Parts.{FieldParts, SegmentParts}
use Rattle.claim_profile.specs.Fields.{untrimmed, trimmed, values, values_in, texts_in, fields_of}
use Rattle.claim_profile.specs.Tally.{Absent, tallied}
use Rattle.claim_profile.specs.AnswerTally.{AnswerTally, no_answer_seen, answer_fields_counted, answer_counted}
use Rattle.claim_profile.proofs.Counting.{counted_further, counted_nothing, fields_of-none, fields_of-append, fields_of-here, fields_of-elsewhere}
use Rattle.claim_profile.proofs.OrderCounting.{other_id}

pub answer_fields_counted-none : (t : AnswerTally) → answer_fields_counted t [] [] [] ≡ t
unfolding answer_fields_counted
answer_fields_counted-none t = λ i. record {
  status = counted_nothing t.status untrimmed (codes "AN") i;
  authorization = counted_nothing t.authorization untrimmed (codes "F3") i;
  reject_count = counted_nothing t.reject_count untrimmed (codes "FA") i;
  prescription_qualifier = counted_nothing t.prescription_qualifier trimmed (codes "EM") i;
  prescription = counted_nothing t.prescription untrimmed (codes "D2") i;
  copay = counted_nothing t.copay untrimmed (codes "F5") i;
  cost = counted_nothing t.cost untrimmed (codes "F6") i;
  fee = counted_nothing t.fee untrimmed (codes "F7") i;
  total = counted_nothing t.total untrimmed (codes "F9") i;
}

pub answer_fields_counted-append : (t : AnswerTally) (is js cs ds ps qs : List FieldParts)
    → answer_fields_counted t (is ++ js) (cs ++ ds) (ps ++ qs) ≡ answer_fields_counted (answer_fields_counted t is cs ps) js ds qs
unfolding answer_fields_counted
answer_fields_counted-append t is js cs ds ps qs = λ i. record {
  status = counted_further t.status untrimmed (codes "AN") is js i;
  authorization = counted_further t.authorization untrimmed (codes "F3") is js i;
  reject_count = counted_further t.reject_count untrimmed (codes "FA") is js i;
  prescription_qualifier = counted_further t.prescription_qualifier trimmed (codes "EM") cs ds i;
  prescription = counted_further t.prescription untrimmed (codes "D2") cs ds i;
  copay = counted_further t.copay untrimmed (codes "F5") ps qs i;
  cost = counted_further t.cost untrimmed (codes "F6") ps qs i;
  fee = counted_further t.fee untrimmed (codes "F7") ps qs i;
  total = counted_further t.total untrimmed (codes "F9") ps qs i;
}

parts_counted : (t : AnswerTally) (is js cs ds ps qs : List FieldParts) → is ≡ js → cs ≡ ds → ps ≡ qs → answer_fields_counted t is cs ps ≡ answer_fields_counted t js ds qs
parts_counted t is js cs ds ps qs e1 e2 e3 = λ i. answer_fields_counted t (e1 i) (e2 i) (e3 i)

pub answer_counted-none : (t : AnswerTally) → answer_counted t [] ≡ t
unfolding answer_counted
answer_counted-none t =
    parts_counted t (fields_of (codes "21") []) [] (fields_of (codes "22") []) [] (fields_of (codes "23") []) [] (fields_of-none (codes "21")) (fields_of-none (codes "22")) (fields_of-none (codes "23"))
    ∙ answer_fields_counted-none t

pub answer_counted-append : (t : AnswerTally) (ss us : List SegmentParts) → answer_counted t (ss ++ us) ≡ answer_counted (answer_counted t ss) us
unfolding answer_counted
answer_counted-append t ss us =
    parts_counted t (fields_of (codes "21") (ss ++ us)) (fields_of (codes "21") ss ++ fields_of (codes "21") us) (fields_of (codes "22") (ss ++ us)) (fields_of (codes "22") ss ++ fields_of (codes "22") us)
    (fields_of (codes "23") (ss ++ us)) (fields_of (codes "23") ss ++ fields_of (codes "23") us) (fields_of-append (codes "21") ss us) (fields_of-append (codes "22") ss us) (fields_of-append (codes "23") ss us)
    ∙ answer_fields_counted-append t (fields_of (codes "21") ss) (fields_of (codes "21") us) (fields_of (codes "22") ss) (fields_of (codes "22") us) (fields_of (codes "23") ss) (fields_of (codes "23") us)

-- one field of a status segment more
pub answer_status_more : (t u : AnswerTally) (f : FieldParts)
    → u.status ≡ tallied t.status (values untrimmed (codes "AN") (f ∷ []))
    → u.authorization ≡ tallied t.authorization (values untrimmed (codes "F3") (f ∷ []))
    → u.reject_count ≡ tallied t.reject_count (values untrimmed (codes "FA") (f ∷ []))
    → u.prescription_qualifier ≡ t.prescription_qualifier
    → u.prescription ≡ t.prescription
    → u.copay ≡ t.copay
    → u.cost ≡ t.cost
    → u.fee ≡ t.fee
    → u.total ≡ t.total
    → u ≡ answer_fields_counted t (f ∷ []) [] []
unfolding answer_fields_counted
answer_status_more t u f e_status e_authorization e_reject_count e_prescription_qualifier e_prescription e_copay e_cost e_fee e_total = λ i. record {
  status = e_status i;
  authorization = e_authorization i;
  reject_count = e_reject_count i;
  prescription_qualifier = (e_prescription_qualifier ∙ sym (counted_nothing t.prescription_qualifier trimmed (codes "EM"))) i;
  prescription = (e_prescription ∙ sym (counted_nothing t.prescription untrimmed (codes "D2"))) i;
  copay = (e_copay ∙ sym (counted_nothing t.copay untrimmed (codes "F5"))) i;
  cost = (e_cost ∙ sym (counted_nothing t.cost untrimmed (codes "F6"))) i;
  fee = (e_fee ∙ sym (counted_nothing t.fee untrimmed (codes "F7"))) i;
  total = (e_total ∙ sym (counted_nothing t.total untrimmed (codes "F9"))) i;
}

-- one field of a claim segment more
pub answer_claim_more : (t u : AnswerTally) (f : FieldParts)
    → u.status ≡ t.status
    → u.authorization ≡ t.authorization
    → u.reject_count ≡ t.reject_count
    → u.prescription_qualifier ≡ tallied t.prescription_qualifier (values trimmed (codes "EM") (f ∷ []))
    → u.prescription ≡ tallied t.prescription (values untrimmed (codes "D2") (f ∷ []))
    → u.copay ≡ t.copay
    → u.cost ≡ t.cost
    → u.fee ≡ t.fee
    → u.total ≡ t.total
    → u ≡ answer_fields_counted t [] (f ∷ []) []
unfolding answer_fields_counted
answer_claim_more t u f e_status e_authorization e_reject_count e_prescription_qualifier e_prescription e_copay e_cost e_fee e_total = λ i. record {
  status = (e_status ∙ sym (counted_nothing t.status untrimmed (codes "AN"))) i;
  authorization = (e_authorization ∙ sym (counted_nothing t.authorization untrimmed (codes "F3"))) i;
  reject_count = (e_reject_count ∙ sym (counted_nothing t.reject_count untrimmed (codes "FA"))) i;
  prescription_qualifier = e_prescription_qualifier i;
  prescription = e_prescription i;
  copay = (e_copay ∙ sym (counted_nothing t.copay untrimmed (codes "F5"))) i;
  cost = (e_cost ∙ sym (counted_nothing t.cost untrimmed (codes "F6"))) i;
  fee = (e_fee ∙ sym (counted_nothing t.fee untrimmed (codes "F7"))) i;
  total = (e_total ∙ sym (counted_nothing t.total untrimmed (codes "F9"))) i;
}

-- one field of a pricing segment more
pub answer_pricing_more : (t u : AnswerTally) (f : FieldParts)
    → u.status ≡ t.status
    → u.authorization ≡ t.authorization
    → u.reject_count ≡ t.reject_count
    → u.prescription_qualifier ≡ t.prescription_qualifier
    → u.prescription ≡ t.prescription
    → u.copay ≡ tallied t.copay (values untrimmed (codes "F5") (f ∷ []))
    → u.cost ≡ tallied t.cost (values untrimmed (codes "F6") (f ∷ []))
    → u.fee ≡ tallied t.fee (values untrimmed (codes "F7") (f ∷ []))
    → u.total ≡ tallied t.total (values untrimmed (codes "F9") (f ∷ []))
    → u ≡ answer_fields_counted t [] [] (f ∷ [])
unfolding answer_fields_counted
answer_pricing_more t u f e_status e_authorization e_reject_count e_prescription_qualifier e_prescription e_copay e_cost e_fee e_total = λ i. record {
  status = (e_status ∙ sym (counted_nothing t.status untrimmed (codes "AN"))) i;
  authorization = (e_authorization ∙ sym (counted_nothing t.authorization untrimmed (codes "F3"))) i;
  reject_count = (e_reject_count ∙ sym (counted_nothing t.reject_count untrimmed (codes "FA"))) i;
  prescription_qualifier = (e_prescription_qualifier ∙ sym (counted_nothing t.prescription_qualifier trimmed (codes "EM"))) i;
  prescription = (e_prescription ∙ sym (counted_nothing t.prescription untrimmed (codes "D2"))) i;
  copay = e_copay i;
  cost = e_cost i;
  fee = e_fee i;
  total = e_total i;
}

-- the next field counted, and then those after it
pub answer_status_next : (t u : AnswerTally) (f : FieldParts) (fs : List FieldParts) → u ≡ answer_fields_counted t (f ∷ []) [] [] → answer_fields_counted u fs [] [] ≡ answer_fields_counted t (f ∷ fs) [] []
answer_status_next t u f fs e = ap (λ (v : AnswerTally). answer_fields_counted v fs [] []) e ∙ sym (answer_fields_counted-append t (f ∷ []) fs [] [] [] [])

pub answer_claim_next : (t u : AnswerTally) (f : FieldParts) (fs : List FieldParts) → u ≡ answer_fields_counted t [] (f ∷ []) [] → answer_fields_counted u [] fs [] ≡ answer_fields_counted t [] (f ∷ fs) []
answer_claim_next t u f fs e = ap (λ (v : AnswerTally). answer_fields_counted v [] fs []) e ∙ sym (answer_fields_counted-append t [] [] (f ∷ []) fs [] [])

pub answer_pricing_next : (t u : AnswerTally) (f : FieldParts) (fs : List FieldParts) → u ≡ answer_fields_counted t [] [] (f ∷ []) → answer_fields_counted u [] [] fs ≡ answer_fields_counted t [] [] (f ∷ fs)
answer_pricing_next t u f fs e = ap (λ (v : AnswerTally). answer_fields_counted v [] [] fs) e ∙ sym (answer_fields_counted-append t [] [] [] [] (f ∷ []) fs)

-- the next segment counted, and then those after it
pub answer_next : (t u : AnswerTally) (s : SegmentParts) (ss : List SegmentParts) → u ≡ answer_counted t (s ∷ []) → answer_counted u ss ≡ answer_counted t (s ∷ ss)
answer_next t u s ss e = ap (λ (v : AnswerTally). answer_counted v ss) e ∙ sym (answer_counted-append t (s ∷ []) ss)

-- one segment counted
segment_counted : (t : AnswerTally) (s : SegmentParts) (is cs ps : List FieldParts) → fields_of (codes "21") (s ∷ []) ≡ is → fields_of (codes "22") (s ∷ []) ≡ cs → fields_of (codes "23") (s ∷ []) ≡ ps
    → answer_counted t (s ∷ []) ≡ answer_fields_counted t is cs ps
unfolding answer_counted
segment_counted t s is cs ps e1 e2 e3 = parts_counted t (fields_of (codes "21") (s ∷ [])) is (fields_of (codes "22") (s ∷ [])) cs (fields_of (codes "23") (s ∷ [])) ps e1 e2 e3

pub status_counted : (t : AnswerTally) (s : SegmentParts) → bytes_eq s.id (codes "21") ≡ true → answer_counted t (s ∷ []) ≡ answer_fields_counted t s.fields [] []
status_counted t s e = segment_counted t s s.fields [] [] (fields_of-here (codes "21") s e) (fields_of-elsewhere (codes "22") s (other_id s.id (codes "21") (codes "22") refl e)) (fields_of-elsewhere (codes "23") s (other_id s.id (codes "21") (codes "23") refl e))

pub claim_counted : (t : AnswerTally) (s : SegmentParts) → bytes_eq s.id (codes "22") ≡ true → answer_counted t (s ∷ []) ≡ answer_fields_counted t [] s.fields []
claim_counted t s e = segment_counted t s [] s.fields [] (fields_of-elsewhere (codes "21") s (other_id s.id (codes "22") (codes "21") refl e)) (fields_of-here (codes "22") s e) (fields_of-elsewhere (codes "23") s (other_id s.id (codes "22") (codes "23") refl e))

pub pricing_counted : (t : AnswerTally) (s : SegmentParts) → bytes_eq s.id (codes "23") ≡ true → answer_counted t (s ∷ []) ≡ answer_fields_counted t [] [] s.fields
pricing_counted t s e = segment_counted t s [] [] s.fields (fields_of-elsewhere (codes "21") s (other_id s.id (codes "23") (codes "21") refl e)) (fields_of-elsewhere (codes "22") s (other_id s.id (codes "23") (codes "22") refl e)) (fields_of-here (codes "23") s e)

pub elsewhere_counted : (t : AnswerTally) (s : SegmentParts) → bytes_eq s.id (codes "21") ≡ false → bytes_eq s.id (codes "22") ≡ false → bytes_eq s.id (codes "23") ≡ false → answer_counted t (s ∷ []) ≡ t
elsewhere_counted t s e1 e2 e3 =
    segment_counted t s [] [] [] (fields_of-elsewhere (codes "21") s e1) (fields_of-elsewhere (codes "22") s e2) (fields_of-elsewhere (codes "23") s e3) ∙ answer_fields_counted-none t

-- all values of a group, counted
abbrev pub all_answer_counted : List SegmentParts → AnswerTally
all_answer_counted group = record {
  status = tallied Absent (values_in (codes "21") (codes "AN") group);
  authorization = tallied Absent (values_in (codes "21") (codes "F3") group);
  reject_count = tallied Absent (values_in (codes "21") (codes "FA") group);
  prescription_qualifier = tallied Absent (texts_in (codes "22") (codes "EM") group);
  prescription = tallied Absent (values_in (codes "22") (codes "D2") group);
  copay = tallied Absent (values_in (codes "23") (codes "F5") group);
  cost = tallied Absent (values_in (codes "23") (codes "F6") group);
  fee = tallied Absent (values_in (codes "23") (codes "F7") group);
  total = tallied Absent (values_in (codes "23") (codes "F9") group);
}

pub is_all_answer_counted : (group : List SegmentParts) → answer_counted no_answer_seen group ≡ all_answer_counted group
unfolding answer_counted answer_fields_counted
is_all_answer_counted group = refl

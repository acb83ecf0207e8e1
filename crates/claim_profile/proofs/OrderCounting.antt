-- Counting the fields of an order goes on where it stopped.
use Rattle.std.proofs.Common.{◌≡◌, ℕ, true, false, List, [], ◌∷◌, ◌++◌, codes, refl, ap, sym, ◌∙◌}
use Rattle.std.specs.Str.{bytes_eq}
use Rattle.std.proofs.lemmas.Slice.Eq.{bytes_eq-Decides}
use Rattle.d0_segments.specs.Parts.{FieldParts, SegmentParts}
use Rattle.claim_profile.specs.declared.order_values.Level.{Level}
use Rattle.claim_profile.specs.declared.order_values.Level.TheVariants.{Shared, Group}
use Rattle.claim_profile.specs.Fields.{untrimmed, trimmed, values, fields_of}
use Rattle.claim_profile.specs.Tally.{tallied}
use Rattle.claim_profile.specs.OrderTally.{OrderTally, fields_counted, segments_counted}
use Rattle.claim_profile.proofs.Counting.{counted_further, counted_nothing, fields_of-none, fields_of-append, fields_of-here, fields_of-elsewhere}

pub fields_counted-none : (t : OrderTally) → fields_counted t [] [] [] ≡ t
unfolding fields_counted
fields_counted-none t = λ i. record {
  cardholder = counted_nothing t.cardholder trimmed (codes "C2") i;
  prescription_qualifier = counted_nothing t.prescription_qualifier trimmed (codes "EM") i;
  prescription = counted_nothing t.prescription untrimmed (codes "D2") i;
  fill = counted_nothing t.fill untrimmed (codes "D3") i;
  product_qualifier = counted_nothing t.product_qualifier trimmed (codes "E1") i;
  product = counted_nothing t.product trimmed (codes "D7") i;
  quantity = counted_nothing t.quantity untrimmed (codes "E7") i;
  cost = counted_nothing t.cost untrimmed (codes "D9") i;
  fee = counted_nothing t.fee untrimmed (codes "DC") i;
}

pub fields_counted-append : (t : OrderTally) (is js cs ds ps qs : List FieldParts)
    → fields_counted t (is ++ js) (cs ++ ds) (ps ++ qs) ≡ fields_counted (fields_counted t is cs ps) js ds qs
unfolding fields_counted
fields_counted-append t is js cs ds ps qs = λ i. record {
  cardholder = counted_further t.cardholder trimmed (codes "C2") is js i;
  prescription_qualifier = counted_further t.prescription_qualifier trimmed (codes "EM") cs ds i;
  prescription = counted_further t.prescription untrimmed (codes "D2") cs ds i;
  fill = counted_further t.fill untrimmed (codes "D3") cs ds i;
  product_qualifier = counted_further t.product_qualifier trimmed (codes "E1") cs ds i;
  product = counted_further t.product trimmed (codes "D7") cs ds i;
  quantity = counted_further t.quantity untrimmed (codes "E7") cs ds i;
  cost = counted_further t.cost untrimmed (codes "D9") ps qs i;
  fee = counted_further t.fee untrimmed (codes "DC") ps qs i;
}

pub segments_counted-none : (level : Level) (t : OrderTally) → segments_counted level t [] ≡ t
unfolding segments_counted
segments_counted-none Shared t = ap (λ (fs : List FieldParts). fields_counted t fs [] []) (fields_of-none (codes "04")) ∙ fields_counted-none t
segments_counted-none Group t =
    ap (λ (fs : List FieldParts). fields_counted t [] fs (fields_of (codes "11") [])) (fields_of-none (codes "07"))
    ∙ ap (λ (fs : List FieldParts). fields_counted t [] [] fs) (fields_of-none (codes "11")) ∙ fields_counted-none t

pub segments_counted-append : (level : Level) (t : OrderTally) (ss us : List SegmentParts) → segments_counted level t (ss ++ us) ≡ segments_counted level (segments_counted level t ss) us
unfolding segments_counted
segments_counted-append Shared t ss us =
    ap (λ (fs : List FieldParts). fields_counted t fs [] []) (fields_of-append (codes "04") ss us)
    ∙ fields_counted-append t (fields_of (codes "04") ss) (fields_of (codes "04") us) [] [] [] []
segments_counted-append Group t ss us =
    ap (λ (fs : List FieldParts). fields_counted t [] fs (fields_of (codes "11") (ss ++ us))) (fields_of-append (codes "07") ss us)
    ∙ ap (λ (fs : List FieldParts). fields_counted t [] (fields_of (codes "07") ss ++ fields_of (codes "07") us) fs) (fields_of-append (codes "11") ss us)
    ∙ fields_counted-append t [] [] (fields_of (codes "07") ss) (fields_of (codes "07") us) (fields_of (codes "11") ss) (fields_of (codes "11") us)

-- one field of an insurance segment more
pub insurance_more : (t u : OrderTally) (f : FieldParts) → u.cardholder ≡ tallied t.cardholder (values trimmed (codes "C2") (f ∷ []))
    → u.prescription_qualifier ≡ t.prescription_qualifier → u.prescription ≡ t.prescription → u.fill ≡ t.fill → u.product_qualifier ≡ t.product_qualifier
    → u.product ≡ t.product → u.quantity ≡ t.quantity → u.cost ≡ t.cost → u.fee ≡ t.fee → u ≡ fields_counted t (f ∷ []) [] []
unfolding fields_counted
insurance_more t u f cardholder em prescription fill e1 product quantity cost fee = λ i. record {
  cardholder = cardholder i;
  prescription_qualifier = (em ∙ sym (counted_nothing t.prescription_qualifier trimmed (codes "EM"))) i;
  prescription = (prescription ∙ sym (counted_nothing t.prescription untrimmed (codes "D2"))) i;
  fill = (fill ∙ sym (counted_nothing t.fill untrimmed (codes "D3"))) i;
  product_qualifier = (e1 ∙ sym (counted_nothing t.product_qualifier trimmed (codes "E1"))) i;
  product = (product ∙ sym (counted_nothing t.product trimmed (codes "D7"))) i;
  quantity = (quantity ∙ sym (counted_nothing t.quantity untrimmed (codes "E7"))) i;
  cost = (cost ∙ sym (counted_nothing t.cost untrimmed (codes "D9"))) i;
  fee = (fee ∙ sym (counted_nothing t.fee untrimmed (codes "DC"))) i;
}

-- one field of a claim segment more
pub claim_more : (t u : OrderTally) (f : FieldParts) → u.cardholder ≡ t.cardholder
    → u.prescription_qualifier ≡ tallied t.prescription_qualifier (values trimmed (codes "EM") (f ∷ []))
    → u.prescription ≡ tallied t.prescription (values untrimmed (codes "D2") (f ∷ []))
    → u.fill ≡ tallied t.fill (values untrimmed (codes "D3") (f ∷ []))
    → u.product_qualifier ≡ tallied t.product_qualifier (values trimmed (codes "E1") (f ∷ []))
    → u.product ≡ tallied t.product (values trimmed (codes "D7") (f ∷ []))
    → u.quantity ≡ tallied t.quantity (values untrimmed (codes "E7") (f ∷ []))
    → u.cost ≡ t.cost → u.fee ≡ t.fee → u ≡ fields_counted t [] (f ∷ []) []
unfolding fields_counted
claim_more t u f cardholder em prescription fill e1 product quantity cost fee = λ i. record {
  cardholder = (cardholder ∙ sym (counted_nothing t.cardholder trimmed (codes "C2"))) i;
  prescription_qualifier = em i;
  prescription = prescription i;
  fill = fill i;
  product_qualifier = e1 i;
  product = product i;
  quantity = quantity i;
  cost = (cost ∙ sym (counted_nothing t.cost untrimmed (codes "D9"))) i;
  fee = (fee ∙ sym (counted_nothing t.fee untrimmed (codes "DC"))) i;
}

-- one field of a pricing segment more
pub pricing_more : (t u : OrderTally) (f : FieldParts) → u.cardholder ≡ t.cardholder
    → u.prescription_qualifier ≡ t.prescription_qualifier → u.prescription ≡ t.prescription → u.fill ≡ t.fill → u.product_qualifier ≡ t.product_qualifier
    → u.product ≡ t.product → u.quantity ≡ t.quantity
    → u.cost ≡ tallied t.cost (values untrimmed (codes "D9") (f ∷ [])) → u.fee ≡ tallied t.fee (values untrimmed (codes "DC") (f ∷ [])) → u ≡ fields_counted t [] [] (f ∷ [])
unfolding fields_counted
pricing_more t u f cardholder em prescription fill e1 product quantity cost fee = λ i. record {
  cardholder = (cardholder ∙ sym (counted_nothing t.cardholder trimmed (codes "C2"))) i;
  prescription_qualifier = (em ∙ sym (counted_nothing t.prescription_qualifier trimmed (codes "EM"))) i;
  prescription = (prescription ∙ sym (counted_nothing t.prescription untrimmed (codes "D2"))) i;
  fill = (fill ∙ sym (counted_nothing t.fill untrimmed (codes "D3"))) i;
  product_qualifier = (e1 ∙ sym (counted_nothing t.product_qualifier trimmed (codes "E1"))) i;
  product = (product ∙ sym (counted_nothing t.product trimmed (codes "D7"))) i;
  quantity = (quantity ∙ sym (counted_nothing t.quantity untrimmed (codes "E7"))) i;
  cost = cost i;
  fee = fee i;
}

-- the next field counted, and then those after it
pub insurance_next : (t u : OrderTally) (f : FieldParts) (fs : List FieldParts) → u ≡ fields_counted t (f ∷ []) [] [] → fields_counted u fs [] [] ≡ fields_counted t (f ∷ fs) [] []
insurance_next t u f fs e = ap (λ (v : OrderTally). fields_counted v fs [] []) e ∙ sym (fields_counted-append t (f ∷ []) fs [] [] [] [])

pub claim_next : (t u : OrderTally) (f : FieldParts) (fs : List FieldParts) → u ≡ fields_counted t [] (f ∷ []) [] → fields_counted u [] fs [] ≡ fields_counted t [] (f ∷ fs) []
claim_next t u f fs e = ap (λ (v : OrderTally). fields_counted v [] fs []) e ∙ sym (fields_counted-append t [] [] (f ∷ []) fs [] [])

pub pricing_next : (t u : OrderTally) (f : FieldParts) (fs : List FieldParts) → u ≡ fields_counted t [] [] (f ∷ []) → fields_counted u [] [] fs ≡ fields_counted t [] [] (f ∷ fs)
pricing_next t u f fs e = ap (λ (v : OrderTally). fields_counted v [] [] fs) e ∙ sym (fields_counted-append t [] [] [] [] (f ∷ []) fs)

-- the next segment counted, and then those after it
pub segment_next : (level : Level) (t u : OrderTally) (s : SegmentParts) (ss : List SegmentParts) → u ≡ segments_counted level t (s ∷ []) → segments_counted level u ss ≡ segments_counted level t (s ∷ ss)
segment_next level t u s ss e = ap (λ (v : OrderTally). segments_counted level v ss) e ∙ sym (segments_counted-append level t (s ∷ []) ss)

-- one segment counted
pub shared_here : (t : OrderTally) (s : SegmentParts) → bytes_eq s.id (codes "04") ≡ true → segments_counted Shared t (s ∷ []) ≡ fields_counted t s.fields [] []
unfolding segments_counted
shared_here t s e = ap (λ (fs : List FieldParts). fields_counted t fs [] []) (fields_of-here (codes "04") s e)

pub shared_elsewhere : (t : OrderTally) (s : SegmentParts) → bytes_eq s.id (codes "04") ≡ false → segments_counted Shared t (s ∷ []) ≡ t
unfolding segments_counted
shared_elsewhere t s e = ap (λ (fs : List FieldParts). fields_counted t fs [] []) (fields_of-elsewhere (codes "04") s e) ∙ fields_counted-none t

group_parts : (t : OrderTally) (s : SegmentParts) (cs ps : List FieldParts) → fields_of (codes "07") (s ∷ []) ≡ cs → fields_of (codes "11") (s ∷ []) ≡ ps
    → segments_counted Group t (s ∷ []) ≡ fields_counted t [] cs ps
unfolding segments_counted
group_parts t s cs ps e1 e2 = ap (λ (fs : List FieldParts). fields_counted t [] fs (fields_of (codes "11") (s ∷ []))) e1 ∙ ap (λ (fs : List FieldParts). fields_counted t [] cs fs) e2

-- two identifications are not one
pub other_id : (id : List ℕ) (a b : List ℕ) → bytes_eq a b ≡ false → bytes_eq id a ≡ true → bytes_eq id b ≡ false
other_id id a b apart e = ap (λ x. bytes_eq x b) ((bytes_eq-Decides id a).0 e) ∙ apart

pub group_claim : (t : OrderTally) (s : SegmentParts) → bytes_eq s.id (codes "07") ≡ true → segments_counted Group t (s ∷ []) ≡ fields_counted t [] s.fields []
group_claim t s e = group_parts t s s.fields [] (fields_of-here (codes "07") s e) (fields_of-elsewhere (codes "11") s (other_id s.id (codes "07") (codes "11") refl e))

pub group_pricing : (t : OrderTally) (s : SegmentParts) → bytes_eq s.id (codes "11") ≡ true → segments_counted Group t (s ∷ []) ≡ fields_counted t [] [] s.fields
group_pricing t s e = group_parts t s [] s.fields (fields_of-elsewhere (codes "07") s (other_id s.id (codes "11") (codes "07") refl e)) (fields_of-here (codes "11") s e)

pub group_elsewhere : (t : OrderTally) (s : SegmentParts) → bytes_eq s.id (codes "07") ≡ false → bytes_eq s.id (codes "11") ≡ false → segments_counted Group t (s ∷ []) ≡ t
group_elsewhere t s e1 e2 = group_parts t s [] [] (fields_of-elsewhere (codes "07") s e1) (fields_of-elsewhere (codes "11") s e2) ∙ fields_counted-none t

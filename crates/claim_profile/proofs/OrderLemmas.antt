-- What is counted is what the lists of all values say, and what is not valid has a reject code.
use Rattle.std.proofs.Common.{◌≡◌, ℕ, ◌≤◌, List, [], ◌∷◌, Option, Some, None, length, is_some, option_map, if◌then◌else◌, codes, refl, ap, ◌∙◌, arith}
use Rattle.d0_header.specs.Request.{Request}
use Rattle.d0_segments.specs.Parts.{SegmentParts}
use Rattle.claim_profile.specs.declared.order.Reversal.{Reversal}
use Rattle.claim_profile.specs.declared.order.Order.{Order}
use Rattle.claim_profile.specs.declared.order.Order.TheVariants as order
use Rattle.claim_profile.specs.declared.order_fields.ClaimFields.{ClaimFields}
use Rattle.claim_profile.specs.declared.order_fields.ReversalFields.{ReversalFields}
use Rattle.claim_profile.specs.declared.order_values.Level.TheVariants.{Shared, Group}
use Rattle.claim_profile.specs.Fields.{untrimmed, trimmed, values, values_in, texts_in, required, optional}
use Rattle.claim_profile.specs.Tally.{Absent, Many, tallied}
use Rattle.claim_profile.specs.OrderTally.{OrderTally, nothing_seen, fields_counted, segments_counted}
use Rattle.claim_profile.specs.Order.{text_up_to, number_up_to, amount_in_cents, the_text, qualified, claim_fields, reversal_fields, claim_of, claim_codes, reversal_of, reversal_codes, or_rejected, claim_order, reversal_order, day_of_service}
use Rattle.claim_profile.specs.OrderSeen.{required_seen, optional_seen, qualified_seen, claim_seen, reversal_seen}
use Rattle.claim_profile.proofs.Counting.{counted_nothing}

pub tallied-many : (vs : List (List ℕ)) → tallied Many vs ≡ Many
unfolding tallied
tallied-many [] = refl
tallied-many (v ∷ vs) = tallied-many vs

pub required_counted : {A : Type 0} (test : List ℕ → Option A) (vs : List (List ℕ)) → required_seen test (tallied Absent vs) ≡ required test vs
unfolding tallied
required_counted test [] = refl
required_counted test (v ∷ []) = refl
required_counted test (v ∷ w ∷ vs) = ap (required_seen test) (tallied-many vs)

pub optional_counted : {A : Type 0} (absent : A) (test : List ℕ → Option A) (vs : List (List ℕ)) → optional_seen absent test (tallied Absent vs) ≡ optional absent test vs
unfolding tallied
optional_counted absent test [] = refl
optional_counted absent test (v ∷ []) = refl
optional_counted absent test (v ∷ w ∷ vs) = ap (optional_seen absent test) (tallied-many vs)

-- all values of the fields of an order, counted
abbrev all_counted : (shared group : List SegmentParts) → OrderTally
all_counted shared group = record {
  cardholder = tallied Absent (texts_in (codes "04") (codes "C2") shared);
  prescription_qualifier = tallied Absent (texts_in (codes "07") (codes "EM") group);
  prescription = tallied Absent (values_in (codes "07") (codes "D2") group);
  fill = tallied Absent (values_in (codes "07") (codes "D3") group);
  product_qualifier = tallied Absent (texts_in (codes "07") (codes "E1") group);
  product = tallied Absent (texts_in (codes "07") (codes "D7") group);
  quantity = tallied Absent (values_in (codes "07") (codes "E7") group);
  cost = tallied Absent (values_in (codes "11") (codes "D9") group);
  fee = tallied Absent (values_in (codes "11") (codes "DC") group);
}

-- first counting nothing of a field changes nothing
after_nothing : (first second : List ℕ → List ℕ) (name : List ℕ) (vs : List (List ℕ)) → tallied (tallied Absent (values first name [])) vs ≡ tallied Absent vs
after_nothing first second name vs = ap (λ t. tallied t vs) (counted_nothing Absent first name)

is_all_counted : (shared group : List SegmentParts) → segments_counted Group (segments_counted Shared nothing_seen shared) group ≡ all_counted shared group
unfolding segments_counted fields_counted
is_all_counted shared group = λ i. record {
  cardholder = counted_nothing (tallied Absent (texts_in (codes "04") (codes "C2") shared)) trimmed (codes "C2") i;
  prescription_qualifier = after_nothing trimmed trimmed (codes "EM") (texts_in (codes "07") (codes "EM") group) i;
  prescription = after_nothing untrimmed untrimmed (codes "D2") (values_in (codes "07") (codes "D2") group) i;
  fill = after_nothing untrimmed untrimmed (codes "D3") (values_in (codes "07") (codes "D3") group) i;
  product_qualifier = after_nothing trimmed trimmed (codes "E1") (texts_in (codes "07") (codes "E1") group) i;
  product = after_nothing trimmed trimmed (codes "D7") (texts_in (codes "07") (codes "D7") group) i;
  quantity = after_nothing untrimmed untrimmed (codes "E7") (values_in (codes "07") (codes "E7") group) i;
  cost = after_nothing untrimmed untrimmed (codes "D9") (values_in (codes "11") (codes "D9") group) i;
  fee = after_nothing untrimmed untrimmed (codes "DC") (values_in (codes "11") (codes "DC") group) i;
}

pub qualified_counted : {A : Type 0} (expected : List ℕ) (qualifiers : List (List ℕ)) (test : List ℕ → Option A) (vs : List (List ℕ))
    → qualified_seen expected (tallied Absent qualifiers) (required_seen test (tallied Absent vs)) ≡ qualified expected qualifiers (required test vs)
qualified_counted expected qualifiers test vs =
    ap (λ o. qualified_seen expected (tallied Absent qualifiers) o) (required_counted test vs)
    ∙ ap (λ o. if is_some o then required test vs else None) (required_counted (the_text expected) qualifiers)

fields_of_claim : (h : Request) (shared group : List SegmentParts) → claim_seen h (all_counted shared group) ≡ claim_fields h shared group
unfolding claim_fields
fields_of_claim h shared group = λ i. record {
  cardholder = required_counted (text_up_to 20) (texts_in (codes "04") (codes "C2") shared) i;
  date = day_of_service h;
  prescription = qualified_counted (codes "1") (texts_in (codes "07") (codes "EM") group) (number_up_to 12) (values_in (codes "07") (codes "D2") group) i;
  fill = required_counted (number_up_to 2) (values_in (codes "07") (codes "D3") group) i;
  product = qualified_counted (codes "03") (texts_in (codes "07") (codes "E1") group) (text_up_to 19) (texts_in (codes "07") (codes "D7") group) i;
  quantity = required_counted (number_up_to 10) (values_in (codes "07") (codes "E7") group) i;
  cost = required_counted amount_in_cents (values_in (codes "11") (codes "D9") group) i;
  fee = optional_counted 0 amount_in_cents (values_in (codes "11") (codes "DC") group) i;
}

fields_of_reversal : (h : Request) (shared group : List SegmentParts) → reversal_seen h (all_counted shared group) ≡ reversal_fields h group
unfolding reversal_fields
fields_of_reversal h shared group = λ i. record {
  date = day_of_service h;
  prescription = qualified_counted (codes "1") (texts_in (codes "07") (codes "EM") group) (number_up_to 12) (values_in (codes "07") (codes "D2") group) i;
  fill = optional_counted None (λ value. option_map (λ (n : ℕ). Some n) (number_up_to 2 value)) (values_in (codes "07") (codes "D3") group) i;
}

-- the fields of a claim are those of the lists of all values
pub claim_fields_are : (h : Request) (shared group : List SegmentParts) (t : OrderTally) (f : ClaimFields)
    → f ≡ claim_seen h t → t ≡ segments_counted Group (segments_counted Shared nothing_seen shared) group → f ≡ claim_fields h shared group
claim_fields_are h shared group t f e1 e2 = e1 ∙ ap (claim_seen h) (e2 ∙ is_all_counted shared group) ∙ fields_of_claim h shared group

pub reversal_fields_are : (h : Request) (shared group : List SegmentParts) (t : OrderTally) (f : ReversalFields)
    → f ≡ reversal_seen h t → t ≡ segments_counted Group (segments_counted Shared nothing_seen shared) group → f ≡ reversal_fields h group
reversal_fields_are h shared group t f e1 e2 = e1 ∙ ap (reversal_seen h) (e2 ∙ is_all_counted shared group) ∙ fields_of_reversal h shared group

-- the order of valid fields, and the codes of others
pub claim_order_ok : (h : Request) (shared group : List SegmentParts) (f : ClaimFields) (o : Order) → f ≡ claim_fields h shared group → Some o ≡ option_map order.Claim (claim_of h f)
    → or_rejected (Some o) (claim_codes f) ≡ claim_order h shared group
unfolding claim_order
claim_order_ok h shared group f o e some =
    ap (λ p. or_rejected p (claim_codes f)) some ∙ ap (λ g. or_rejected (option_map order.Claim (claim_of h g)) (claim_codes g)) e

pub claim_order_rejected : (h : Request) (shared group : List SegmentParts) (f : ClaimFields) → f ≡ claim_fields h shared group → None ≡ option_map order.Claim (claim_of h f)
    → or_rejected None (claim_codes f) ≡ claim_order h shared group
unfolding claim_order
claim_order_rejected h shared group f e none =
    ap (λ p. or_rejected p (claim_codes f)) none ∙ ap (λ g. or_rejected (option_map order.Claim (claim_of h g)) (claim_codes g)) e

pub reversal_order_ok : (h : Request) (group : List SegmentParts) (f : ReversalFields) (reversal : Reversal) → f ≡ reversal_fields h group → Some reversal ≡ reversal_of h f
    → or_rejected (Some (order.Reversal reversal)) (reversal_codes f) ≡ reversal_order h group
unfolding reversal_order
reversal_order_ok h group f reversal e some =
    ap (λ o. or_rejected (option_map order.Reversal o) (reversal_codes f)) some ∙ ap (λ g. or_rejected (option_map order.Reversal (reversal_of h g)) (reversal_codes g)) e

pub reversal_order_rejected : (h : Request) (group : List SegmentParts) (f : ReversalFields) → f ≡ reversal_fields h group → None ≡ reversal_of h f
    → or_rejected None (reversal_codes f) ≡ reversal_order h group
unfolding reversal_order
reversal_order_rejected h group f e none =
    ap (λ o. or_rejected (option_map order.Reversal o) (reversal_codes f)) none ∙ ap (λ g. or_rejected (option_map order.Reversal (reversal_of h g)) (reversal_codes g)) e

-- a field that is not valid has a code
pub claim_code : (h : Request) (c d : Option (List ℕ)) (r n : Option ℕ) (p : Option (List ℕ)) (q i e : Option ℕ)
    → None ≡ option_map order.Claim (claim_of h (record { cardholder = c; date = d; prescription = r; fill = n; product = p; quantity = q; cost = i; fee = e }))
    → 1 ≤ length (claim_codes (record { cardholder = c; date = d; prescription = r; fill = n; product = p; quantity = q; cost = i; fee = e }))
unfolding claim_of claim_codes
claim_code h None d r n p q i e none = omega arith
claim_code h (Some c) None r n p q i e none = omega arith
claim_code h (Some c) (Some d) None n p q i e none = omega arith
claim_code h (Some c) (Some d) (Some r) None p q i e none = omega arith
claim_code h (Some c) (Some d) (Some r) (Some n) None q i e none = omega arith
claim_code h (Some c) (Some d) (Some r) (Some n) (Some p) None i e none = omega arith
claim_code h (Some c) (Some d) (Some r) (Some n) (Some p) (Some q) None e none = omega arith
claim_code h (Some c) (Some d) (Some r) (Some n) (Some p) (Some q) (Some i) None none = omega arith
claim_code h (Some c) (Some d) (Some r) (Some n) (Some p) (Some q) (Some i) (Some e) none = absurd cc

pub reversal_code : (h : Request) (d : Option (List ℕ)) (r : Option ℕ) (n : Option (Option ℕ))
    → None ≡ reversal_of h (record { date = d; prescription = r; fill = n }) → 1 ≤ length (reversal_codes (record { date = d; prescription = r; fill = n }))
unfolding reversal_of reversal_codes
reversal_code h None r n none = omega arith
reversal_code h (Some d) None n none = omega arith
reversal_code h (Some d) (Some r) None none = omega arith
reversal_code h (Some d) (Some r) (Some n) none = absurd cc

-- All causes, and the codes that an answer gives.
use Rattle.std.proofs.Common.{◌≡◌, ℕ, Bool, true, false, List, [], ◌∷◌, take, map, Option, Some, None, Ok, Err, is_none, is_some, option_map, codes, if◌then◌else◌, refl, ap, sym, ◌∙◌}
use Rattle.d0_header.specs.Request.{Request}
use Rattle.d0_segments.specs.Parts.{SegmentParts}
use Rattle.claim_profile.specs.declared.reject.Code.{Code}
use Rattle.claim_profile.specs.declared.reject.Code.TheVariants as code
use Rattle.claim_profile.specs.declared.order.Claim.{Claim}
use Rattle.claim_profile.specs.declared.order.Reversal.{Reversal}
use Rattle.claim_profile.specs.declared.order.Order.{Order}
use Rattle.claim_profile.specs.declared.order.Order.TheVariants as order
use Rattle.claim_profile.specs.declared.order_fields.ClaimFields.{ClaimFields}
use Rattle.claim_profile.specs.declared.order_fields.ReversalFields.{ReversalFields}
use Rattle.claim_profile.specs.declared.order_reading.OrderFault.TheVariants.{Rejected}
use Rattle.claim_profile.specs.declared.transaction.TransactionCode.{TransactionCode}
use Rattle.claim_profile.specs.declared.transaction.TransactionCode.TheVariants as transaction
use Rattle.claim_profile.specs.Transaction.{transaction_code}
use Rattle.claim_profile.specs.Fields.{values_in, texts_in, required}
use Rattle.claim_profile.specs.Reject.{held}
use Rattle.claim_profile.specs.Order.{text_up_to, number_up_to, the_text, qualified, claim_fields, reversal_fields, claim_of, claim_codes, reversal_of, reversal_codes, or_rejected, claim_order, reversal_order, order_as, order_of}
use Rattle.message_parts.specs.declared.names.FieldName.{FieldName}
use Rattle.message_parts.specs.declared.names.FieldName.TheVariants as field
use Rattle.message_parts.specs.Causes.{CauseSeen, Condition, unless_required, unless_qualified, condition, cardholder_condition, date_condition, prescription_condition, fill_condition, product_condition, quantity_condition, cost_condition, fee_condition, given_fill_condition, claim_conditions, reversal_conditions, holding, causes_under, causes_of, codes_told}

-- a condition without its field
abbrev pair : Condition → Bool × Code
pair c = (c.0, c.1.code)

-- the codes of the causes that hold are the codes whose condition holds
codes_held : (conditions : List Condition) → codes_told (holding conditions) ≡ held (map pair conditions)
codes_held [] = refl
codes_held ((true, c) ∷ cs) = ap (λ (rest : List Code). c.code ∷ rest) (codes_held cs)
codes_held ((false, c) ∷ cs) = codes_held cs

-- no codes, so no causes
no_codes : (causes : List CauseSeen) → codes_told causes ≡ [] → causes ≡ []
no_codes [] e = refl
no_codes (c ∷ cs) e = absurd cc

-- ---- the conditions of the fields

abbrev claim_pairs : ClaimFields → List (Bool × Code)
claim_pairs f =
    (is_none f.cardholder, code.Cardholder)
    ∷ (is_none f.date, code.DateOfService)
    ∷ (is_none f.prescription, code.Prescription)
    ∷ (is_none f.fill, code.FillNumber)
    ∷ (is_none f.product, code.Product)
    ∷ (is_none f.quantity, code.Quantity)
    ∷ (is_none f.cost, code.IngredientCost)
    ∷ (is_none f.fee, code.DispensingFee)
    ∷ []

abbrev reversal_pairs : ReversalFields → List (Bool × Code)
reversal_pairs f = (is_none f.date, code.DateOfService) ∷ (is_none f.prescription, code.Prescription) ∷ (is_none f.fill, code.FillNumber) ∷ []

qualified_pair : {A : Type 0} (code : Code) (expected : List ℕ) (qualifier : FieldName) (qualifiers : List (List ℕ)) (field : FieldName) (test : List ℕ → Option A) (values : List (List ℕ))
    → pair (unless_qualified code expected qualifier qualifiers field test values) ≡ (is_none (qualified expected qualifiers (required test values)), code)
qualified_pair code expected qualifier qualifiers field test values =
    elim (is_some (required (the_text expected) qualifiers))
    as (λ b. pair (if b then unless_required code field test values else condition true code qualifier qualifiers) ≡ (is_none (if b then required test values else None), code)) [
      | true ↦ refl
      | false ↦ refl
    ]

claim_pairs_are : (h : Request) (shared group : List SegmentParts) → map pair (claim_conditions h shared group) ≡ claim_pairs (claim_fields h shared group)
unfolding claim_conditions claim_fields cardholder_condition date_condition prescription_condition fill_condition product_condition quantity_condition cost_condition fee_condition
claim_pairs_are h shared group = λ i.
    pair (cardholder_condition shared) ∷ pair (date_condition h)
    ∷ qualified_pair code.Prescription (codes "1") field.PrescriptionQualifier (texts_in (codes "07") (codes "EM") group) field.Prescription (number_up_to 12) (values_in (codes "07") (codes "D2") group) i
    ∷ pair (fill_condition group)
    ∷ qualified_pair code.Product (codes "03") field.ProductQualifier (texts_in (codes "07") (codes "E1") group) field.Product (text_up_to 19) (texts_in (codes "07") (codes "D7") group) i
    ∷ pair (quantity_condition group) ∷ pair (cost_condition group) ∷ pair (fee_condition group) ∷ []

reversal_pairs_are : (h : Request) (group : List SegmentParts) → map pair (reversal_conditions h group) ≡ reversal_pairs (reversal_fields h group)
unfolding reversal_conditions reversal_fields date_condition prescription_condition given_fill_condition
reversal_pairs_are h group = λ i.
    pair (date_condition h)
    ∷ qualified_pair code.Prescription (codes "1") field.PrescriptionQualifier (texts_in (codes "07") (codes "EM") group) field.Prescription (number_up_to 12) (values_in (codes "07") (codes "D2") group) i
    ∷ pair (given_fill_condition group) ∷ []

-- ---- an order, or codes

claim_reads : (h : Request) (c d : Option (List ℕ)) (r n : Option ℕ) (p : Option (List ℕ)) (q i e : Option ℕ) (claim : Claim)
    → claim_of h (record { cardholder = c; date = d; prescription = r; fill = n; product = p; quantity = q; cost = i; fee = e }) ≡ Some claim
    → held (claim_pairs (record { cardholder = c; date = d; prescription = r; fill = n; product = p; quantity = q; cost = i; fee = e })) ≡ []
unfolding claim_of
claim_reads h None d r n p q i e claim some = absurd cc
claim_reads h (Some c) None r n p q i e claim some = absurd cc
claim_reads h (Some c) (Some d) None n p q i e claim some = absurd cc
claim_reads h (Some c) (Some d) (Some r) None p q i e claim some = absurd cc
claim_reads h (Some c) (Some d) (Some r) (Some n) None q i e claim some = absurd cc
claim_reads h (Some c) (Some d) (Some r) (Some n) (Some p) None i e claim some = absurd cc
claim_reads h (Some c) (Some d) (Some r) (Some n) (Some p) (Some q) None e claim some = absurd cc
claim_reads h (Some c) (Some d) (Some r) (Some n) (Some p) (Some q) (Some i) None claim some = absurd cc
claim_reads h (Some c) (Some d) (Some r) (Some n) (Some p) (Some q) (Some i) (Some e) claim some = refl

claim_only : (h : Request) (c d : Option (List ℕ)) (r n : Option ℕ) (p : Option (List ℕ)) (q i e : Option ℕ)
    → held (claim_pairs (record { cardholder = c; date = d; prescription = r; fill = n; product = p; quantity = q; cost = i; fee = e })) ≡ []
    → (claim : Claim) × (claim_of h (record { cardholder = c; date = d; prescription = r; fill = n; product = p; quantity = q; cost = i; fee = e }) ≡ Some claim)
unfolding claim_of
claim_only h None d r n p q i e none = absurd cc
claim_only h (Some c) None r n p q i e none = absurd cc
claim_only h (Some c) (Some d) None n p q i e none = absurd cc
claim_only h (Some c) (Some d) (Some r) None p q i e none = absurd cc
claim_only h (Some c) (Some d) (Some r) (Some n) None q i e none = absurd cc
claim_only h (Some c) (Some d) (Some r) (Some n) (Some p) None i e none = absurd cc
claim_only h (Some c) (Some d) (Some r) (Some n) (Some p) (Some q) None e none = absurd cc
claim_only h (Some c) (Some d) (Some r) (Some n) (Some p) (Some q) (Some i) None none = absurd cc
claim_only h (Some c) (Some d) (Some r) (Some n) (Some p) (Some q) (Some i) (Some e) none = (_, refl)

reversal_reads : (h : Request) (d : Option (List ℕ)) (r : Option ℕ) (n : Option (Option ℕ)) (reversal : Reversal)
    → reversal_of h (record { date = d; prescription = r; fill = n }) ≡ Some reversal → held (reversal_pairs (record { date = d; prescription = r; fill = n })) ≡ []
unfolding reversal_of
reversal_reads h None r n reversal some = absurd cc
reversal_reads h (Some d) None n reversal some = absurd cc
reversal_reads h (Some d) (Some r) None reversal some = absurd cc
reversal_reads h (Some d) (Some r) (Some n) reversal some = refl

reversal_only : (h : Request) (d : Option (List ℕ)) (r : Option ℕ) (n : Option (Option ℕ))
    → held (reversal_pairs (record { date = d; prescription = r; fill = n })) ≡ [] → (reversal : Reversal) × (reversal_of h (record { date = d; prescription = r; fill = n }) ≡ Some reversal)
unfolding reversal_of
reversal_only h None r n none = absurd cc
reversal_only h (Some d) None n none = absurd cc
reversal_only h (Some d) (Some r) None none = absurd cc
reversal_only h (Some d) (Some r) (Some n) none = (_, refl)

-- where an order was told, there is one
some_order : {A : Type 0} (make : A → Order) (o : Option A) (cs : List Code) (told : Order) → or_rejected (option_map make o) cs ≡ Ok told → (x : A) × (o ≡ Some x)
some_order make None cs told e = absurd cc
some_order make (Some x) cs told e = (x, refl)

-- where codes were told, they are these
told_codes : (o : Option Order) (cs ds : List Code) → or_rejected o cs ≡ Err (Rejected ds) → ds ≡ cs
told_codes None cs ds e = cc
told_codes (Some x) cs ds e = absurd cc

-- ---- claims and reversals

claim_causes : (h : Request) (shared group : List SegmentParts) → codes_told (holding (claim_conditions h shared group)) ≡ held (claim_pairs (claim_fields h shared group))
claim_causes h shared group = codes_held (claim_conditions h shared group) ∙ ap held (claim_pairs_are h shared group)

reversal_causes : (h : Request) (group : List SegmentParts) → codes_told (holding (reversal_conditions h group)) ≡ held (reversal_pairs (reversal_fields h group))
reversal_causes h group = codes_held (reversal_conditions h group) ∙ ap held (reversal_pairs_are h group)

claim_reads_all : (h : Request) (shared group : List SegmentParts) (told : Order) → claim_order h shared group ≡ Ok told → holding (claim_conditions h shared group) ≡ []
unfolding claim_order
claim_reads_all h shared group told e =
    let f = claim_fields h shared group in
    let some = some_order order.Claim (claim_of h f) (claim_codes f) told e in
    no_codes (holding (claim_conditions h shared group)) (claim_causes h shared group ∙ claim_reads h f.cardholder f.date f.prescription f.fill f.product f.quantity f.cost f.fee some.0 some.1)

claim_only_all : (h : Request) (shared group : List SegmentParts) → holding (claim_conditions h shared group) ≡ [] → (told : Order) × (claim_order h shared group ≡ Ok told)
unfolding claim_order
claim_only_all h shared group e =
    let f = claim_fields h shared group in
    let some = claim_only h f.cardholder f.date f.prescription f.fill f.product f.quantity f.cost f.fee (sym (claim_causes h shared group) ∙ ap codes_told e) in
    (order.Claim some.0, ap (λ o. or_rejected (option_map order.Claim o) (claim_codes f)) some.1)

claim_first_five : (h : Request) (shared group : List SegmentParts) (ds : List Code) → claim_order h shared group ≡ Err (Rejected ds) → ds ≡ take 5 (codes_told (holding (claim_conditions h shared group)))
unfolding claim_order claim_codes
claim_first_five h shared group ds e =
    let f = claim_fields h shared group in
    told_codes (option_map order.Claim (claim_of h f)) (claim_codes f) ds e ∙ ap (take 5) (sym (claim_causes h shared group))

reversal_reads_all : (h : Request) (group : List SegmentParts) (told : Order) → reversal_order h group ≡ Ok told → holding (reversal_conditions h group) ≡ []
unfolding reversal_order
reversal_reads_all h group told e =
    let f = reversal_fields h group in
    let some = some_order order.Reversal (reversal_of h f) (reversal_codes f) told e in
    no_codes (holding (reversal_conditions h group)) (reversal_causes h group ∙ reversal_reads h f.date f.prescription f.fill some.0 some.1)

reversal_only_all : (h : Request) (group : List SegmentParts) → holding (reversal_conditions h group) ≡ [] → (told : Order) × (reversal_order h group ≡ Ok told)
unfolding reversal_order
reversal_only_all h group e =
    let f = reversal_fields h group in
    let some = reversal_only h f.date f.prescription f.fill (sym (reversal_causes h group) ∙ ap codes_told e) in
    (order.Reversal some.0, ap (λ o. or_rejected (option_map order.Reversal o) (reversal_codes f)) some.1)

reversal_first_five : (h : Request) (group : List SegmentParts) (ds : List Code) → reversal_order h group ≡ Err (Rejected ds) → ds ≡ take 5 (codes_told (holding (reversal_conditions h group)))
unfolding reversal_order reversal_codes
reversal_first_five h group ds e =
    let f = reversal_fields h group in
    told_codes (option_map order.Reversal (reversal_of h f)) (reversal_codes f) ds e ∙ ap (take 5) (sym (reversal_causes h group))

-- ---- transactions

reads_under : (o : Option TransactionCode) (h : Request) (shared group : List SegmentParts) (told : Order) → order_as o h shared group ≡ Ok told → causes_under o h shared group ≡ []
reads_under (Some transaction.Billing) h shared group told = claim_reads_all h shared group told
reads_under (Some transaction.Reversal) h shared group told = reversal_reads_all h group told
reads_under None h shared group told = λ e. absurd cc

only_under : (o : Option TransactionCode) (h : Request) (shared group : List SegmentParts) → causes_under o h shared group ≡ [] → (told : Order) × (order_as o h shared group ≡ Ok told)
only_under (Some transaction.Billing) h shared group = claim_only_all h shared group
only_under (Some transaction.Reversal) h shared group = reversal_only_all h group
only_under None h shared group = λ e. absurd cc

first_five_under : (o : Option TransactionCode) (h : Request) (shared group : List SegmentParts) (ds : List Code) → order_as o h shared group ≡ Err (Rejected ds) → ds ≡ take 5 (codes_told (causes_under o h shared group))
first_five_under (Some transaction.Billing) h shared group ds = claim_first_five h shared group ds
first_five_under (Some transaction.Reversal) h shared group ds = reversal_first_five h group ds
first_five_under None h shared group ds = λ e. cc

pub reads : (h : Request) (shared group : List SegmentParts) (told : Order) → order_of h shared group ≡ Ok told → causes_of h shared group ≡ []
unfolding order_of causes_of
reads h shared group told = reads_under (transaction_code h.code) h shared group told

pub only : (h : Request) (shared group : List SegmentParts) → causes_of h shared group ≡ [] → (told : Order) × (order_of h shared group ≡ Ok told)
unfolding order_of causes_of
only h shared group = only_under (transaction_code h.code) h shared group

pub first_five : (h : Request) (shared group : List SegmentParts) (ds : List Code) → order_of h shared group ≡ Err (Rejected ds) → ds ≡ take 5 (codes_told (causes_of h shared group))
unfolding order_of causes_of
first_five h shared group ds = first_five_under (transaction_code h.code) h shared group ds

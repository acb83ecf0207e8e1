-- The reading of bytes by the crates below keeps the laws.
use Rattle.std.proofs.Common.{◌≡◌, ℕ, ℤ, pos, negsuc, zero, suc, ◌+◌, ◌-◌, ◌^◌, ◌<◌, ◌≤◌, min, Bool, true, false, ◌==◌, cond, List, [], ◌∷◌, map, take, drop, length, Option, Some, None, Result, Ok, Err, refl, sym, ap, ◌∙◌, subst, arith, ◌⊎◌, inl, inr, eqb-true, length-take, length-drop}
use Rattle.std.specs.Prelude.{option_map, codes, is_none, is_some}
use Rattle.std.specs.List.{AllByRecursion}
use Rattle.std.specs.Result.{result_ok}
use Rattle.std.proofs.lemmas.List.{length-map}
use Rattle.overpunch.specs.Number.{number_of}
use Rattle.overpunch.specs.Amount.{IsAmount, amount_of}
use Rattle.d0_segments.specs.declared.fault.FramingFault.{FramingFault}
use Rattle.d0_segments.specs.Parts.{SegmentParts, TransmissionParts}
use Rattle.d0_segments.specs.Separators.{group_separator}
use Rattle.d0_segments.specs.Faults.{or_else, count_groups}
use Rattle.d0_segments.specs.Pieces.{onto, pieces, segments_of, groups_of}
use Rattle.d0_segments.specs.Framing.{request_kind, count_fault, after_header, framing_fault, transmission_of}
use Rattle.envelope.specs.Txn.{Txn, IsTxn}
use Rattle.envelope.specs.Envelope.{envelope_text}
use Rattle.envelope.specs.Opening.{envelope_of}
use Rattle.bin_routes.specs.Table.{RouteMaps, payer_of, payer_under}
use Rattle.claim_profile.specs.declared.reject.Code.TheVariants as code
use Rattle.claim_profile.specs.Reject.{held, first_five_held}
use Rattle.claim_profile.specs.Ruling.{IsCode}
use Rattle.claim_profile.specs.Fields.{values_in, texts_in, required, optional}
use Rattle.claim_profile.specs.Order.{number_up_to, not_negative, amount_in_cents, the_text, prescription_in, claim_fields, reversal_fields, claim_of, claim_codes, reversal_of, reversal_codes, or_rejected, claim_order, reversal_order, order_as, order_of}
use Rattle.claim_profile.specs.Readable.{readable_header}
use Rattle.claim_profile.specs.declared.transaction.TransactionCode.{TransactionCode}
use Rattle.claim_profile.specs.declared.transaction.TransactionCode.TheVariants as transaction
use Rattle.claim_profile.specs.Transaction.{transaction_code}
use Rattle.claim_profile.proofs.TransactionLemmas.{only}
use Rattle.plan_rules.specs.Prices.{price_of}
use Rattle.plan_rules.specs.Pricing.{amounts_at, paid, worth}
use Rattle.claim_model.specs.Words.{Amounts, Claim, Reversal, Bills, Reverses, Code, RequestHeader, Kind, Envelope, Plan, Answer, RouteKey}
use Rattle.claim_model.specs.Readable.{readable, billing_code, reversal_code}
use Rattle.claim_model.specs.Laws.{IsEnvelope, IsPrescription, IsClaimOf, IsReversalOf, IsRejects, IsOrderOf, IsAmounts, AdvisesWell, SaysSame, AnswersReadBack, CarriedBack, Laws}
use Rattle.claim_model.specs.Bytes.{order_in, orders_in, envelope_in, bytes_with}
use Rattle.claim_model.proofs.Options.{map_some, then_some, same_some}
use Rattle.claim_model.proofs.Tests.{readable_parts}
use Rattle.d0_segments.proofs.Left.{onto_length}
use Rattle.claim_profile.proofs.CarriedHeaders.{unless_none}

-- envelopes

abbrev pub EnvelopesReadBack : Type 0
EnvelopesReadBack = (place : ℕ × ℕ) (kind : Kind) (id : Txn) (payload : List ℕ) → IsTxn id → length payload ≤ 32768 → envelope_of place (envelope_text kind id payload) ≡ Ok (record { kind = kind; id = id; payload = payload; place = (place.0, place.1 + 18) })

envelopes_read : EnvelopesReadBack → (routes : RouteMaps) (e : Envelope) → IsEnvelope e → (bytes_with routes).read_envelope ((bytes_with routes).envelope e) ≡ Ok e
envelopes_read law routes e fits =
    ap envelope_in (law (0, 0) e.kind e.id e.payload (record { some_pharmacy = fits.pharmacy; some_number = fits.number; pharmacy_fits = fits.pharmacy_fits; number_fits = fits.number_fits }) fits.payload)

-- groups

or_else_none : (a b : Option FramingFault) → or_else a b ≡ None → b ≡ None
or_else_none (Some f) b e = absurd cc
or_else_none None b e = e

after_header_none : (a : Option Rattle.d0_header.specs.declared.fault.HeaderFault.HeaderFault) (b : Option FramingFault) → after_header a b ≡ None → b ≡ None
after_header_none (Some f) b e = absurd cc
after_header_none None b e = e

count_same : (said found : ℕ) → count_fault said found ≡ None → said ≡ found
count_same said found e = by_test (said == found) refl e
  where
    by_test : (b : Bool) → (said == found) ≡ b → cond b None (Some (FramingFault.CountMismatch said found)) ≡ None → said ≡ found
    by_test true is h = eqb-true said found is
    by_test false is h = absurd cc

length_pieces : (bs : List ℕ) → length (pieces group_separator bs) ≡ suc (count_groups bs)
length_pieces [] = refl
length_pieces (b ∷ bs) = by_test (b == group_separator) (length_pieces bs)
  where
    by_test : (t : Bool) → length (pieces group_separator bs) ≡ suc (count_groups bs) → length (cond t ([] ∷ pieces group_separator bs) (onto b (pieces group_separator bs))) ≡ suc (cond t 1 0 + count_groups bs)
    by_test true h = omega (arith, h)
    by_test false h = omega (arith, h, onto_length b (pieces group_separator bs) (omega (arith, h)))

length_groups : (body : List ℕ) → length (groups_of body) ≡ count_groups body
length_groups body =
    omega (arith, length-map (drop 1 (pieces group_separator body)) segments_of, length-drop 1 (pieces group_separator body), length_pieces body)

-- a transmission's header counts its groups
counted_groups : (text : List ℕ) (t : TransmissionParts RequestHeader) → transmission_of request_kind text ≡ Some t → length t.groups ≡ t.header.count
unfolding transmission_of framing_fault
counted_groups text t e =
    let u = unless_none _ _ t e in
    let same = count_same _ _ (or_else_none _ _ (after_header_none _ _ u.0)) in
    subst (λ (x : TransmissionParts RequestHeader). length x.groups ≡ x.header.count) u.1 (length_groups (drop 56 text) ∙ sym same)

-- what a readable text is
pub record ReadAs (text : List ℕ) (h : RequestHeader) : Type 0 where
  pub parts : TransmissionParts RequestHeader
  pub spells : transmission_of request_kind text ≡ Some parts
  pub header : parts.header ≡ h

read_as : (routes : RouteMaps) (text : List ℕ) (h : RequestHeader) → readable (bytes_with routes) text ≡ Some h → ReadAs text h
read_as routes text h e =
    let m = map_some (λ (t : TransmissionParts RequestHeader). t.header) (transmission_of request_kind text) h (readable_parts (bytes_with routes) text h e).1 in
    record { parts = m.0; spells = m.1; header = m.2 }

pub groups_counted : (routes : RouteMaps) (text : List ℕ) (h : RequestHeader) → readable (bytes_with routes) text ≡ Some h → length ((bytes_with routes).orders text) ≡ h.count
groups_counted routes text h e =
    let r = read_as routes text h e in
    ap (λ (o : Option (TransmissionParts RequestHeader)). length (orders_in o)) r.spells
    ∙ (length-map r.parts.groups (λ group. order_in (order_of r.parts.header r.parts.shared group))
    ∙ (counted_groups text r.parts r.spells ∙ ap (λ (x : RequestHeader). x.count) r.header))

-- orders

abbrev pub NumbersInRange : Type 0
NumbersInRange = (digits : ℕ) (text : List ℕ) (number : ℕ) → number_of digits text ≡ Ok number → number < 10 ^ digits

abbrev pub AmountsInRange : Type 0
AmountsInRange = (text : List ℕ) (cents : ℤ) → amount_of text ≡ Ok cents → IsAmount cents

pub result_ok_some : {A E : Type 0} (r : Result A E) (a : A) → result_ok r ≡ Some a → r ≡ Ok a
result_ok_some (Ok b) a e = ap (λ x. Ok x) (same_some b a e)
result_ok_some (Err f) a e = absurd cc

required_some : {A : Type 0} (test : List ℕ → Option A) (vs : List (List ℕ)) (a : A) → required test vs ≡ Some a → (v : List ℕ) × (test v ≡ Some a)
required_some test [] a e = absurd cc
required_some test (v ∷ []) a e = (v, e)
required_some test (v ∷ w ∷ vs) a e = absurd cc

optional_some : {A : Type 0} (absent : A) (test : List ℕ → Option A) (vs : List (List ℕ)) (a : A) → optional absent test vs ≡ Some a → (absent ≡ a) ⊎ ((v : List ℕ) × (test v ≡ Some a))
optional_some absent test [] a e = inl (same_some absent a e)
optional_some absent test (v ∷ []) a e = inr (v, e)
optional_some absent test (v ∷ w ∷ vs) a e = absurd cc

qualified_by : {A : Type 0} (b : Bool) (field : Option A) (a : A) → cond b field None ≡ Some a → field ≡ Some a
qualified_by true field a e = e
qualified_by false field a e = absurd cc

prescription_fits : NumbersInRange → (group : List SegmentParts) (p : ℕ) → prescription_in group ≡ Some p → IsPrescription p
prescription_fits law group p e =
    let f = qualified_by (is_some (required (the_text (codes "1")) (texts_in (codes "07") (codes "EM") group))) (required (number_up_to 12) (values_in (codes "07") (codes "D2") group)) p e in
    let v = required_some (number_up_to 12) (values_in (codes "07") (codes "D2") group) p f in
    law 12 v.0 p (result_ok_some (number_of 12 v.0) p v.1)

pub cents_fit : (cents : ℤ) (x : ℕ) → IsAmount cents → not_negative cents ≡ Some x → x ≤ 99999999
cents_fit (pos n) x a e = let same : n ≡ x = same_some n x e in omega (arith, same, a)
cents_fit (negsuc n) x a e = absurd cc

pub amount_fits : AmountsInRange → (v : List ℕ) (x : ℕ) → amount_in_cents v ≡ Some x → x ≤ 99999999
amount_fits law v x e =
    let s = then_some not_negative (result_ok (amount_of v)) x e in cents_fit s.0 x (law v s.0 (result_ok_some (amount_of v) s.0 s.1)) s.2

fee_fits : AmountsInRange → (vs : List (List ℕ)) (x : ℕ) → optional 0 amount_in_cents vs ≡ Some x → x ≤ 99999999
fee_fits law vs x e = elim (optional_some 0 amount_in_cents vs x e) [ inl z ↦ omega (arith, z) | inr v ↦ amount_fits law v.0 x v.1 ]

-- the claim of a header
claim_is_by : (h : RequestHeader) (a b : Option (List ℕ)) (p n : Option ℕ) (d : Option (List ℕ)) (q x y : Option ℕ) (c : Claim) → h.code ≡ billing_code
    → ((r : ℕ) → p ≡ Some r → IsPrescription r) → ((r : ℕ) → y ≡ Some r → r ≤ 99999999) → claim_of h (record { cardholder = a; date = b; prescription = p; fill = n; product = d; quantity = q; cost = x; fee = y }) ≡ Some c → IsClaimOf h c
unfolding claim_of
claim_is_by h None b p n d q x y c code fp fy e = absurd cc
claim_is_by h (Some a) None p n d q x y c code fp fy e = absurd cc
claim_is_by h (Some a) (Some b) None n d q x y c code fp fy e = absurd cc
claim_is_by h (Some a) (Some b) (Some p) None d q x y c code fp fy e = absurd cc
claim_is_by h (Some a) (Some b) (Some p) (Some n) None q x y c code fp fy e = absurd cc
claim_is_by h (Some a) (Some b) (Some p) (Some n) (Some d) None x y c code fp fy e = absurd cc
claim_is_by h (Some a) (Some b) (Some p) (Some n) (Some d) (Some q) None y c code fp fy e = absurd cc
claim_is_by h (Some a) (Some b) (Some p) (Some n) (Some d) (Some q) (Some x) None c code fp fy e = absurd cc
claim_is_by h (Some a) (Some b) (Some p) (Some n) (Some d) (Some q) (Some x) (Some y) c code fp fy e =
    subst (IsClaimOf h) (same_some _ c e) (record { code = code; bin = refl; pcn = refl; qualifier = refl; provider = refl; prescription = fp p refl; fee = fy y refl })

claim_is : NumbersInRange → AmountsInRange → (h : RequestHeader) (shared group : List SegmentParts) (c : Claim) → h.code ≡ billing_code → claim_of h (claim_fields h shared group) ≡ Some c → IsClaimOf h c
unfolding claim_fields
claim_is numbers amounts h shared group c code e =
    let f = claim_fields h shared group in
    claim_is_by h f.cardholder f.date f.prescription f.fill f.product f.quantity f.cost f.fee c code
    (λ r k. prescription_fits numbers group r k) (λ r k. fee_fits amounts (values_in (codes "11") (codes "DC") group) r k) e

reversal_is_by : (h : RequestHeader) (b : Option (List ℕ)) (p : Option ℕ) (n : Option (Option ℕ)) (v : Reversal) → h.code ≡ reversal_code → ((r : ℕ) → p ≡ Some r → IsPrescription r)
    → reversal_of h (record { date = b; prescription = p; fill = n }) ≡ Some v → IsReversalOf h v
unfolding reversal_of
reversal_is_by h None p n v code fp e = absurd cc
reversal_is_by h (Some b) None n v code fp e = absurd cc
reversal_is_by h (Some b) (Some p) None v code fp e = absurd cc
reversal_is_by h (Some b) (Some p) (Some n) v code fp e =
    subst (IsReversalOf h) (same_some _ v e) (record { code = code; bin = refl; pcn = refl; qualifier = refl; provider = refl; prescription = fp p refl })

reversal_is : NumbersInRange → (h : RequestHeader) (group : List SegmentParts) (v : Reversal) → h.code ≡ reversal_code → reversal_of h (reversal_fields h group) ≡ Some v → IsReversalOf h v
unfolding reversal_fields
reversal_is numbers h group v code e =
    let f = reversal_fields h group in reversal_is_by h f.date f.prescription f.fill v code (λ r k. prescription_fits numbers group r k) e

-- codes of an order that does not read

are_held : (cs : List (Bool × Code)) → AllByRecursion (λ (c : Bool × Code). IsCode c.1) cs → AllByRecursion IsCode (held cs)
are_held [] are = tt
are_held ((true, c) ∷ cs) are = (are.0, are_held cs are.1)
are_held ((false, c) ∷ cs) are = are_held cs are.1

are_first : (n : ℕ) (cs : List Code) → AllByRecursion IsCode cs → AllByRecursion IsCode (take n cs)
are_first zero cs are = tt
are_first (suc n) [] are = tt
are_first (suc n) (c ∷ cs) are = (are.0, are_first n cs are.1)

rejects_held : (cs : List (Bool × Code)) → AllByRecursion (λ (c : Bool × Code). IsCode c.1) cs → 0 < length (held cs) → IsRejects (first_five_held cs)
rejects_held cs are h = record { some = omega (arith, length-take 5 (held cs), h); few = omega (arith, length-take 5 (held cs)); each = are_first 5 (held cs) (are_held cs are) }

abbrev claim_conditions : (a b : Option (List ℕ)) (p n : Option ℕ) (d : Option (List ℕ)) (q x y : Option ℕ) → List (Bool × Code)
claim_conditions a b p n d q x y =
    (is_none a, code.Cardholder) ∷ (is_none b, code.DateOfService) ∷ (is_none p, code.Prescription) ∷ (is_none n, code.FillNumber) ∷ (is_none d, code.Product) ∷ (is_none q, code.Quantity) ∷ (is_none x, code.IngredientCost) ∷ (is_none y, code.DispensingFee) ∷ []

abbrev reversal_conditions : (b : Option (List ℕ)) (p : Option ℕ) (n : Option (Option ℕ)) → List (Bool × Code)
reversal_conditions b p n = (is_none b, code.DateOfService) ∷ (is_none p, code.Prescription) ∷ (is_none n, code.FillNumber) ∷ []

claim_rejects : (h : RequestHeader) (a b : Option (List ℕ)) (p n : Option ℕ) (d : Option (List ℕ)) (q x y : Option ℕ)
    → claim_of h (record { cardholder = a; date = b; prescription = p; fill = n; product = d; quantity = q; cost = x; fee = y }) ≡ None
    → IsRejects (claim_codes (record { cardholder = a; date = b; prescription = p; fill = n; product = d; quantity = q; cost = x; fee = y }))
unfolding claim_of claim_codes
claim_rejects h None b p n d q x y e = rejects_held (claim_conditions None b p n d q x y) (refl, (refl, (refl, (refl, (refl, (refl, (refl, (refl, tt)))))))) (omega arith)
claim_rejects h (Some a) None p n d q x y e = rejects_held (claim_conditions (Some a) None p n d q x y) (refl, (refl, (refl, (refl, (refl, (refl, (refl, (refl, tt)))))))) (omega arith)
claim_rejects h (Some a) (Some b) None n d q x y e = rejects_held (claim_conditions (Some a) (Some b) None n d q x y) (refl, (refl, (refl, (refl, (refl, (refl, (refl, (refl, tt)))))))) (omega arith)
claim_rejects h (Some a) (Some b) (Some p) None d q x y e = rejects_held (claim_conditions (Some a) (Some b) (Some p) None d q x y) (refl, (refl, (refl, (refl, (refl, (refl, (refl, (refl, tt)))))))) (omega arith)
claim_rejects h (Some a) (Some b) (Some p) (Some n) None q x y e = rejects_held (claim_conditions (Some a) (Some b) (Some p) (Some n) None q x y) (refl, (refl, (refl, (refl, (refl, (refl, (refl, (refl, tt)))))))) (omega arith)
claim_rejects h (Some a) (Some b) (Some p) (Some n) (Some d) None x y e = rejects_held (claim_conditions (Some a) (Some b) (Some p) (Some n) (Some d) None x y) (refl, (refl, (refl, (refl, (refl, (refl, (refl, (refl, tt)))))))) (omega arith)
claim_rejects h (Some a) (Some b) (Some p) (Some n) (Some d) (Some q) None y e = rejects_held (claim_conditions (Some a) (Some b) (Some p) (Some n) (Some d) (Some q) None y) (refl, (refl, (refl, (refl, (refl, (refl, (refl, (refl, tt)))))))) (omega arith)
claim_rejects h (Some a) (Some b) (Some p) (Some n) (Some d) (Some q) (Some x) None e = rejects_held (claim_conditions (Some a) (Some b) (Some p) (Some n) (Some d) (Some q) (Some x) None) (refl, (refl, (refl, (refl, (refl, (refl, (refl, (refl, tt)))))))) (omega arith)
claim_rejects h (Some a) (Some b) (Some p) (Some n) (Some d) (Some q) (Some x) (Some y) e = absurd cc

reversal_rejects : (h : RequestHeader) (b : Option (List ℕ)) (p : Option ℕ) (n : Option (Option ℕ)) → reversal_of h (record { date = b; prescription = p; fill = n }) ≡ None → IsRejects (reversal_codes (record { date = b; prescription = p; fill = n }))
unfolding reversal_of reversal_codes
reversal_rejects h None p n e = rejects_held (reversal_conditions None p n) (refl, (refl, (refl, tt))) (omega arith)
reversal_rejects h (Some b) None n e = rejects_held (reversal_conditions (Some b) None n) (refl, (refl, (refl, tt))) (omega arith)
reversal_rejects h (Some b) (Some p) None e = rejects_held (reversal_conditions (Some b) (Some p) None) (refl, (refl, (refl, tt))) (omega arith)
reversal_rejects h (Some b) (Some p) (Some n) e = absurd cc

claim_order_is : NumbersInRange → AmountsInRange → (h : RequestHeader) (shared group : List SegmentParts) (o : Option Claim) → h.code ≡ billing_code → claim_of h (claim_fields h shared group) ≡ o
    → IsOrderOf h (order_in (or_rejected (option_map Bills o) (claim_codes (claim_fields h shared group))))
claim_order_is numbers amounts h shared group (Some c) code e = claim_is numbers amounts h shared group c code e
claim_order_is numbers amounts h shared group None code e =
    let f = claim_fields h shared group in claim_rejects h f.cardholder f.date f.prescription f.fill f.product f.quantity f.cost f.fee e

reversal_order_is : NumbersInRange → (h : RequestHeader) (group : List SegmentParts) (o : Option Reversal) → h.code ≡ reversal_code → reversal_of h (reversal_fields h group) ≡ o
    → IsOrderOf h (order_in (or_rejected (option_map Reverses o) (reversal_codes (reversal_fields h group))))
reversal_order_is numbers h group (Some v) code e = reversal_is numbers h group v code e
reversal_order_is numbers h group None code e = let f = reversal_fields h group in reversal_rejects h f.date f.prescription f.fill e

order_by_code : NumbersInRange → AmountsInRange → (h : RequestHeader) (shared group : List SegmentParts) (o : Option TransactionCode) → transaction_code h.code ≡ o
    → IsOrderOf h (order_in (order_as o h shared group))
unfolding claim_order reversal_order
order_by_code numbers amounts h shared group (Some transaction.Billing) is = claim_order_is numbers amounts h shared group (claim_of h (claim_fields h shared group)) (only h.code transaction.Billing is) refl
order_by_code numbers amounts h shared group (Some transaction.Reversal) is = reversal_order_is numbers h group (reversal_of h (reversal_fields h group)) (only h.code transaction.Reversal is) refl
order_by_code numbers amounts h shared group None is = record { some = omega arith; few = omega arith; each = (refl, tt) }

order_is : NumbersInRange → AmountsInRange → (h : RequestHeader) (shared group : List SegmentParts) → IsOrderOf h (order_in (order_of h shared group))
unfolding order_of
order_is numbers amounts h shared group = order_by_code numbers amounts h shared group (transaction_code h.code) refl

all_orders : NumbersInRange → AmountsInRange → (h : RequestHeader) (shared : List SegmentParts) (groups : List (List SegmentParts))
    → AllByRecursion (IsOrderOf h) (map (λ group. order_in (order_of h shared group)) groups)
all_orders numbers amounts h shared [] = tt
all_orders numbers amounts h shared (g ∷ groups) = (order_is numbers amounts h shared g, all_orders numbers amounts h shared groups)

pub orders_are : NumbersInRange → AmountsInRange → (routes : RouteMaps) (text : List ℕ) (h : RequestHeader) → readable (bytes_with routes) text ≡ Some h → AllByRecursion (IsOrderOf h) ((bytes_with routes).orders text)
orders_are numbers amounts routes text h e =
    let r = read_as routes text h e in
    let all : AllByRecursion (IsOrderOf h) (map (λ group. order_in (order_of h r.parts.shared group)) r.parts.groups) = all_orders numbers amounts h r.parts.shared r.parts.groups in
    subst (λ (o : Option (TransmissionParts RequestHeader)). AllByRecursion (IsOrderOf h) (orders_in o)) (sym r.spells)
    (subst (λ (x : RequestHeader). AllByRecursion (IsOrderOf h) (map (λ group. order_in (order_of x r.parts.shared group)) r.parts.groups)) (sym r.header) all)

-- prices

amounts_fit : (fee plan_fee cost worth' copay : ℕ) → fee ≤ 99999999
    → let f = min fee plan_fee in let c = min (min cost worth') (99999999 - f) in let p = min copay (c + f) in
    (c ≤ 99999999) × (f ≤ 99999999) × (p ≤ 99999999) × (c + f - p ≤ 99999999)
amounts_fit fee plan_fee cost worth' copay h = (omega arith, omega arith, omega arith, omega arith)

pub prices_fit : (plan : Plan) (h : RequestHeader) (c : Claim) (amounts : Amounts) → IsClaimOf h c → paid plan c ≡ Some amounts → IsAmounts amounts
prices_fit plan h c amounts of_it e =
    let p = map_some (amounts_at plan c) (price_of plan.prices c.product) amounts e in
    let f = amounts_fit c.fee plan.fee c.cost (worth c.quantity p.0) plan.copay of_it.fee in
    subst IsAmounts p.2 (record { cost = f.0; fee = f.1; copay = f.2; total = f.3 })

-- a request has the payer of its key, or none
abbrev pub NumbersAreLed : Type 0
NumbersAreLed = (routes : RouteMaps) (number : ℕ) (key : RouteKey) (payer : ℕ) → payer_under routes number key ≡ Some payer → payer_of routes key ≡ Some payer

pub bytes_laws : EnvelopesReadBack → NumbersInRange → AmountsInRange → (routes : RouteMaps) → AnswersReadBack (bytes_with routes) → CarriedBack (bytes_with routes)
    → ((bytes : List ℕ) (a : Answer) → (bytes_with routes).read_answer bytes ≡ Some a → AdvisesWell a.rulings)
    → ((bytes : List ℕ) (a : Answer) → (bytes_with routes).read_advice bytes ≡ Some a → AdvisesWell a.rulings)
    → ((bytes : List ℕ) (a : Answer) → (bytes_with routes).read_answer bytes ≡ Some a → (advice : Answer) × ((bytes_with routes).read_advice bytes ≡ Some advice) × SaysSame advice.rulings a.rulings)
    → NumbersAreLed → Laws (bytes_with routes)
bytes_laws envelopes numbers amounts routes answers carried sayings advices advised led =
    record {
      envelopes = envelopes_read envelopes routes;
      groups = groups_counted routes;
      orders = orders_are numbers amounts routes;
      prices = prices_fit;
      answers = answers;
      carried_back = carried;
      sayings = sayings;
      advices = advices;
      advised = advised;
      routes = λ m n key p q at_m at_n. same_some p q (sym (led routes m key p at_m) ∙ led routes n key q at_n);
    }

pub readable_alike : (routes : RouteMaps) (text : List ℕ) → readable (bytes_with routes) text ≡ readable_header text
unfolding readable readable_header
readable_alike routes text = refl

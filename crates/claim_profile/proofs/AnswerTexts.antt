-- The texts of answers, piece by piece.
use Rattle.std.proofs.Common.{◌≡◌, ℕ, pos, ◌+◌, ◌/◌, ◌%◌, ◌≤◌, List, [], ◌∷◌, ◌++◌, length, map, Result, Ok, Err, is_ok, OnOk, if◌then◌else◌, codes, refl, ap, sym, ◌∙◌, append_assoc, arith}
use Rattle.std.proofs.lemmas.List.{append-nil}
use Rattle.overpunch.specs.Number.{leading_digits, number_text}
use Rattle.overpunch.specs.Amount.{amount_text}
use Rattle.d0_segments.specs.Parts.{FieldParts, SegmentParts}
use Rattle.d0_segments.specs.Texts.{field_text, fields_text, segment_text, group_text, groups_text}
use Rattle.claim_profile.specs.declared.reject.Code.{Code}
use Rattle.claim_profile.specs.Authorization.{Authorization, authorization_text}
use Rattle.claim_profile.specs.Money.{Money}
use Rattle.claim_profile.specs.Reject.{code_text}
use Rattle.claim_profile.specs.Answer.{field, status_segment, claim_segment, pricing_segment, reject_segment, code_field}

-- what a growth that succeeded left
pub on_ok : {T E : Type 0} (r : Result T E) (new more old whole : List ℕ) → new ≡ (if is_ok r then more else old) → more ≡ whole → OnOk r (new ≡ whole)
on_ok (Ok x) new more old whole e same = e ∙ same
on_ok (Err f) new more old whole e same = tt

-- the same of a callee that says so
pub on_ok_also : {T E : Type 0} (r : Result T E) (new more whole : List ℕ) → OnOk r (new ≡ more) → more ≡ whole → OnOk r (new ≡ whole)
on_ok_also (Ok x) new more whole e same = e ∙ same
on_ok_also (Err f) new more whole e same = tt

ends : (old front last : List ℕ) → old ++ (front ++ last) ≡ old ++ (front ++ (last ++ []))
ends old front last = ap (λ (t : List ℕ). old ++ (front ++ t)) (sym (append-nil last))

pub status_written : (old : List ℕ) (status : ℕ) (auth : Authorization)
    → (old ++ (29 ∷ 30 ∷ 28 ∷ 65 ∷ 77 ∷ 50 ∷ 49 ∷ 28 ∷ 65 ∷ 78 ∷ status ∷ 28 ∷ 70 ∷ 51 ∷ [])) ++ authorization_text auth ≡ old ++ (29 ∷ segment_text (status_segment (status ∷ []) auth))
unfolding status_segment
status_written old status auth =
    append_assoc old (29 ∷ 30 ∷ 28 ∷ 65 ∷ 77 ∷ 50 ∷ 49 ∷ 28 ∷ 65 ∷ 78 ∷ status ∷ 28 ∷ 70 ∷ 51 ∷ []) (authorization_text auth)
    ∙ ends old (29 ∷ 30 ∷ 28 ∷ 65 ∷ 77 ∷ 50 ∷ 49 ∷ 28 ∷ 65 ∷ 78 ∷ status ∷ 28 ∷ 70 ∷ 51 ∷ []) (authorization_text auth)

pub claim_written : (old : List ℕ) (prescription : ℕ)
    → (old ++ (30 ∷ 28 ∷ 65 ∷ 77 ∷ 50 ∷ 50 ∷ 28 ∷ 69 ∷ 77 ∷ 49 ∷ 28 ∷ 68 ∷ 50 ∷ [])) ++ number_text prescription ≡ old ++ segment_text (claim_segment prescription)
unfolding claim_segment
claim_written old prescription =
    append_assoc old (30 ∷ 28 ∷ 65 ∷ 77 ∷ 50 ∷ 50 ∷ 28 ∷ 69 ∷ 77 ∷ 49 ∷ 28 ∷ 68 ∷ 50 ∷ []) (number_text prescription)
    ∙ ends old (30 ∷ 28 ∷ 65 ∷ 77 ∷ 50 ∷ 50 ∷ 28 ∷ 69 ∷ 77 ∷ 49 ∷ 28 ∷ 68 ∷ 50 ∷ []) (number_text prescription)

pricing_regrouped : (old a b c d e : List ℕ) → ((((old ++ a) ++ b) ++ c) ++ d) ++ e ≡ old ++ (a ++ (b ++ (c ++ (d ++ (e ++ [])))))
pricing_regrouped old a b c d e = simp append_assoc (ap (λ (t : List ℕ). old ++ (a ++ (b ++ (c ++ (d ++ t))))) (sym (append-nil e)))

pub pricing_written : (old : List ℕ) (m : Money)
    → ((((old ++ (30 ∷ 28 ∷ 65 ∷ 77 ∷ 50 ∷ 51 ∷ [])) ++ field_text (field (codes "F5") (amount_text (pos m.copay)))) ++ field_text (field (codes "F6") (amount_text (pos m.cost))))
    ++ field_text (field (codes "F7") (amount_text (pos m.fee)))) ++ field_text (field (codes "F9") (amount_text (pos m.total)))
    ≡ old ++ segment_text (pricing_segment m)
unfolding pricing_segment
pricing_written old m =
    pricing_regrouped old (30 ∷ 28 ∷ 65 ∷ 77 ∷ 50 ∷ 51 ∷ []) (field_text (field (codes "F5") (amount_text (pos m.copay)))) (field_text (field (codes "F6") (amount_text (pos m.cost))))
    (field_text (field (codes "F7") (amount_text (pos m.fee)))) (field_text (field (codes "F9") (amount_text (pos m.total))))

-- the groups of payments and reversals, from their segments
pub payment_written : (old s c p : List ℕ) → ((old ++ (29 ∷ s)) ++ c) ++ p ≡ old ++ (29 ∷ (s ++ (c ++ (p ++ []))))
payment_written old s c p = simp append_assoc (ap (λ (t : List ℕ). old ++ (29 ∷ (s ++ (c ++ t)))) (sym (append-nil p)))

pub reversal_written : (old s c : List ℕ) → (old ++ (29 ∷ s)) ++ c ≡ old ++ (29 ∷ (s ++ (c ++ [])))
reversal_written old s c = simp append_assoc (ap (λ (t : List ℕ). old ++ (29 ∷ (s ++ t))) (sym (append-nil c)))

-- one field, segment group more
pub fields_text-append : (fs gs : List FieldParts) → fields_text (fs ++ gs) ≡ fields_text fs ++ fields_text gs
fields_text-append [] gs = refl
fields_text-append (f ∷ fs) gs = ap (λ (t : List ℕ). field_text f ++ t) (fields_text-append fs gs) ∙ sym (append_assoc (field_text f) (fields_text fs) (fields_text gs))

pub groups_text-append : (gs hs : List (List SegmentParts)) → groups_text (gs ++ hs) ≡ groups_text gs ++ groups_text hs
groups_text-append [] hs = refl
groups_text-append (g ∷ gs) hs = ap (λ (t : List ℕ). group_text g ++ t) (groups_text-append gs hs) ∙ sym (append_assoc (group_text g) (groups_text gs) (groups_text hs))

-- a number of one digit
pub number_text-digit : (n : ℕ) → n ≤ 9 → number_text n ≡ (48 + n) ∷ []
unfolding number_text
number_text-digit n le =
    let none : n / 10 ≡ 0 = omega arith in
    let same : n % 10 ≡ n = omega arith in
    ap (λ (q : ℕ). leading_digits q ++ (48 + n % 10) ∷ []) none ∙ ap (λ (r : ℕ). (48 + r) ∷ []) same

-- the head of a rejection, and its codes
pub rejects_begun : (old : List ℕ) (count : ℕ) → (old ++ (29 ∷ 30 ∷ 28 ∷ 65 ∷ 77 ∷ 50 ∷ 49 ∷ 28 ∷ 65 ∷ 78 ∷ 82 ∷ 28 ∷ 70 ∷ 65 ∷ [])) ++ (48 + count) ∷ []
    ≡ ((old ++ (29 ∷ 30 ∷ 28 ∷ 65 ∷ 77 ∷ 50 ∷ 49 ∷ 28 ∷ 65 ∷ 78 ∷ 82 ∷ 28 ∷ 70 ∷ 65 ∷ [])) ++ (48 + count) ∷ []) ++ []
rejects_begun old count = sym (append-nil ((old ++ (29 ∷ 30 ∷ 28 ∷ 65 ∷ 77 ∷ 50 ∷ 49 ∷ 28 ∷ 65 ∷ 78 ∷ 82 ∷ 28 ∷ 70 ∷ 65 ∷ [])) ++ (48 + count) ∷ []))

pub rejects_written : (old : List ℕ) (rejects : List Code) → length rejects ≤ 5
    → ((old ++ (29 ∷ 30 ∷ 28 ∷ 65 ∷ 77 ∷ 50 ∷ 49 ∷ 28 ∷ 65 ∷ 78 ∷ 82 ∷ 28 ∷ 70 ∷ 65 ∷ [])) ++ (48 + length rejects) ∷ []) ++ fields_text (map code_field rejects)
    ≡ old ++ group_text (reject_segment rejects ∷ [])
unfolding reject_segment
rejects_written old rejects few =
    let codes_text = fields_text (map code_field rejects) in
    let head = 29 ∷ 30 ∷ 28 ∷ 65 ∷ 77 ∷ 50 ∷ 49 ∷ 28 ∷ 65 ∷ 78 ∷ 82 ∷ 28 ∷ 70 ∷ 65 ∷ [] in
    append_assoc (old ++ head) ((48 + length rejects) ∷ []) codes_text
    ∙ append_assoc old head ((48 + length rejects) ∷ codes_text)
    ∙ ap (λ (t : List ℕ). old ++ (head ++ (t ++ codes_text))) (sym (number_text-digit (length rejects) (omega arith)))
    ∙ ap (λ (t : List ℕ). old ++ (head ++ t)) (sym (append-nil (number_text (length rejects) ++ codes_text)))

-- one code more
pub code_written : (begun : List ℕ) (front : List FieldParts) (code : Code) → ((begun ++ fields_text front) ++ (28 ∷ 70 ∷ 66 ∷ [])) ++ code_text code ≡ begun ++ fields_text (front ++ code_field code ∷ [])
code_written begun front code =
    append_assoc (begun ++ fields_text front) (28 ∷ 70 ∷ 66 ∷ []) (code_text code)
    ∙ append_assoc begun (fields_text front) (28 ∷ 70 ∷ 66 ∷ code_text code)
    ∙ ap (λ (t : List ℕ). begun ++ (fields_text front ++ (28 ∷ 70 ∷ 66 ∷ t))) (sym (append-nil (code_text code)))
    ∙ ap (λ (t : List ℕ). begun ++ t) (sym (fields_text-append front (code_field code ∷ [])))

-- one group more
pub group_written : (begun : List ℕ) (front : List (List SegmentParts)) (group : List SegmentParts) → (begun ++ groups_text front) ++ group_text group ≡ begun ++ groups_text (front ++ group ∷ [])
group_written begun front group =
    append_assoc begun (groups_text front) (group_text group)
    ∙ ap (λ (t : List ℕ). begun ++ (groups_text front ++ t)) (sym (append-nil (group_text group)))
    ∙ ap (λ (t : List ℕ). begun ++ t) (sym (groups_text-append front (group ∷ [])))

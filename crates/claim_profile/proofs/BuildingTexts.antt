-- The texts of billings and reversals, piece by piece.
use Rattle.std.proofs.Common.{◌≡◌, ℕ, ℤ, List, [], ◌∷◌, ◌++◌, codes, Some, ap, sym, ◌∙◌, append_assoc}
use Rattle.std.proofs.lemmas.List.{append-nil}
use Rattle.overpunch.specs.Number.{number_text}
use Rattle.overpunch.specs.Amount.{amount_text}
use Rattle.d0_header.specs.Request.{request_text}
use Rattle.d0_segments.specs.Parts.{FieldParts}
use Rattle.d0_segments.specs.Texts.{field_text, fields_text, segment_text}
use Rattle.claim_profile.specs.Answer.{field, segment}
use Rattle.claim_profile.specs.Building.{Billing, insurance_segment, dispensing_fields, billed_segment, submitted_segment, reversed_segment, billing_text, Reversing, reversal_text}
use Rattle.claim_profile.proofs.AnswerTexts.{fields_text-append}

pub insurance_written : (old cardholder : List ℕ)
    → (old ++ (30 ∷ 28 ∷ 65 ∷ 77 ∷ 48 ∷ 52 ∷ 28 ∷ 67 ∷ 50 ∷ [])) ++ cardholder ≡ old ++ segment_text (insurance_segment cardholder)
unfolding insurance_segment
insurance_written old cardholder =
    append_assoc old (30 ∷ 28 ∷ 65 ∷ 77 ∷ 48 ∷ 52 ∷ 28 ∷ 67 ∷ 50 ∷ []) cardholder
    ∙ ap (λ (t : List ℕ). old ++ (30 ∷ 28 ∷ 65 ∷ 77 ∷ 48 ∷ 52 ∷ 28 ∷ 67 ∷ 50 ∷ t)) (sym (append-nil cardholder))

regrouped : (old head first name second : List ℕ) → (((old ++ head) ++ first) ++ name) ++ second ≡ old ++ (head ++ (first ++ (name ++ (second ++ []))))
regrouped old head first name second = simp append_assoc (ap (λ (t : List ℕ). old ++ (head ++ (first ++ (name ++ t)))) (sym (append-nil second)))

pub submitted_written : (old : List ℕ) (cost fee : ℤ)
    → (((old ++ (30 ∷ 28 ∷ 65 ∷ 77 ∷ 49 ∷ 49 ∷ 28 ∷ 68 ∷ 57 ∷ [])) ++ amount_text cost) ++ (28 ∷ 68 ∷ 67 ∷ [])) ++ amount_text fee ≡ old ++ segment_text (submitted_segment cost fee)
unfolding submitted_segment
submitted_written old cost fee = regrouped old (30 ∷ 28 ∷ 65 ∷ 77 ∷ 49 ∷ 49 ∷ 28 ∷ 68 ∷ 57 ∷ []) (amount_text cost) (28 ∷ 68 ∷ 67 ∷ []) (amount_text fee)

-- a field at the end of a segment
segment_text-append : (id : List ℕ) (fs : List FieldParts) (f : FieldParts) → segment_text (segment id (fs ++ f ∷ [])) ≡ segment_text (segment id fs) ++ field_text f
segment_text-append id fs f =
    ap (λ (t : List ℕ). 30 ∷ 28 ∷ 65 ∷ 77 ∷ (id ++ t)) (fields_text-append fs (f ∷ []) ∙ ap (λ (t : List ℕ). fields_text fs ++ t) (append-nil (field_text f)))
    ∙ ap (λ (t : List ℕ). 30 ∷ 28 ∷ 65 ∷ 77 ∷ t) (sym (append_assoc id (fields_text fs) (field_text f)))

billed_joined : (prescription fill : ℕ) (product : List ℕ) (quantity : ℕ)
    → segment_text (segment (codes "07") (dispensing_fields prescription (Some fill) product)) ++ field_text (field (codes "E7") (number_text quantity))
    ≡ segment_text (billed_segment prescription fill product quantity)
unfolding billed_segment
billed_joined prescription fill product quantity = sym (segment_text-append (codes "07") (dispensing_fields prescription (Some fill) product) (field (codes "E7") (number_text quantity)))

all_joined : (h i d e p : List ℕ) → (((h ++ i) ++ (29 ∷ d)) ++ e) ++ p ≡ h ++ ((i ++ []) ++ ((29 ∷ ((d ++ e) ++ (p ++ []))) ++ []))
all_joined h i d e p = simp (append_assoc, append-nil)

pub billing_written : (b : Billing)
    → (((request_text b.header ++ segment_text (insurance_segment b.cardholder)) ++ (29 ∷ segment_text (segment (codes "07") (dispensing_fields b.prescription (Some b.fill) b.product))))
    ++ field_text (field (codes "E7") (number_text b.quantity))) ++ segment_text (submitted_segment b.cost b.fee)
    ≡ billing_text b
unfolding billing_text
billing_written b =
    all_joined (request_text b.header) (segment_text (insurance_segment b.cardholder)) (segment_text (segment (codes "07") (dispensing_fields b.prescription (Some b.fill) b.product)))
    (field_text (field (codes "E7") (number_text b.quantity))) (segment_text (submitted_segment b.cost b.fee))
    ∙ ap (λ (t : List ℕ). request_text b.header ++ ((segment_text (insurance_segment b.cardholder) ++ []) ++ ((29 ∷ (t ++ (segment_text (submitted_segment b.cost b.fee) ++ []))) ++ [])))
    (billed_joined b.prescription b.fill b.product b.quantity)

two_joined : (h d : List ℕ) → h ++ (29 ∷ d) ≡ h ++ ((29 ∷ (d ++ [])) ++ [])
two_joined h d = ap (λ (t : List ℕ). h ++ (29 ∷ t)) (sym (append-nil d) ∙ sym (append-nil (d ++ [])))

pub reversal_written : (r : Reversing)
    → request_text r.header ++ (29 ∷ segment_text (segment (codes "07") (dispensing_fields r.prescription r.fill r.product))) ≡ reversal_text r
unfolding reversal_text reversed_segment
reversal_written r = two_joined (request_text r.header) (segment_text (segment (codes "07") (dispensing_fields r.prescription r.fill r.product)))

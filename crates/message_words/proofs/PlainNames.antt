-- The names of parts in JSON are letters that stand for themselves.
use Rattle.std.proofs.Common.{◌≡◌, ℕ, Bool, true, false, List, [], ◌∷◌, Option, None, Some, refl, if◌then◌else◌}
use Rattle.std.specs.Prelude.{bytes_eq, drop}
use Rattle.std.specs.List.{list_all}
use Rattle.message_parts.specs.declared.names.FieldName.{FieldName}
use Rattle.message_parts.specs.declared.names.FieldName.TheVariants as field
use Rattle.message_parts.specs.declared.marks.Mark.{Mark}
use Rattle.message_parts.specs.declared.marks.Mark.TheVariants as mark
use Rattle.message_parts.specs.declared.part.PartKind.{PartKind}
use Rattle.message_parts.specs.declared.part.PartKind.TheVariants as kind
use Rattle.message_words.specs.Encoded.{is_letter}
use Rattle.message_parts.specs.FieldTitles.{Titles, titles_of, named_in, or_next}
use Rattle.message_parts.specs.Naming.{mark_names}
use Rattle.message_words.specs.Rows.{id_in, names_in, names_or}
use Rattle.message_parts.specs.Unused.{claim_or_answer_field, unused_field}
use Rattle.message_parts.specs.Unused as unused
use Rattle.message_parts.specs.AnswerFields.{answer_field}
use Rattle.message_parts.specs.AnswerFields as answers
use Rattle.message_words.proofs.Encoded.{both_true}

abbrev pub IsPlain : List ℕ → Type 0
IsPlain key = list_all is_letter key ≡ true

titles_plain : (name : FieldName) → IsPlain (titles_of name).key
titles_plain field.Bin = refl
titles_plain field.Version = refl
titles_plain field.TransactionCode = refl
titles_plain field.Pcn = refl
titles_plain field.TransactionCount = refl
titles_plain field.ProviderQualifier = refl
titles_plain field.Provider = refl
titles_plain field.DateOfService = refl
titles_plain field.Vendor = refl
titles_plain field.HeaderStatus = refl
titles_plain field.Cardholder = refl
titles_plain field.PrescriptionQualifier = refl
titles_plain field.Prescription = refl
titles_plain field.FillNumber = refl
titles_plain field.ProductQualifier = refl
titles_plain field.Product = refl
titles_plain field.Quantity = refl
titles_plain field.IngredientCost = refl
titles_plain field.DispensingFee = refl
titles_plain field.ResponseStatus = refl
titles_plain field.Authorization = refl
titles_plain field.RejectCount = refl
titles_plain field.RejectCode = refl
titles_plain field.PatientPay = refl
titles_plain field.CostPaid = refl
titles_plain field.FeePaid = refl
titles_plain field.TotalPaid = refl

marks_plain : (m : Mark) → IsPlain (mark_names m).key
marks_plain mark.Letters = refl
marks_plain mark.FormatVersion = refl
marks_plain mark.Kind = refl
marks_plain mark.Pharmacy = refl
marks_plain mark.Number = refl
marks_plain mark.Length = refl
marks_plain mark.Count = refl
marks_plain mark.ProductCount = refl
marks_plain mark.AnswerFlag = refl
marks_plain mark.Payer = refl
marks_plain mark.FirstSerial = refl
marks_plain mark.Fee = refl
marks_plain mark.Copay = refl
marks_plain mark.Price = refl
marks_plain mark.PlanProduct = refl
marks_plain mark.Again = refl
marks_plain mark.Tries = refl
marks_plain mark.SwitchCount = refl
marks_plain mark.Switch = refl

abbrev are_plain : List Titles → Bool
are_plain ts = list_all (λ t. list_all is_letter t.key) ts

abbrev PlainIf : Option Titles → Type 0
PlainIf None = Unit {0}
PlainIf (Some t) = IsPlain t.key

named_plain : (ts : List Titles) (letters : List ℕ) → are_plain ts ≡ true → PlainIf (named_in ts letters)
named_plain [] letters are = tt
named_plain (t ∷ ts) letters are =
    let h = both_true (list_all is_letter t.key) (are_plain ts) are in
    chosen (bytes_eq (drop 4 t.number) letters) t (named_in ts letters) h.0 (named_plain ts letters h.1)
  where
    chosen : (b : Bool) (t : Titles) (o : Option Titles) → IsPlain t.key → PlainIf o → PlainIf (if b then Some t else o)
    chosen true t o p q = p
    chosen false t o p q = q

or_plain : (a b : Option Titles) → PlainIf a → PlainIf b → PlainIf (or_next a b)
or_plain (Some t) b p q = p
or_plain None b p q = q

answers_plain : (letters : List ℕ) → PlainIf (answer_field letters)
unfolding answer_field answers.message_fields answers.preferred_fields answers.paid_fields answers.shared_fields answers.reviewed_fields answers.insurer_fields
answers_plain letters =
    or_plain (named_in answers.message_fields letters) _ (named_plain answers.message_fields letters refl)
    (or_plain (named_in answers.preferred_fields letters) _ (named_plain answers.preferred_fields letters refl)
    (or_plain (named_in answers.paid_fields letters) _ (named_plain answers.paid_fields letters refl)
    (or_plain (named_in answers.shared_fields letters) _ (named_plain answers.shared_fields letters refl)
    (or_plain (named_in answers.reviewed_fields letters) _ (named_plain answers.reviewed_fields letters refl)
    (named_plain answers.insurer_fields letters refl)))))

later_plain : (letters : List ℕ) → PlainIf (claim_or_answer_field letters)
unfolding claim_or_answer_field unused.dispensed_fields unused.terms_fields unused.pricing_fields unused.clinical_fields
later_plain letters =
    or_plain (named_in unused.dispensed_fields letters) _ (named_plain unused.dispensed_fields letters refl)
    (or_plain (named_in unused.terms_fields letters) _ (named_plain unused.terms_fields letters refl)
    (or_plain (named_in unused.pricing_fields letters) _ (named_plain unused.pricing_fields letters refl)
    (or_plain (named_in unused.clinical_fields letters) _ (named_plain unused.clinical_fields letters refl)
    (answers_plain letters))))

unused_plain : (letters : List ℕ) → PlainIf (unused_field letters)
unfolding unused_field unused.patient_fields unused.providers_fields unused.insurance_fields unused.other_payers_fields unused.workers_compensation_fields
unused_plain letters =
    or_plain (named_in unused.patient_fields letters) _ (named_plain unused.patient_fields letters refl)
    (or_plain (named_in unused.providers_fields letters) _ (named_plain unused.providers_fields letters refl)
    (or_plain (named_in unused.insurance_fields letters) _ (named_plain unused.insurance_fields letters refl)
    (or_plain (named_in unused.other_payers_fields letters) _ (named_plain unused.other_payers_fields letters refl)
    (or_plain (named_in unused.workers_compensation_fields letters) _ (named_plain unused.workers_compensation_fields letters refl)
    (later_plain letters)))))

or_id_plain : (id : List ℕ) (o : Option Titles) → PlainIf o → IsPlain (names_or id o).key
or_id_plain id None p = refl
or_id_plain id (Some t) p = p

pub names_plain : (k : PartKind) (bytes : List ℕ) → IsPlain (names_in k bytes).key
names_plain (kind.Header name) bytes = titles_plain name
names_plain kind.Segment bytes = refl
names_plain kind.Group bytes = refl
names_plain (kind.Field None) bytes = or_id_plain (id_in bytes) (unused_field (id_in bytes)) (unused_plain (id_in bytes))
names_plain (kind.Field (Some name)) bytes = titles_plain name
names_plain (kind.Mark m) bytes = marks_plain m
names_plain kind.Stray bytes = refl

-- The fields of the standard that this profile carries and does not use.
use Rattle.std.specs.Prelude.{ℕ, List, map, Option}
use Rattle.message_parts.specs.declared.claim_fields.TheConstants.{DISPENSED, TERMS, PRICING, CLINICAL}
use Rattle.message_parts.specs.declared.party_fields.TheConstants.{PATIENT, PROVIDERS, INSURANCE, OTHER_PAYERS, WORKERS_COMPENSATION}
use Rattle.message_parts.specs.FieldTitles.{Titles, of_row, named_in, or_next}
use Rattle.message_parts.specs.AnswerFields.{answer_field}

-- the patient segment, AM01
unfoldable pub patient_fields : List Titles
patient_fields = map of_row PATIENT

-- the pharmacy provider and the prescriber segment, AM02 and AM03
unfoldable pub providers_fields : List Titles
providers_fields = map of_row PROVIDERS

-- the insurance segment, AM04
unfoldable pub insurance_fields : List Titles
insurance_fields = map of_row INSURANCE

-- the segment of coordination of benefits and other payments, AM05
unfoldable pub other_payers_fields : List Titles
other_payers_fields = map of_row OTHER_PAYERS

-- the workers' compensation segment, AM06
unfoldable pub workers_compensation_fields : List Titles
workers_compensation_fields = map of_row WORKERS_COMPENSATION

-- the claim segment, AM07: what is dispensed
unfoldable pub dispensed_fields : List Titles
dispensed_fields = map of_row DISPENSED

-- the claim segment, AM07: under which terms
unfoldable pub terms_fields : List Titles
terms_fields = map of_row TERMS

-- the pricing segment, AM11
unfoldable pub pricing_fields : List Titles
pricing_fields = map of_row PRICING

-- the segments of drug use review, coupons, compounds and diagnoses, AM08, AM09, AM10 and AM13
unfoldable pub clinical_fields : List Titles
clinical_fields = map of_row CLINICAL

-- the field of the standard that two letters name, where it is one that this profile does not use
unfoldable pub claim_or_answer_field : List ℕ → Option Titles
claim_or_answer_field letters =
    or_next (named_in dispensed_fields letters)
    (or_next (named_in terms_fields letters)
    (or_next (named_in pricing_fields letters)
    (or_next (named_in clinical_fields letters)
    (answer_field letters))))

unfoldable pub unused_field : List ℕ → Option Titles
unused_field letters =
    or_next (named_in patient_fields letters)
    (or_next (named_in providers_fields letters)
    (or_next (named_in insurance_fields letters)
    (or_next (named_in other_payers_fields letters)
    (or_next (named_in workers_compensation_fields letters)
    (claim_or_answer_field letters)))))

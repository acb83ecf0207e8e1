-- The ruling of a transaction, from what is known of its values.
use Rattle.std.specs.Prelude.{ℕ, nat_le, nat_lt, List, [], ◌∷◌, ◌++◌, length, ◌==◌, Option, Some, None, Result, Ok, Err, codes, if◌then◌else◌}
use Rattle.d0_header.specs.Response.{Response}
use Rattle.d0_segments.specs.Parts.{FieldParts, SegmentParts}
use Rattle.claim_profile.specs.declared.reject.Code.{Code}
use Rattle.claim_profile.specs.declared.ruling.Ruling.{Ruling}
use Rattle.claim_profile.specs.declared.ruling.Ruling.TheVariants as ruling
use Rattle.claim_profile.specs.declared.answer_status.Status.{Status}
use Rattle.claim_profile.specs.declared.answer_status.Status.TheVariants as status
use Rattle.claim_profile.specs.declared.answer_reading.Speaker.{Speaker}
use Rattle.claim_profile.specs.declared.answer_reading.Speaker.TheVariants as speaker
use Rattle.claim_profile.specs.declared.answer_reading.AnswerFault.{AnswerFault}
use Rattle.claim_profile.specs.declared.answer_reading.AnswerFault.TheVariants.{NoStatus, BadAmount, BadAuthorization, BadRejects, BadClaim}
use Rattle.claim_profile.specs.declared.answer_values.FoundCodes.{FoundCodes}
use Rattle.claim_profile.specs.Authorization.{Authorization, authorization_of}
use Rattle.claim_profile.specs.Money.{Money}
use Rattle.claim_profile.specs.Fields.{untrimmed, values, fields_of}
use Rattle.claim_profile.specs.Tally.{Tally, the_one}
use Rattle.claim_profile.specs.Order.{number_up_to, amount_in_cents}
use Rattle.claim_profile.specs.OrderSeen.{required_seen, optional_seen, qualified_seen}
use Rattle.claim_profile.specs.AnswerTally.{AnswerTally}
use Rattle.claim_profile.specs.Ruling.{◌>>=◌, or_fault, status_by, checked_status, unread, money_of, code_of}

abbrev pub status_seen : Speaker → Response → Tally → Result Status AnswerFault
status_seen by h t = do
  text ← or_fault NoStatus (the_one t)
  checked_status h (status_by by text)

abbrev pub authorization_seen : Speaker → Tally → Result Authorization AnswerFault
authorization_seen speaker.Book t = or_fault BadAuthorization (required_seen authorization_of t)
authorization_seen speaker.System t = Ok unread

abbrev pub claim_number_seen : AnswerTally → Result ℕ AnswerFault
claim_number_seen t = or_fault BadClaim (qualified_seen (codes "1") t.prescription_qualifier (required_seen (number_up_to 12) t.prescription))

abbrev pub fee_said : Speaker → Tally → Option ℕ
fee_said speaker.Book t = required_seen amount_in_cents t
fee_said speaker.System t = optional_seen 0 amount_in_cents t

abbrev pub all_money_seen : Speaker → AnswerTally → Option Money
all_money_seen by t = money_of (required_seen amount_in_cents t.cost) (fee_said by t.fee) (required_seen amount_in_cents t.copay) (required_seen amount_in_cents t.total)

abbrev pub money_seen : Speaker → AnswerTally → Result Money AnswerFault
money_seen by t = or_fault BadAmount (all_money_seen by t)

-- authorization, prescription number and amounts, in this order
abbrev pub payment_seen : Speaker → AnswerTally → Result (Authorization × ℕ × Money) AnswerFault
payment_seen by t = do
  auth ← authorization_seen by t.authorization
  prescription ← claim_number_seen t
  amounts ← money_seen by t
  Ok (auth, prescription, amounts)

-- the codes so far, where each value is one and there are at most five
abbrev pub codes_seen : FoundCodes → Option (List Code)
codes_seen f = if f.sound then Some f.codes else None

-- one value more
abbrev pub code_more : Option (List Code) → Option Code → Option (List Code)
code_more None code = None
code_more (Some before) None = None
code_more (Some before) (Some code) = if nat_lt (length before) 5 then Some (before ++ code ∷ []) else None

-- these values more
unfoldable pub codes_counted : Option (List Code) → List (List ℕ) → Option (List Code)
codes_counted before [] = before
codes_counted before (value ∷ values) = codes_counted (code_more before (code_of value)) values

-- the values of these fields more
abbrev pub codes_more : Option (List Code) → List FieldParts → Option (List Code)
codes_more before fields = codes_counted before (values untrimmed (codes "FB") fields)

-- the codes, where there is one
abbrev pub some_codes : Option (List Code) → Option (List Code)
some_codes None = None
some_codes (Some found) = if nat_le 1 (length found) then Some found else None

-- the ruling of a status, None where it is a rejection
abbrev pub ruled_under : Speaker → AnswerTally → Status → Result (Option Ruling) AnswerFault
ruled_under by t status.Paid = do
  p ← payment_seen by t
  Ok (Some (ruling.Paid p.0 p.1 p.2))
ruled_under by t status.Duplicate = do
  p ← payment_seen by t
  Ok (Some (ruling.Duplicate p.0 p.1 p.2))
ruled_under by t status.Reversed = do
  auth ← authorization_seen by t.authorization
  prescription ← claim_number_seen t
  Ok (Some (ruling.Reversed auth prescription))
ruled_under by t status.Rejected = Ok None

abbrev pub ruled_seen : Speaker → Response → AnswerTally → Result (Option Ruling) AnswerFault
ruled_seen by h t = do
  status ← status_seen by h t.status
  ruled_under by t status

-- a rejection with as many codes as the count says
abbrev pub rejection_with : Option (List Code) → Option ℕ → Result Ruling AnswerFault
rejection_with None count = Err BadRejects
rejection_with (Some rejects) None = Err BadRejects
rejection_with (Some rejects) (Some count) = if count == length rejects then Ok (ruling.Rejected rejects) else Err BadRejects

-- the rejection that the segments of a group spell, where this is known of the count of its codes
abbrev pub rejection_in : List SegmentParts → Tally → Result Ruling AnswerFault
rejection_in group count =
    rejection_with (some_codes (codes_more (Some []) (fields_of (codes "21") group))) (required_seen (number_up_to 2) count)

-- what the code does with a ruling that is no rejection, and with a rejection
abbrev pub or_rejection : Result (Option Ruling) AnswerFault → Result Ruling AnswerFault → Result Ruling AnswerFault
or_rejection (Err e) rejection = Err e
or_rejection (Ok (Some r)) rejection = Ok r
or_rejection (Ok None) rejection = rejection

-- The fields of answers that this profile carries and does not use, by the segments in which they mostly stand.
use Rattle.std.specs.Prelude.{ℕ, List, map, Option}
use Rattle.message_parts.specs.declared.answer_fields.TheConstants.{MESSAGES, PREFERRED, PAID, SHARED, REVIEWED, INSURERS}
use Rattle.message_parts.specs.FieldTitles.{Titles, of_row, named_in, or_next}

-- the segments of messages and of the status of an answer, AM20 and AM21
unfoldable pub message_fields : List Titles
message_fields = map of_row MESSAGES

-- the claim segment of an answer, AM22
unfoldable pub preferred_fields : List Titles
preferred_fields = map of_row PREFERRED

-- the pricing segment of an answer, AM23: what is paid, and by which basis
unfoldable pub paid_fields : List Titles
paid_fields = map of_row PAID

-- the pricing segment of an answer, AM23: the patient's part and the plan's limits
unfoldable pub shared_fields : List Titles
shared_fields = map of_row SHARED

-- the segment of drug use review of an answer, AM24
unfoldable pub reviewed_fields : List Titles
reviewed_fields = map of_row REVIEWED

-- the segments of an answer that name insurers, AM25 and AM28
unfoldable pub insurer_fields : List Titles
insurer_fields = map of_row INSURERS

-- the field of answers that two letters name, where it is one that this profile does not use
unfoldable pub answer_field : List ℕ → Option Titles
answer_field letters =
    or_next (named_in message_fields letters)
    (or_next (named_in preferred_fields letters)
    (or_next (named_in paid_fields letters)
    (or_next (named_in shared_fields letters)
    (or_next (named_in reviewed_fields letters)
    (named_in insurer_fields letters)))))

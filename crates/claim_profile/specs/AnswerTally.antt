-- Counting the fields of an answer, segment after segment.
use Rattle.std.specs.Prelude.{List, codes}
use Rattle.d0_segments.specs.Parts.{FieldParts, SegmentParts}
use Rattle.claim_profile.specs.declared.answer_values.AnswerValues.{AnswerValues}
use Rattle.claim_profile.specs.Fields.{untrimmed, trimmed, values, fields_of}
use Rattle.claim_profile.specs.Tally.{Tally, Absent, seen, tallied}

-- what is known of each field of an answer
pub record AnswerTally : Type 0 where
  pub status : Tally
  pub authorization : Tally
  pub reject_count : Tally
  pub prescription_qualifier : Tally
  pub prescription : Tally
  pub copay : Tally
  pub cost : Tally
  pub fee : Tally
  pub total : Tally

-- the counts of the code, without the places of their values in memory
abbrev pub answer_seen : AnswerValues → AnswerTally
answer_seen v = record {
  status = seen v.status;
  authorization = seen v.authorization;
  reject_count = seen v.reject_count;
  prescription_qualifier = seen v.prescription_qualifier;
  prescription = seen v.prescription;
  copay = seen v.copay;
  cost = seen v.cost;
  fee = seen v.fee;
  total = seen v.total;
}

-- nothing is known
abbrev pub no_answer_seen : AnswerTally
no_answer_seen = record {
  status = Absent;
  authorization = Absent;
  reject_count = Absent;
  prescription_qualifier = Absent;
  prescription = Absent;
  copay = Absent;
  cost = Absent;
  fee = Absent;
  total = Absent;
}

-- the fields of status, claim and pricing segments counted
unfoldable pub answer_fields_counted : AnswerTally → (status claim pricing : List FieldParts) → AnswerTally
answer_fields_counted t status claim pricing = record {
  status = tallied t.status (values untrimmed (codes "AN") status);
  authorization = tallied t.authorization (values untrimmed (codes "F3") status);
  reject_count = tallied t.reject_count (values untrimmed (codes "FA") status);
  prescription_qualifier = tallied t.prescription_qualifier (values trimmed (codes "EM") claim);
  prescription = tallied t.prescription (values untrimmed (codes "D2") claim);
  copay = tallied t.copay (values untrimmed (codes "F5") pricing);
  cost = tallied t.cost (values untrimmed (codes "F6") pricing);
  fee = tallied t.fee (values untrimmed (codes "F7") pricing);
  total = tallied t.total (values untrimmed (codes "F9") pricing);
}

-- the segments of a group counted, each field in its own segment
unfoldable pub answer_counted : AnswerTally → List SegmentParts → AnswerTally
answer_counted t segments = answer_fields_counted t (fields_of (codes "21") segments) (fields_of (codes "22") segments) (fields_of (codes "23") segments)

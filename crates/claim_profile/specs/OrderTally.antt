-- Counting the fields of an order, segment after segment.
use Rattle.std.specs.Prelude.{List, [], codes}
use Rattle.d0_segments.specs.Parts.{FieldParts, SegmentParts}
use Rattle.claim_profile.specs.declared.order_values.Level.{Level}
use Rattle.claim_profile.specs.declared.order_values.Level.TheVariants.{Shared, Group}
use Rattle.claim_profile.specs.declared.order_values.OrderValues.{OrderValues}
use Rattle.claim_profile.specs.Fields.{untrimmed, trimmed, values, fields_of}
use Rattle.claim_profile.specs.Tally.{Tally, Absent, seen, tallied}

-- what is known of each field of an order
pub record OrderTally : Type 0 where
  pub cardholder : Tally
  pub prescription_qualifier : Tally
  pub prescription : Tally
  pub fill : Tally
  pub product_qualifier : Tally
  pub product : Tally
  pub quantity : Tally
  pub cost : Tally
  pub fee : Tally

-- the counts of the code, without the places of their values in memory
abbrev pub order_seen : OrderValues → OrderTally
order_seen v = record {
  cardholder = seen v.cardholder;
  prescription_qualifier = seen v.prescription_qualifier;
  prescription = seen v.prescription;
  fill = seen v.fill;
  product_qualifier = seen v.product_qualifier;
  product = seen v.product;
  quantity = seen v.quantity;
  cost = seen v.cost;
  fee = seen v.fee;
}

-- nothing is known
abbrev pub nothing_seen : OrderTally
nothing_seen = record {
  cardholder = Absent;
  prescription_qualifier = Absent;
  prescription = Absent;
  fill = Absent;
  product_qualifier = Absent;
  product = Absent;
  quantity = Absent;
  cost = Absent;
  fee = Absent;
}

-- the fields of insurance, claim and pricing segments counted
unfoldable pub fields_counted : OrderTally → (insurance claim pricing : List FieldParts) → OrderTally
fields_counted t insurance claim pricing = record {
  cardholder = tallied t.cardholder (values trimmed (codes "C2") insurance);
  prescription_qualifier = tallied t.prescription_qualifier (values trimmed (codes "EM") claim);
  prescription = tallied t.prescription (values untrimmed (codes "D2") claim);
  fill = tallied t.fill (values untrimmed (codes "D3") claim);
  product_qualifier = tallied t.product_qualifier (values trimmed (codes "E1") claim);
  product = tallied t.product (values trimmed (codes "D7") claim);
  quantity = tallied t.quantity (values untrimmed (codes "E7") claim);
  cost = tallied t.cost (values untrimmed (codes "D9") pricing);
  fee = tallied t.fee (values untrimmed (codes "DC") pricing);
}

-- the segments of a level counted, each field in its own segment
unfoldable pub segments_counted : Level → OrderTally → List SegmentParts → OrderTally
segments_counted Shared t segments = fields_counted t (fields_of (codes "04") segments) [] []
segments_counted Group t segments = fields_counted t [] (fields_of (codes "07") segments) (fields_of (codes "11") segments)

-- the fields of a claim counted, in the segments in front of all groups and in those of its group
abbrev pub claim_counted : (shared group : List SegmentParts) → OrderTally
claim_counted shared group = segments_counted Group (segments_counted Shared nothing_seen shared) group

use Rattle.std.proofs.Common.{◌≡◌, true, map, length}
use Rattle.d0_segments.specs.Separators.{ends_here}
use Rattle.d0_segments.specs.Texts.{fields_text}
use Rattle.d0_segments.specs.Views.{field_parts}
use Rattle.d0_segments.specs.Lending.{FieldsLie}
use Rattle.d0_segments.specs.Taking.{Takes}
use Rattle.d0_segments.proofs.reading.read_fields.Given as goal

abbrev pub invariant-loop-rest : goal.invariant-loop-rest
invariant-loop-rest l = record {
  taken : Takes l.fn.from (fields_text (map field_parts l.fields.items)) l.rest;
  ends : ends_here l.rest.bytes.now ≡ true;
  lent : FieldsLie l.fn.from.bytes.ref_ptr l.fields.items;
}

abbrev pub decreases-loop-rest : goal.decreases-loop-rest
decreases-loop-rest l = length l.rest.bytes.now

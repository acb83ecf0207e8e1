-- What the types of fields and segments say of their parts.
use Rattle.std.proofs.Common.{◌≡◌, Bool, true, ◌&&◌, List, [], ◌∷◌, map, length, refl, ap, ◌∙◌}
use Rattle.std.proofs.lemmas.List.{length-map}
use Rattle.std.specs.Global.{Vec}
use Rattle.d0_segments.specs.declared.field.Field.{Field}
use Rattle.d0_segments.specs.declared.segment.Segment.{Segment}
use Rattle.d0_segments.specs.Separators.{is_id, is_plain}
use Rattle.d0_segments.specs.Parts.{is_field, are_fields, is_segment, are_segments}
use Rattle.d0_segments.specs.Views.{field_parts, segment_parts, segments_parts, groups_parts}

joined : (a b : Bool) → a ≡ true → b ≡ true → (a && b) ≡ true
joined a b e h = ap (λ t. t && b) e ∙ h

pub field_typed : (f : Field) → is_field (field_parts f) ≡ true
field_typed f = joined (is_id f.id) (is_plain f.value.now) f.plain_id f.plain_value

pub fields_typed : (fs : List Field) → are_fields (map field_parts fs) ≡ true
fields_typed [] = refl
fields_typed (f ∷ fs) = joined (is_field (field_parts f)) (are_fields (map field_parts fs)) (field_typed f) (fields_typed fs)

pub segment_typed : (s : Segment) → is_segment (segment_parts s) ≡ true
segment_typed s = joined (is_id s.id) (are_fields (map field_parts s.fields.items)) s.plain_id (fields_typed s.fields.items)

pub segments_typed : (ss : List Segment) → are_segments (segments_parts ss) ≡ true
segments_typed [] = refl
segments_typed (s ∷ ss) = joined (is_segment (segment_parts s)) (are_segments (segments_parts ss)) (segment_typed s) (segments_typed ss)

pub groups_length : (gs : List (Vec Segment)) → length (groups_parts gs) ≡ length gs
groups_length gs = length-map gs (λ (g : Vec Segment). segments_parts g.items)

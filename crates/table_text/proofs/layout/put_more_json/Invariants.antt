use Rattle.std.proofs.Common.{◌≡◌, ◌∷◌, ◌++◌, drop, map}
use Rattle.std.specs.List.{flat_map}
use Rattle.table_text.specs.Seen.{field_seen}
use Rattle.table_text.specs.Rows.{json_member}
use Rattle.table_text.proofs.layout.put_more_json.Given as goal

-- the text so far, and then that of the fields that are left
abbrev pub invariant-loop-field : goal.invariant-loop-field
invariant-loop-field l = l.out.items ++ flat_map (λ member. 44 ∷ json_member member) (map field_seen (drop l.field-index l.fields)) ≡ l.initial.out.items ++ flat_map (λ member. 44 ∷ json_member member) (map field_seen (l.fields))

use Rattle.std.proofs.Common.{◌≡◌, ◌++◌, drop, map}
use Rattle.std.specs.Option.{option_map}
use Rattle.d0_segments.specs.Texts.{groups_text}
use Rattle.d0_segments.specs.Pieces.{groups_of}
use Rattle.carried_fields.specs.Repeating.{repeated_seen, repeating_groups}
use Rattle.carried_fields.proofs.repeating.put_groups.Given as goal

-- what is written, and then what is left, is all
abbrev pub invariant-loop-place : goal.invariant-loop-place
invariant-loop-place l =
    l.text.items ++ groups_text (repeating_groups (drop l.place (groups_of l.own.body.bytes.now)) (drop l.place (map (option_map repeated_seen) l.sources)))
    ≡ l.fn.text.items ++ groups_text (repeating_groups (groups_of l.own.body.bytes.now) (map (option_map repeated_seen) l.sources))

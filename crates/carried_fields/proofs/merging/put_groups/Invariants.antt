use Rattle.std.proofs.Common.{◌≡◌, ◌++◌, drop}
use Rattle.d0_segments.specs.Texts.{groups_text}
use Rattle.d0_segments.specs.Pieces.{groups_of}
use Rattle.carried_fields.specs.Agreeing.{agreed}
use Rattle.carried_fields.specs.Merging.{carried_groups}
use Rattle.carried_fields.proofs.merging.put_groups.Given as goal

-- what is written, and then what is left, is all
abbrev pub invariant-loop-place : goal.invariant-loop-place
invariant-loop-place l =
    l.text.items ++ groups_text (carried_groups (agreed (drop l.place l.rulings) (drop l.place l.advised)) (drop l.place (groups_of l.own.body.bytes.now)) (drop l.place (groups_of l.said.body.bytes.now)))
    ≡ l.fn.text.items ++ groups_text (carried_groups (agreed l.rulings l.advised) (groups_of l.own.body.bytes.now) (groups_of l.said.body.bytes.now))

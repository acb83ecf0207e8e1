use Rattle.std.proofs.Common.{◌≡◌, ◌++◌, drop}
use Rattle.d0_segments.specs.Texts.{groups_text}
use Rattle.d0_segments.specs.Views.{groups_parts}
use Rattle.d0_segments.proofs.writing.put_groups.Given as goal

-- what is written, and what is left to write
abbrev pub invariant-loop-group : goal.invariant-loop-group
invariant-loop-group l = l.text.items ++ groups_text (groups_parts (drop l.group-index l.groups)) ≡ l.fn.text.items ++ groups_text (groups_parts l.groups)

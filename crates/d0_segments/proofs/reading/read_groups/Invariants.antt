use Rattle.std.proofs.Common.{◌≡◌, true, length}
use Rattle.d0_segments.specs.Separators.{ends_group}
use Rattle.d0_segments.specs.Parts.{are_groups}
use Rattle.d0_segments.specs.Texts.{groups_text}
use Rattle.d0_segments.specs.Views.{groups_parts}
use Rattle.d0_segments.specs.Lending.{GroupsLie}
use Rattle.d0_segments.specs.Taking.{Takes}
use Rattle.d0_segments.proofs.reading.read_groups.Given as goal

abbrev pub invariant-loop-rest : goal.invariant-loop-rest
invariant-loop-rest l = record {
  taken : Takes l.fn.from (groups_text (groups_parts l.groups.items)) l.rest;
  groups : are_groups (groups_parts l.groups.items) ≡ true;
  ends : ends_group l.rest.bytes.now ≡ true;
  lent : GroupsLie l.fn.from.bytes.ref_ptr l.groups.items;
}

abbrev pub decreases-loop-rest : goal.decreases-loop-rest
decreases-loop-rest l = length l.rest.bytes.now

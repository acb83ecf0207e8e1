use Rattle.std.proofs.Common.{◌≡◌, drop}
use Rattle.toml.specs.View.{items_view}
use Rattle.world_settings.specs.Lists.{each}
use Rattle.world_settings.proofs.Arrays.{joined}
use Rattle.world_settings.proofs.lists.each.Given as goal

-- the items so far, and then those that are left
abbrev pub invariant-loop-value : goal.invariant-loop-value
invariant-loop-value g l =
    joined l.list.items (each (g.R.Reader.spelled l.reader) (items_view (drop l.value-index l.array))) ≡ each (g.R.Reader.spelled l.reader) (items_view l.array)

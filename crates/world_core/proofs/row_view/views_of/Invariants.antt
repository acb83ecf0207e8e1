use Rattle.std.proofs.Common.{◌≡◌, take, map}
use Rattle.world_core.specs.RowViews.{row_told}
use Rattle.world_core.proofs.row_view.views_of.Given as goal

abbrev pub invariant-loop-row : goal.invariant-loop-row
invariant-loop-row l = l.views.items ≡ map row_told (take l.row-index l.rows)

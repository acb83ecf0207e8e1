use Rattle.std.proofs.Common.{ap, sym, ◌∙◌, is_some}
use Rattle.bin_routes.proofs.Maps.{get_is, processors_total}
use Rattle.bin_routes.proofs.table.Routes.has_for_all.Goals as goal

pub returns-in-Some : goal.returns-in-Some
returns-in-Some c =
    rw (← c.self.view_is, ← c.route.view_is, c.in-Some.is)
    (c.contains_key.ensures ∙ ap is_some (sym (get_is processors_total c.self.inside.exact.entries (c.route.inside.bin, c.in-Some.pcn))))

use Rattle.std.proofs.Common.{ℕ, List, ap}
use Rattle.std.specs.FinMap.{FinMap, from_entries}
use Rattle.bin_routes.specs.Row.{Row}
use Rattle.bin_routes.specs.Table.{RouteMaps, bin_cmp, processor_cmp}
use Rattle.bin_routes.proofs.Maps.{inserted, processors_total, exact_processors, bins_total, exact_bins}
use Rattle.bin_routes.proofs.table.Routes.put_for_all.Goals as goal

abbrev maps : ℕ → List Row → FinMap bin_cmp ℕ → FinMap processor_cmp ℕ → FinMap bin_cmp ℕ → RouteMaps
maps switches ranged rejected exact others = record { exact = exact; others = others; ranged = ranged; rejected = rejected; switches = switches }

pub returns-in_ok-insert-in-Some-clause-ok : goal.returns-in_ok-insert-in-Some-clause-ok
returns-in_ok-insert-in-Some-clause-ok c =
    rw (← c.self.view_is, ← c.route.view_is, c.in-Some.is)
    (ap (λ (m : FinMap processor_cmp ℕ). maps c.self.inside.switches c.self.inside.ranged.items (from_entries c.self.inside.rejected.entries) m (from_entries c.self.inside.others.entries))
    (inserted processors_total exact_processors c.self.inside.exact.entries c.insert.new.self.entries (c.route.inside.bin, c.in-Some.pcn) c.route.inside.payer c.in_ok-insert-in-Some.ensures.updates.0))

pub returns-in_ok-insert-in-None-clause-ok : goal.returns-in_ok-insert-in-None-clause-ok
returns-in_ok-insert-in-None-clause-ok c =
    rw (← c.self.view_is, ← c.route.view_is, c.in-None.is)
    (ap (λ (m : FinMap bin_cmp ℕ). maps c.self.inside.switches c.self.inside.ranged.items (from_entries c.self.inside.rejected.entries) (from_entries c.self.inside.exact.entries) m)
    (inserted bins_total exact_bins c.self.inside.others.entries c.insert-in-None.new.self.entries c.route.inside.bin c.route.inside.payer c.in_ok-insert-in-None.ensures.updates.0))

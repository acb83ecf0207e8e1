use Rattle.std.proofs.Common.{◌≡◌, ◌-◌}
use Rattle.kept_records.specs.Faults.{each_in}
use Rattle.kept_records.specs.Plans.{listed}
use Rattle.kept_records.proofs.products.read_products.Given as goal

abbrev pub invariant-loop : goal.invariant-loop
invariant-loop l = each_in listed l.total l.count l.fn.plan l.bytes ≡ each_in listed l.total (l.count - l.counter) l.plan l.rest

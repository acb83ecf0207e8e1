use Rattle.std.proofs.Common.{◌≡◌, take, drop}
use Rattle.bin_routes.specs.Fault.{first_fault, fault_behind}
use Rattle.bin_routes.specs.Table.{routes_of}
use Rattle.bin_routes.proofs.table.Routes.new.Given as goal

abbrev pub invariant-loop-place : goal.invariant-loop-place
invariant-loop-place l = record {
  so_far : l.routes ≡ routes_of (take l.place l.rows);
  rest : first_fault l.payers l.rows ≡ fault_behind l.payers (take l.place l.rows) (drop l.place l.rows);
}

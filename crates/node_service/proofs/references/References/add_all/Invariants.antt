use Rattle.std.proofs.Common.{◌≡◌, ◌++◌, length}
use Rattle.std.specs.Vec.Iter.{into_iter_items, into_iter_len}
use Rattle.node_service.proofs.references.References.add_all.Given as goal

-- the references so far, and then those that are left, are all
abbrev pub invariant-loop-one : goal.invariant-loop-one
invariant-loop-one l = record {
  all : l.self ++ into_iter_items l.one-iterator ≡ l.fn.self ++ into_iter_items l.initial.one-iterator;
  left : into_iter_len l.one-iterator ≡ length (into_iter_items l.one-iterator);
}

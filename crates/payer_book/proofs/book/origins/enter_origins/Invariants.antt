use Rattle.std.proofs.Common.{◌≡◌, ◌+◌, ◌≤◌, ◌++◌, length, vec_len, vec_capacity, drop}
use Rattle.payer_book.specs.Origins.{origins_by}
use Rattle.payer_book.proofs.book.origins.enter_origins.Given as goal

-- what is added, and then what is left, is all, and there is room for that
abbrev pub invariant-loop-index : goal.invariant-loop-index
invariant-loop-index l =
    (l.origins.items ++ origins_by l.fn.id (l.index + 1) (drop l.index l.changes) ≡ l.fn.origins.items ++ origins_by l.fn.id 1 l.changes)
    × (vec_len l.origins + length (drop l.index l.changes) ≤ vec_capacity l.origins)

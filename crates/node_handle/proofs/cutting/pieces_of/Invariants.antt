use Rattle.std.proofs.Common.{◌≡◌, drop, map}
use Rattle.node_handle.specs.Audits.{cut_at}
use Rattle.node_handle.proofs.Pieces.{joined}
use Rattle.node_handle.proofs.cutting.pieces_of.Given as goal

-- the pieces so far, and then those of what is left
abbrev pub invariant-loop-size : goal.invariant-loop-size
invariant-loop-size l = joined (map (λ piece. piece.items) l.pieces.items) (cut_at (drop l.size-index l.sizes) l.rest) ≡ cut_at l.sizes l.bytes

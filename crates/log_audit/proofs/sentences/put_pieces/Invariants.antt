use Rattle.std.proofs.Common.{◌≡◌, ◌++◌, drop, map}
use Rattle.log_audit.specs.Sentences.{sentence}
use Rattle.log_audit.specs.SentencesSeen.{piece_seen}
use Rattle.log_audit.proofs.sentences.put_pieces.Given as goal

-- the text so far, and then that of the pieces that are left
abbrev pub invariant-loop-piece : goal.invariant-loop-piece
invariant-loop-piece l = l.out.items ++ sentence (map piece_seen (drop l.piece-index l.pieces)) ≡ l.initial.out.items ++ sentence (map piece_seen l.pieces)

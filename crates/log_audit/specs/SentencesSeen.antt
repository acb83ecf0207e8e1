-- Pieces with their words as lists of bytes.
use Rattle.world_setup.specs.Seen.{node_seen}
use Rattle.log_audit.specs.Sentences as seen
use Rattle.log_audit.specs.declared.sentences.Piece.{Piece}
use Rattle.log_audit.specs.declared.sentences.Piece.TheVariants.{Words, Number, Named}

abbrev pub piece_seen : Piece → seen.Piece
piece_seen (Words words) = seen.Words words.now
piece_seen (Number number) = seen.Number number
piece_seen (Named node) = seen.Named (node_seen node)

use Rattle.call_notes.specs.Notes.{bytes_in}
use Rattle.log_audit.specs.Outgoing.{Took}
use Rattle.log_audit.proofs.outgoing.writer_sink.write_piece.Given as goal

-- what the writer took so far is noted, and the others are left
abbrev pub invariant-loop : goal.invariant-loop
invariant-loop g l = Took (g.W.Write.contents l.fn.writer) (g.W.Write.contents l.writer) (bytes_in l.fn.written.notes) (bytes_in l.written.notes) l.left l.piece

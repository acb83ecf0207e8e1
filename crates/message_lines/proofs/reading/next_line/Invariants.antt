use Rattle.std.proofs.Common.{◌≡◌, IfSome}
use Rattle.message_words.specs.InputLines.{left_in}
use Rattle.message_lines.specs.Input.{HasSkipped}
use Rattle.message_lines.proofs.reading.next_line.Given as goal

-- all lines so far are skipped, and no read has failed
abbrev pub invariant-loop : goal.invariant-loop
invariant-loop g l = IfSome (left_in (g.R.ByteSource.remaining l.fn.source.reader) l.fn.source.unread)
    (λ bytes. HasSkipped bytes l.fn.number l.number (left_in (g.R.ByteSource.remaining l.source.reader) l.source.unread))
    × (g.R.ByteSource.has_failed l.source.reader ≡ g.R.ByteSource.has_failed l.fn.source.reader)

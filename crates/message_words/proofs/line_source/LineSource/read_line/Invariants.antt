use Rattle.std.proofs.Common.{◌≡◌, ◌≤◌, ◌+◌, ◌-◌, length}
use Rattle.std.specs.Io.KnownBytes.{Consumes}
use Rattle.message_words.specs.InputLines.{left_in, line_length, longest}
use Rattle.message_words.proofs.line_source.LineSource.read_line.Given as goal

-- the line so far came from the front of what was left, has no newline and is not too long
abbrev pub invariant-loop-some : goal.invariant-loop-some
invariant-loop-some g l = record {
  front : Consumes (left_in (g.R.ByteSource.remaining l.fn.self.reader) l.fn.self.unread) (left_in (g.R.ByteSource.remaining l.self.reader) l.self.unread) l.self.line.items;
  plain : line_length l.self.line.items ≡ length l.self.line.items;
  fits : length l.self.line.items ≤ longest;
  account : g.R.ByteSource.has_failed l.self.reader ≡ g.R.ByteSource.has_failed l.fn.self.reader;
}

-- each turn adds to the line, which is never too long
abbrev pub decreases-loop-some : goal.decreases-loop-some
decreases-loop-some g l = longest + 1 - length l.self.line.items

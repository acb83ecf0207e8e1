use Rattle.std.proofs.Common.{ap, ◌∙◌}
use Rattle.message_words.specs.InputLines.{unread, left_in}
use Rattle.message_words.proofs.InputLines.{ended_now}
use Rattle.message_words.proofs.line_source.LineSource.read_line.Goals as goal

pub returns-then-ended-clause-line : goal.returns-then-ended-clause-line
returns-then-ended-clause-line g c =
    ended_now (left_in (g.R.ByteSource.remaining c.args.self.now.reader) c.args.self.now.unread) (left_in (g.R.ByteSource.remaining c.loop-some.self.reader) c.loop-some.self.unread)
    (g.R.ByteSource.remaining c.fill.new.self.reader) (g.R.ByteSource.remaining c.drop_return.new.self.reader) (unread c.fill.new.self.unread) (unread c.take_to_newline.new.self.unread)
    (unread c.drop_return.new.self.unread) c.loop-some.self.line.items c.fill.new.self.line.items c.take_to_newline.new.self.line.items c.drop_return.new.self.line.items c.in_ok-ended.ended
    c.loop-some.invariant.front c.loop-some.invariant.plain c.fill.ensures.left c.in_ok-ended.ensures.ended c.if-ended.true (ap (λ v. v.items) c.fill.ensures.line)
    c.in_ok-ended.ensures.line c.in_ok-ended.ensures.left c.drop_return.ensures.line (ap unread c.drop_return.ensures.unread)
    (ap g.R.ByteSource.remaining (c.drop_return.ensures.reader ∙ c.in_ok-ended.ensures.reader))

use Rattle.std.proofs.Common.{refl, rules, ◌∙◌}
use Rattle.message_words.specs.InputLines.{left_in}
use Rattle.message_lines.proofs.Skipping.{goes_on, none_skipped}
use Rattle.message_lines.proofs.reading.next_line.Goals as goal

pub loop-init : goal.loop-init
loop-init g c = (none_skipped (left_in (g.R.ByteSource.remaining c.args.source.now.reader) c.args.source.now.unread) c.args.number.now, refl)

pub loop-preserved : goal.loop-preserved
loop-preserved g c = (
  goes_on (left_in (g.R.ByteSource.remaining c.args.source.now.reader) c.args.source.now.unread) c.args.number.now c.loop.number c.saturating_add.result
      (left_in (g.R.ByteSource.remaining c.loop.source.reader) c.loop.source.unread) (left_in (g.R.ByteSource.remaining c.read_line.new.self.reader) c.read_line.new.self.unread)
      c.in_ok-some.some c.read_line.new.self.line.items c.loop.invariant.0 c.in_ok-some.ensures.line c.if-not-some.false (search rules) c.saturating_add.ensures,
  c.in_ok-some.ensures.account ∙ c.loop.invariant.1,
)

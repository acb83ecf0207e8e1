use Rattle.std.proofs.Common.{◌++◌, ap, ◌∙◌}
use Rattle.std.specs.Prelude.{decimal}
use Rattle.read_and_replay.specs.Entries.{entry_with}
use Rattle.read_and_replay.specs.Lines.{said_to}
use Rattle.read_and_replay.specs.Said.{said_text}
use Rattle.read_and_replay.proofs.SaidLines.{said_is_told, book_is_left, line_joined}
use Rattle.read_and_replay.proofs.answers.put_line.Goals as goal

pub returns-clause-line : goal.returns-clause-line
returns-clause-line c =
    let answer = said_to c.args.routes.now c.args.book.now (entry_with c.args.id c.args.request.now) in
    let numbered = c.in_ok-put_decimal.ensures.ok ∙ ap (λ n. c.args.output.now.items ++ decimal n) c.number.ensures.value in
    let said = said_is_told c.args.routes.now c.args.book.now c.args.id c.args.request.now c.answer_at-said.result c.answer_at-said.new.self c.answer_at-said.ensures.ok c.answer_at-said.ensures.fault
    c.in_ok-put_said.ensures.known in
    line_joined c.args.output.now.items c.put_decimal.new.out.items c.put_said.new.output.items c.extend_from_slice.new.self.items (said_text c.answer_at-said.new.self.rows c.answer_at-said.result) c.args.id.number
    answer numbered c.in_ok-put_said.ensures.text c.in_ok-extend_from_slice.ensures.items said

pub returns-clause-book : goal.returns-clause-book
returns-clause-book c =
    book_is_left c.args.routes.now c.args.book.now c.args.id c.args.request.now c.answer_at-said.result c.answer_at-said.new.self c.answer_at-said.ensures.ok c.answer_at-said.ensures.fault
    c.answer_at-said.ensures.err c.in_ok-put_said.ensures.known

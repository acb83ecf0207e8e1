use Rattle.std.proofs.Common.{◌≡◌, List, Option, sym, ap, ◌∙◌}
use Rattle.envelope.specs.Txn.{Txn}
use Rattle.input_text.specs.Lines.{LinesLeft, numbered_lines}
use Rattle.schedule.specs.Reading.{NumberedLine, told_lines, spelled_in}
use Rattle.schedule.proofs.EventLists.{line_skipped, line_taken, line_bad, no_lines}
use Rattle.read_and_replay.specs.Entries.{entry_with, entry_under, entry_of, entries_in}
use Rattle.read_and_replay.specs.Lines.{lines_behind}
use Rattle.read_and_replay.proofs.SaidLines.{lines_go_on, lines_stop, lines_are_done}
use Rattle.read_and_replay.proofs.answers.put_lines.Goals as goal

pub loop-line-init : goal.loop-line-init
loop-line-init c =
    let start : c.into_iter-line-iterator.result ≡ record { number = 1; bytes = c.args.input.now } = c.into_iter-line-iterator.ensures.into_iter_gives ∙ c.new-line-items.ensures in
    ap (λ (left : LinesLeft). lines_behind c.args.routes.now c.args.book.now c.args.output.now.items (spelled_in entry_of (told_lines (numbered_lines left)))) start

pub loop-line-preserved-in-Continue-branch-3 : goal.loop-line-preserved-in-Continue-branch-3
loop-line-preserved-in-Continue-branch-3 c =
    let l = c.loop-line in
    let routes = c.args.routes.now in
    let line : NumberedLine = (c.in-Some.line.number, c.in-Some.line.text.now) in
    let next = numbered_lines c.next.new.self in
    let text = c.read_entry.new.request.items in
    let entry = entry_with c.in-Some-2.id text in
    let taken = ap (λ (ls : List NumberedLine). spelled_in entry_of (told_lines ls)) c.in-Some.ensures.steps
    ∙ line_taken entry_of line next entry (sym c.is_skipped.ensures ∙ c.if-not-is_skipped.true) (sym c.in_ok-id.ensures ∙ ap (λ (id : Option Txn). entry_under id text) c.in-Some-2.is) in
    lines_go_on routes l.book c.put_line.new.book entry l.output.items c.put_line.new.output.items (spelled_in entry_of (told_lines next)) (rw c.as_slice.ensures.value at c.in_ok-put_line-in-Some-2.ensures.line)
    (rw c.as_slice.ensures.value at c.in_ok-put_line-in-Some-2.ensures.book)
    ∙ (sym (ap (lines_behind routes l.book l.output.items) taken) ∙ l.invariant)

pub loop-line-preserved : goal.loop-line-preserved
loop-line-preserved c =
    let l = c.loop-line in
    let line : NumberedLine = (c.in-Some.line.number, c.in-Some.line.text.now) in
    let skipped = ap (λ (ls : List NumberedLine). spelled_in entry_of (told_lines ls)) c.in-Some.ensures.steps
    ∙ line_skipped entry_of line (numbered_lines c.next.new.self) (sym c.is_skipped.ensures ∙ c.if-not-is_skipped.false) in
    sym (ap (lines_behind c.args.routes.now l.book l.output.items) skipped) ∙ l.invariant

pub returns-in-None-2-clause-fault : goal.returns-in-None-2-clause-fault
returns-in-None-2-clause-fault c =
    let l = c.loop-line in
    let routes = c.args.routes.now in
    let line : NumberedLine = (c.in-Some.line.number, c.in-Some.line.text.now) in
    let text = c.read_entry.new.request.items in
    let bad = ap (λ (ls : List NumberedLine). spelled_in entry_of (told_lines ls)) c.in-Some.ensures.steps
    ∙ line_bad entry_of line (numbered_lines c.next.new.self) (sym c.is_skipped.ensures ∙ c.if-not-is_skipped.true) (sym c.in_ok-id.ensures ∙ ap (λ (id : Option Txn). entry_under id text) c.in-None-2.is) in
    lines_stop routes c.args.book.now c.args.output.now.items c.in-Some.line.number (entries_in c.args.input.now) (sym (ap (lines_behind routes l.book l.output.items) bad) ∙ l.invariant)

pub returns-clause-lines : goal.returns-clause-lines
returns-clause-lines c =
    let l = c.loop-line in
    let routes = c.args.routes.now in
    let none = ap (λ (ls : List NumberedLine). spelled_in entry_of (told_lines ls)) c.in-None.ensures.steps.0 ∙ no_lines entry_of in
    sym l.invariant ∙ (ap (lines_behind routes l.book l.output.items) none ∙ lines_are_done routes l.book l.output.items)

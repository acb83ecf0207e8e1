use Rattle.std.proofs.Common.{◌≡◌, List, [], sym, ap, ◌∙◌, append-nil, Ok}
use Rattle.std.specs.Str.Lines.{lines}
use Rattle.input_text.specs.Lines.{LinesLeft, numbered_lines}
use Rattle.world_setup.specs.declared.event.Event.{Event}
use Rattle.schedule.specs.Events.{line_event}
use Rattle.schedule.specs.Reading.{NumberedLine, told_lines, spelled_in, events_by}
use Rattle.schedule.proofs.EventLists.{joined, joined-nil, joined-step, line_skipped, line_taken, line_bad, no_lines}
use Rattle.schedule.proofs.reading.read_events.Goals as goal

pub loop-line-init : goal.loop-line-init
loop-line-init c =
    let start : c.into_iter-line-iterator.result ≡ record { number = 1; bytes = c.args.text.now } = c.into_iter-line-iterator.ensures.into_iter_gives ∙ c.new-line-items.ensures in
    rw c.new-events.ensures.items
    (sym (ap (λ (left : LinesLeft). joined [] (spelled_in (line_event c.args.living) (told_lines (numbered_lines left)))) start ∙ joined-nil (events_by c.args.living (lines c.args.text.now))))

pub loop-line-preserved-in-Continue-branch-3 : goal.loop-line-preserved-in-Continue-branch-3
loop-line-preserved-in-Continue-branch-3 c =
    rw (c.in_ok-push-in-Some-2.ensures.items)
    (c.loop-line.invariant
    ∙ (ap (λ (ls : List NumberedLine). joined c.loop-line.events.items (spelled_in (line_event c.args.living) (told_lines ls))) c.in-Some.ensures.steps
    ∙ (ap (joined c.loop-line.events.items)
    (line_taken (line_event c.args.living) (c.in-Some.line.number, c.in-Some.line.text.now) (numbered_lines c.next.new.self) c.in-Some-2.event (sym c.is_skipped.ensures ∙ c.if-not-is_skipped.true) (sym c.in_ok-event.ensures ∙ c.in-Some-2.is))
    ∙ joined-step c.loop-line.events.items c.in-Some-2.event _)))

pub returns-in-None-2-clause-refused : goal.returns-in-None-2-clause-refused
returns-in-None-2-clause-refused c =
    c.loop-line.invariant
    ∙ (ap (λ (ls : List NumberedLine). joined c.loop-line.events.items (spelled_in (line_event c.args.living) (told_lines ls))) c.in-Some.ensures.steps
    ∙ ap (joined c.loop-line.events.items)
    (line_bad (line_event c.args.living) (c.in-Some.line.number, c.in-Some.line.text.now) (numbered_lines c.next.new.self) (sym c.is_skipped.ensures ∙ c.if-not-is_skipped.true) (sym c.in_ok-event.ensures ∙ c.in-None-2.is)))

pub loop-line-preserved : goal.loop-line-preserved
loop-line-preserved c =
    c.loop-line.invariant
    ∙ (ap (λ (ls : List NumberedLine). joined c.loop-line.events.items (spelled_in (line_event c.args.living) (told_lines ls))) c.in-Some.ensures.steps
    ∙ ap (joined c.loop-line.events.items)
    (line_skipped (line_event c.args.living) (c.in-Some.line.number, c.in-Some.line.text.now) (numbered_lines c.next.new.self) (sym c.is_skipped.ensures ∙ c.if-not-is_skipped.false)))

pub returns-clause-read : goal.returns-clause-read
returns-clause-read c =
    c.loop-line.invariant
    ∙ (ap (λ (ls : List NumberedLine). joined c.loop-line.events.items (spelled_in (line_event c.args.living) (told_lines ls))) c.in-None.ensures.steps.0
    ∙ (ap (joined c.loop-line.events.items) (no_lines (line_event c.args.living)) ∙ ap (λ (es : List Event). Ok es) (append-nil c.loop-line.events.items)))

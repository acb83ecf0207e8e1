use Rattle.std.proofs.Common.{List, sym, ap, ◌∙◌}
use Rattle.input_text.specs.Lines.{numbered_lines}
use Rattle.schedule.specs.Reading.{NumberedLine, told_lines}
use Rattle.schedule.proofs.RunLists.{going, command_taken, neither_taken, none_left}
use Rattle.schedule.proofs.runs.read_run.Goals as goal

pub loop-line-preserved-in-Continue-branch-6 : goal.loop-line-preserved-in-Continue-branch-6
loop-line-preserved-in-Continue-branch-6 c =
    let none = rw c.as_slice.ensures.value at (sym c.in_ok-fault.ensures ∙ c.in-None-2.is) in
    rw (c.in_ok-push-in-Some-3.ensures.items)
    (c.loop-line.invariant
    ∙ (ap (λ (ls : List NumberedLine). going c.loop-line.faults.items c.loop-line.commands.items (told_lines ls)) c.in-Some.ensures.steps
    ∙ command_taken c.loop-line.faults.items c.loop-line.commands.items (c.in-Some.line.number, c.in-Some.line.text.now) (numbered_lines c.next.new.self) c.in-Some-3.command
    (sym c.is_skipped.ensures ∙ c.if-not-is_skipped.true) none (sym c.in_ok-command-in-None-2.ensures ∙ c.in-Some-3.is)))

pub returns-in-None-3-clause-refused : goal.returns-in-None-3-clause-refused
returns-in-None-3-clause-refused c =
    let none = rw c.as_slice.ensures.value at (sym c.in_ok-fault.ensures ∙ c.in-None-2.is) in
    c.loop-line.invariant
    ∙ (ap (λ (ls : List NumberedLine). going c.loop-line.faults.items c.loop-line.commands.items (told_lines ls)) c.in-Some.ensures.steps
    ∙ neither_taken c.loop-line.faults.items c.loop-line.commands.items (c.in-Some.line.number, c.in-Some.line.text.now) (numbered_lines c.next.new.self)
    (sym c.is_skipped.ensures ∙ c.if-not-is_skipped.true) none (sym c.in_ok-command-in-None-2.ensures ∙ c.in-None-3.is))

pub returns-clause-read : goal.returns-clause-read
returns-clause-read c =
    c.loop-line.invariant
    ∙ (ap (λ (ls : List NumberedLine). going c.loop-line.faults.items c.loop-line.commands.items (told_lines ls)) c.in-None.ensures.steps.0
    ∙ none_left c.loop-line.faults.items c.loop-line.commands.items)

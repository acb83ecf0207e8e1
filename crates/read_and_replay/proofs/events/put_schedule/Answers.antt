use Rattle.std.proofs.Common.{◌≡◌, ◌+◌, ◌<◌, List, refl, sym, ap, ◌∙◌, subst, arith}
use Rattle.std.specs.Str.Lines.{lines}
use Rattle.input_text.specs.Lines.{LinesLeft, numbered_lines}
use Rattle.world_core.specs.Parts.{context_of}
use Rattle.schedule.specs.Events.{event_of}
use Rattle.schedule.specs.Reading.{NumberedLine, told_lines, spelled_in, events_of}
use Rattle.schedule.proofs.EventLists.{line_skipped, line_taken, line_bad, no_lines}
use Rattle.read_and_replay.proofs.RunLines.{run_on, run_goes_on, run_stops, run_ends, IsBelowNext, first_below, next_below}
use Rattle.read_and_replay.proofs.events.put_schedule.Goals as goal

pub loop-line-init : goal.loop-line-init
loop-line-init c =
    let start : c.into_iter-line-iterator.result ≡ record { number = 1; bytes = c.args.text.now } = c.into_iter-line-iterator.ensures.into_iter_gives ∙ c.new-line-items.ensures in
    record {
      run = ap (λ (left : LinesLeft). run_on (context_of c.args.world.now) c.args.out.now.items c.args.world.now.world 1 (spelled_in event_of (told_lines (numbered_lines left)))) start;
      routes = refl;
      below = subst (λ (left : LinesLeft). IsBelowNext 0 (numbered_lines left)) (sym start) (first_below (lines c.args.text.now));
    }

pub loop-line-preserved-in-Continue-branch-3 : goal.loop-line-preserved-in-Continue-branch-3
loop-line-preserved-in-Continue-branch-3 c =
    let ctx = context_of c.args.world.now in
    let l = c.loop-line in
    let line : NumberedLine = (c.in-Some.line.number, c.in-Some.line.text.now) in
    let next = numbered_lines c.next.new.self in
    let here : l.made < c.in-Some.line.number = subst (IsBelowNext l.made) c.in-Some.ensures.steps l.invariant.below in
    let same = l.invariant.routes in
    let told = rw same at c.in_ok-put_made-in-Some-2.ensures.line in
    let made = rw same at c.in_ok-put_made-in-Some-2.ensures.made in
    let taken = ap (λ (ls : List NumberedLine). spelled_in event_of (told_lines ls)) c.in-Some.ensures.steps
    ∙ line_taken event_of line next c.in-Some-2.event (sym c.is_skipped.ensures ∙ c.if-not-is_skipped.true) (sym c.in_ok-event.ensures ∙ c.in-Some-2.is) in
    record {
      run = run_goes_on ctx l.out.items c.put_made.new.out.items l.world.world c.put_made.new.world.world (l.made + 1) c.in-Some-2.event (spelled_in event_of (told_lines next)) told made
          ∙ (sym (ap (run_on ctx l.out.items l.world.world (l.made + 1)) taken) ∙ l.invariant.run);
      routes = c.put_made.ensures.routes ∙ same;
      below = next_below l.line-iterator.number (lines l.line-iterator.bytes) line next (l.made + 1) c.in-Some.ensures.steps (omega (arith, here));
    }

pub loop-line-preserved : goal.loop-line-preserved
loop-line-preserved c =
    let ctx = context_of c.args.world.now in
    let l = c.loop-line in
    let line : NumberedLine = (c.in-Some.line.number, c.in-Some.line.text.now) in
    let next = numbered_lines c.next.new.self in
    let here : l.made < c.in-Some.line.number = subst (IsBelowNext l.made) c.in-Some.ensures.steps l.invariant.below in
    let skipped = ap (λ (ls : List NumberedLine). spelled_in event_of (told_lines ls)) c.in-Some.ensures.steps
    ∙ line_skipped event_of line next (sym c.is_skipped.ensures ∙ c.if-not-is_skipped.false) in
    record {
      run = sym (ap (run_on ctx l.out.items l.world.world (l.made + 1)) skipped) ∙ l.invariant.run;
      routes = l.invariant.routes;
      below = next_below l.line-iterator.number (lines l.line-iterator.bytes) line next l.made c.in-Some.ensures.steps (omega (arith, here));
    }

pub returns-in-None-2-clause-refused : goal.returns-in-None-2-clause-refused
returns-in-None-2-clause-refused c =
    let ctx = context_of c.args.world.now in
    let l = c.loop-line in
    let line : NumberedLine = (c.in-Some.line.number, c.in-Some.line.text.now) in
    let next = numbered_lines c.next.new.self in
    let bad = ap (λ (ls : List NumberedLine). spelled_in event_of (told_lines ls)) c.in-Some.ensures.steps
    ∙ line_bad event_of line next (sym c.is_skipped.ensures ∙ c.if-not-is_skipped.true) (sym c.in_ok-event.ensures ∙ c.in-None-2.is) in
    run_stops ctx c.args.out.now.items c.args.world.now.world 1 c.in-Some.line.number (events_of (lines c.args.text.now)) (sym (ap (run_on ctx l.out.items l.world.world (l.made + 1)) bad) ∙ l.invariant.run)

pub returns-clause-run : goal.returns-clause-run
returns-clause-run c =
    let ctx = context_of c.args.world.now in
    let l = c.loop-line in
    let none = ap (λ (ls : List NumberedLine). spelled_in event_of (told_lines ls)) c.in-None.ensures.steps.0 ∙ no_lines event_of in
    run_ends c.args.world.now l.world c.args.out.now.items l.out.items (events_of (lines c.args.text.now)) (l.made + 1) (sym (ap (run_on ctx l.out.items l.world.world (l.made + 1)) none) ∙ l.invariant.run) l.invariant.routes

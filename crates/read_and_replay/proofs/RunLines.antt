-- The events of lines, each made as its line is read.
use Rattle.std.proofs.Common.{◌≡◌, ℕ, ◌+◌, ◌<◌, ◌≤◌, List, [], ◌∷◌, ◌++◌, length, map, append-nil, Result, Ok, Err, refl, sym, ap, ◌∙◌, arith}
use Rattle.std.specs.List.{enumerate_from}
use Rattle.std.specs.Str.Lines.{lines}
use Rattle.bin_routes.specs.Table.{RouteMaps}
use Rattle.claim_model.specs.Bytes.{bytes_with}
use Rattle.claim_model.specs.Context.{Context}
use Rattle.claim_model.specs.World.{World, Event as SeenEvent, step, world_after, run}
use Rattle.world_setup.specs.declared.event.Event.{Event}
use Rattle.world_setup.specs.Seen.{event_seen}
use Rattle.world_core.specs.Parts.{WorldParts, context_of}
use Rattle.world_report.specs.Words.{line_text, lines_text}
use Rattle.world_report.specs.Events.{event_line}
use Rattle.world_report.specs.Nodes.{world_lines}
use Rattle.world_report.proofs.JoinedWords.{lines_join, lines_text-nil}
use Rattle.world_report.proofs.Joining.{lines_join as blocks_join}
use Rattle.schedule.specs.Division.{schedule_lines}
use Rattle.schedule.specs.Reading.{NumberedLine, events_of}
use Rattle.schedule.proofs.EventLists.{joined}
use Rattle.program_io.specs.declared.fault.CheckFault.{CheckFault}
use Rattle.program_io.specs.declared.fault.CheckFault.TheVariants as check
use Rattle.program_io.specs.Stops.{RefusedFor}
use Rattle.program_io.specs.Scheduled.{scheduled_of}
use Rattle.read_and_replay.proofs.Begun.{scheduled_is}
use Rattle.read_and_replay.specs.Events.{event_lines, run_lines}
use Rattle.read_and_replay.specs.Replays.{report_of, replay_of, IsRun, IsRunOf}

-- what a text and a world come to with the events of some lines, the first of this number: the events' lines after the text, and the world after them
abbrev pub run_on : Context → List ℕ → World → ℕ → Result (List Event) ℕ → Result (List ℕ × World) ℕ
run_on ctx out w number (Ok events) = Ok (out ++ lines_text (event_lines ctx w number (map event_seen events)), run ctx w (map event_seen events))
run_on ctx out w number (Err line) = Err line

-- one event, and those after it
pub run_goes_on : (ctx : Context) (out now : List ℕ) (w v : World) (number : ℕ) (event : Event) (r : Result (List Event) ℕ)
    → now ≡ out ++ line_text (event_line number (length w.packets) (step ctx w (event_seen event))) → v ≡ world_after w (step ctx w (event_seen event))
    → run_on ctx now v (number + 1) r ≡ run_on ctx out w number (joined (event ∷ []) r)
run_goes_on ctx out now w v number event (Err line) one made = refl
run_goes_on ctx out now w v number event (Ok events) one made =
    let others = λ (u : World). event_lines ctx u (number + 1) (map event_seen events) in
    let text = lines_join out now (now ++ lines_text (others v)) (event_line number (length w.packets) (step ctx w (event_seen event))) (others v) one refl in
    ap (λ (t : List ℕ). Ok (t, run ctx v (map event_seen events))) text
    ∙ ap (λ (u : World). Ok (out ++ lines_text (event_line number (length w.packets) (step ctx w (event_seen event)) ∷ others u), run ctx u (map event_seen events))) made

-- a line that spells none
pub run_stops : (ctx : Context) (out : List ℕ) (w : World) (number line : ℕ) (r : Result (List Event) ℕ) → Err line ≡ run_on ctx out w number r → r ≡ Err line
run_stops ctx out w number line (Ok events) e = absurd cc
run_stops ctx out w number line (Err other) e = cc

-- no line is left
pub run_ends : (before after : WorldParts) (out now : List ℕ) (r : Result (List Event) ℕ) (number : ℕ) → run_on (context_of before) now after.world number (Ok []) ≡ run_on (context_of before) out before.world 1 r
    → after.routes ≡ before.routes → IsRun r out before now after
run_ends before after out now (Err line) number e routes = absurd cc
run_ends before after out now (Ok events) number e routes =
    let told = now ++ lines_text (event_lines (context_of before) after.world number []) in
    let all = out ++ lines_text (event_lines (context_of before) before.world 1 (map event_seen events)) in
    let last = run (context_of before) before.world (map event_seen events) in
    let pairs : ◌≡◌ {A = List ℕ × World} (told, after.world) (all, last) = cc in
    record {
      lines = sym (append-nil now) ∙ (ap (λ (t : List ℕ). now ++ t) (sym lines_text-nil) ∙ ap (λ (p : List ℕ × World). p.0) pairs);
      world = ap (λ (p : List ℕ × World). p.1) pairs;
      routes = routes;
    }

-- numbers of lines

-- the number is below that of the next line, where there is one
abbrev pub IsBelowNext : ℕ → List NumberedLine → Type 0
IsBelowNext made [] = Unit {0}
IsBelowNext made (line ∷ more) = made < line.0

pub first_below : (all : List (List ℕ)) → IsBelowNext 0 (enumerate_from 1 all)
first_below [] = tt
first_below (line ∷ more) = omega arith

pub next_below : (first : ℕ) (all : List (List ℕ)) (line : NumberedLine) (more : List NumberedLine) (made : ℕ) → enumerate_from first all ≡ line ∷ more → made ≤ line.0 → IsBelowNext made more
next_below first all line [] made e le = tt
next_below first [] line (other ∷ more) made e le = absurd cc
next_below first (a ∷ []) line (other ∷ more) made e le = absurd cc
next_below first (a ∷ (b ∷ all)) line (other ∷ more) made e le =
    let one : ◌≡◌ {A = NumberedLine} (first, a) line = cc in
    let tail : enumerate_from (first + 1) (b ∷ all) ≡ other ∷ more = cc in
    let two : ◌≡◌ {A = NumberedLine} (first + 1, b) other = cc in
    omega (arith, ap (λ (l : NumberedLine). l.0) one, ap (λ (l : NumberedLine). l.0) two)

-- what is bad in what an input begins with is bad in the input
pub refused_too : (fault : CheckFault) (input : List ℕ) → RefusedFor fault (scheduled_of input) → RefusedFor fault (replay_of input)
unfolding replay_of
refused_too check.OutOfMemory input is = tt
refused_too (check.Input why) input is = ap report_of is

-- the events and the nodes after them
report_joins : (ctx : Context) (w : World) (events : List SeenEvent) (b c : List ℕ) → b ≡ [] ++ lines_text (event_lines ctx w 1 events) → c ≡ b ++ lines_text (world_lines ctx (run ctx w events))
    → c ≡ lines_text (run_lines ctx w events)
unfolding run_lines
report_joins ctx w events b c one two = blocks_join [] b c (event_lines ctx w 1 events) (world_lines ctx (run ctx w events)) one two

-- the lines of the nodes after those of the events
pub run_is_told : (input told report : List ℕ) (after : WorldParts) → IsRunOf input told after → report ≡ told ++ lines_text (world_lines (context_of after) after.world) → replay_of input ≡ Ok report
unfolding replay_of
run_is_told input told report after r is = by_lines (events_of (schedule_lines (lines input))) refl r.run
  where
    by_lines : (spelled : Result (List Event) ℕ) → events_of (schedule_lines (lines input)) ≡ spelled → IsRun spelled [] r.before told after → replay_of input ≡ Ok report
    by_lines (Err line) spells run = absurd run
    by_lines (Ok events) spells run =
        let ctx = context_of r.before in
        let whole = report_joins ctx r.before.world (map event_seen events) told report run.lines
        (is ∙ ap (λ (routes : RouteMaps). told ++ lines_text (world_lines (bytes_with routes) after.world)) run.routes ∙ ap (λ (u : World). told ++ lines_text (world_lines ctx u)) run.world) in
        ap report_of (scheduled_is input r.before events r.opens spells) ∙ ap (λ (t : List ℕ). Ok t) (sym whole)

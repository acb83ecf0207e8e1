use Rattle.std.proofs.Common.{◌≡◌, ◌+◌, ◌-◌, ◌<◌, ◌≤◌, ◌++◌, [], length, take, drop, ◌∷◌, slice_index, slice_set, Some, None, sym, ap, ◌∙◌, arith}
use Rattle.std.proofs.lemmas.List.{length-drop, take_more_set, length-set}
use Rattle.std.proofs.lemmas.Slice.{between_to_end}
use Rattle.input_text.specs.Printing.{first_spelling, unprinted, unprinted_from}
use Rattle.input_text.proofs.Reading.{onto_all, goes_on, stops, is_done}
use Rattle.input_text.proofs.Runs.{IsRun, runs_on, drop_two}
use Rattle.input_text.proofs.unprinting.unprint_over.Goals as goal
use Rattle.input_text.proofs.unprinting.unprint_over.Goals.{After-copy_run-run}

-- the run is read
run_read : (c : After-copy_run-run)
    → onto_all (take (c.loop-place.end + c.copy_run-run.result) c.copy_run-run.new.out) (unprinted_from (c.loop-place.place + c.copy_run-run.result) 0 (drop (c.loop-place.place + c.copy_run-run.result) c.args.text.now))
    ≡ unprinted c.args.text.now
run_read c =
    let text = c.args.text.now in
    let place = c.loop-place.place in
    let size = c.copy_run-run.result in
    let front = take c.loop-place.end c.loop-place.out in
    let rest : take (length text - place) (drop place text) ≡ drop place text = between_to_end text place (length text) (omega arith) in
    let run : IsRun (take size (drop place text)) = rw rest at c.copy_run-run.ensures.plain in
    let fits : size ≤ length (drop place text) = omega (arith, length-drop place text, c.copy_run-run.ensures.within) in
    let copied : take (c.loop-place.end + size) c.copy_run-run.new.out ≡ front ++ take size (drop place text) = rw rest at c.copy_run-run.ensures.copied in
    rw copied (runs_on front text place size (unprinted text) run fits c.loop-place.invariant.read)

pub loop-place-preserved-then-run-eq-LANES : goal.loop-place-preserved-then-run-eq-LANES
loop-place-preserved-then-run-eq-LANES c =
    let d = (goal.at.loop-place-preserved-then-run-eq-LANES c).After-copy_run-run in record {
      within = omega (arith, c.copy_run-run.ensures.within);
      read = run_read d;
      behind = omega arith;
      len = c.copy_run-run.ensures.len ∙ c.loop-place.invariant.len;
    }

pub loop-place-preserved-in-Some : goal.loop-place-preserved-in-Some
loop-place-preserved-in-Some c =
    let d = (goal.at.loop-place-preserved-in-Some c).After-copy_run-run in
    let text = c.args.text.now in
    let place = c.loop-place.place + c.copy_run-run.result in
    let end = c.loop-place.end + c.copy_run-run.result in
    let out = c.copy_run-run.new.out in
    let byte = c.in-Some.separator in
    let len = c.copy_run-run.ensures.len ∙ c.loop-place.invariant.len in
    let two : place + 2 ≤ length text = omega (arith, c.copy_run-run.ensures.within, c.if-run-eq-LANES.false) in
    let front : drop place text ≡ slice_index text place ∷ slice_index text (place + 1) ∷ drop (place + 2) text = drop_two text place two in
    let spelled : first_spelling (drop place text) ≡ Some (byte, 2) = ap first_spelling front ∙ c.in-Some.ensures (drop (place + 2) text) in
    let written = take_more_set out end byte (omega (arith, len)) in record {
      within = two;
      read = rw written (goes_on (take end out) text place byte 2 (unprinted text) spelled (omega arith) (omega (arith, length-drop place text)) (run_read d));
      behind = omega arith;
      len = length-set out end byte ∙ len;
    }

pub loop-place-preserved : goal.loop-place-preserved
loop-place-preserved c =
    let d = (goal.at.loop-place-preserved c).After-copy_run-run in
    let text = c.args.text.now in
    let place = c.loop-place.place + c.copy_run-run.result in
    let end = c.loop-place.end + c.copy_run-run.result in
    let out = c.copy_run-run.new.out in
    let len = c.copy_run-run.ensures.len ∙ c.loop-place.invariant.len in
    let rest : take (length text - place) (drop place text) ≡ drop place text = between_to_end text place (length text) (omega arith) in
    let spelled : first_spelling (drop place text) ≡ Some (c.in-Some-first_spelling.byte, c.in-Some-first_spelling.size) = ap first_spelling (sym rest) ∙ sym c.in-Some-first_spelling.ensures.value in
    let fits : c.in-Some-first_spelling.size ≤ length (drop place text) = rw rest at c.in-Some-first_spelling.ensures.size.1 in
    let written = take_more_set out end c.in-Some-first_spelling.byte (omega (arith, len, c.copy_run-run.ensures.within, c.if-run-eq-LANES.false)) in record {
      within = omega (arith, length-drop place text);
      read = rw written (goes_on (take end out) text place c.in-Some-first_spelling.byte c.in-Some-first_spelling.size (unprinted text) spelled c.in-Some-first_spelling.ensures.size.0 fits (run_read d));
      behind = omega (arith, c.in-Some-first_spelling.ensures.size.0);
      len = length-set out end c.in-Some-first_spelling.byte ∙ len;
    }

pub loop-place-preserved-in-Some-separator_at : goal.loop-place-preserved-in-Some-separator_at
loop-place-preserved-in-Some-separator_at c =
    let d = (goal.at.loop-place-preserved-in-Some-separator_at c).After-copy_run-run in
    let text = c.args.text.now in
    let place = c.loop-place.place + c.copy_run-run.result in
    let end = c.loop-place.end + c.copy_run-run.result in
    let out = c.copy_run-run.new.out in
    let byte = c.in-Some-first_spelling.byte in
    let size = c.in-Some-first_spelling.size in
    let separator = c.in-Some-separator_at.separator in
    let len = c.copy_run-run.ensures.len ∙ c.loop-place.invariant.len in
    let rest : take (length text - place) (drop place text) ≡ drop place text = between_to_end text place (length text) (omega arith) in
    let spelled : first_spelling (drop place text) ≡ Some (byte, size) = ap first_spelling (sym rest) ∙ sym c.in-Some-first_spelling.ensures.value in
    let fits : size ≤ length (drop place text) = rw rest at c.in-Some-first_spelling.ensures.size.1 in
    let inside : end < length out = omega (arith, len, c.copy_run-run.ensures.within, c.if-run-eq-LANES.false) in
    let so_far : onto_all (take end out ++ byte ∷ []) (unprinted_from (place + size) 0 (drop (place + size) text)) ≡ unprinted text = goes_on (take end out) text place byte size (unprinted text) spelled c.in-Some-first_spelling.ensures.size.0 fits (run_read d) in
    let first : onto_all (take (end + 1) (slice_set out end byte)) (unprinted_from (place + size) 0 (drop (place + size) text)) ≡ unprinted text = rw (take_more_set out end byte inside) so_far in
    let next = slice_set out end byte in
    let next_len : length next ≡ length out = length-set out end byte in
    let within = c.in-Some-separator_at.ensures.within in
    let written = take_more_set next (end + 1) separator (omega (arith, len, next_len, within, c.in-Some-first_spelling.ensures.size.0)) in record {
      within = within;
      read = rw written (goes_on (take (end + 1) next) text (place + size) separator 2 (unprinted text) c.in-Some-separator_at.ensures.spelled (omega arith) (omega (arith, length-drop (place + size) text, within)) first);
      behind = omega (arith, c.in-Some-first_spelling.ensures.size.0);
      len = length-set next (end + 1) separator ∙ next_len ∙ len;
    }

pub returns-in-None : goal.returns-in-None
returns-in-None c =
    let d = (goal.at.returns-in-None c).After-copy_run-run in
    let text = c.args.text.now in
    let place = c.loop-place.place + c.copy_run-run.result in
    let end = c.loop-place.end + c.copy_run-run.result in
    let none : first_spelling (drop place text) ≡ None = ap first_spelling (sym (between_to_end text place (length text) (omega arith))) ∙ sym c.in-None.ensures.value in
    stops (take end c.copy_run-run.new.out) text place (unprinted text) (omega (arith, c.copy_run-run.ensures.within, c.if-run-eq-LANES.false)) none (run_read d)

pub loop-place-2-preserved : goal.loop-place-2-preserved
loop-place-2-preserved c =
    let text = c.args.text.now in
    let place = c.loop-place-2.place in
    let end = c.loop-place-2.end in
    let out = c.loop-place-2.out in
    let len = c.loop-place-2.invariant.len in
    let rest : take (length text - place) (drop place text) ≡ drop place text = between_to_end text place (length text) (omega arith) in
    let spelled : first_spelling (drop place text) ≡ Some (c.in-Some-first_spelling-2.byte, c.in-Some-first_spelling-2.size) = ap first_spelling (sym rest) ∙ sym c.in-Some-first_spelling-2.ensures.value in
    let fits : c.in-Some-first_spelling-2.size ≤ length (drop place text) = rw rest at c.in-Some-first_spelling-2.ensures.size.1 in
    let written = take_more_set out end c.in-Some-first_spelling-2.byte (omega (arith, len)) in record {
      within = omega (arith, length-drop place text);
      read = rw written (goes_on (take end out) text place c.in-Some-first_spelling-2.byte c.in-Some-first_spelling-2.size (unprinted text) spelled c.in-Some-first_spelling-2.ensures.size.0 fits c.loop-place-2.invariant.read);
      behind = omega (arith, c.in-Some-first_spelling-2.ensures.size.0);
      len = length-set out end c.in-Some-first_spelling-2.byte ∙ len;
    }

pub returns-in-None-first_spelling : goal.returns-in-None-first_spelling
returns-in-None-first_spelling c =
    let text = c.args.text.now in
    let place = c.loop-place-2.place in
    let none : first_spelling (drop place text) ≡ None = ap first_spelling (sym (between_to_end text place (length text) (omega arith))) ∙ sym c.in-None-first_spelling.ensures.value in
    stops (take c.loop-place-2.end c.loop-place-2.out) text place (unprinted text) (omega arith) none c.loop-place-2.invariant.read

pub returns : goal.returns
returns c = is_done (take c.loop-place-2.end c.loop-place-2.out) c.args.text.now c.loop-place-2.place (unprinted c.args.text.now) (omega arith) c.loop-place-2.invariant.read

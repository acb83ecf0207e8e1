use Rattle.std.proofs.Common.{◌≡◌, ◌+◌, ◌-◌, ◌<◌, ◌++◌, List, ℕ, length, take, drop, slice_index, ap, ◌∙◌, arith}
use Rattle.std.proofs.lemmas.Slice.{between_to_end}
use Rattle.input_text.specs.Printing.{printed, printed_byte}
use Rattle.input_text.proofs.Runs.{IsRun, prints_on, prints_byte, prints_all}
use Rattle.input_text.proofs.printing.print.Goals as goal
use Rattle.input_text.proofs.printing.print.Goals.{After-copy_run-run}

-- the run is written
run_put : (c : After-copy_run-run) → take (c.loop-place.end + c.copy_run-run.result) c.copy_run-run.new.out ≡ take c.args.from c.args.out.now ++ printed (take (c.loop-place.place + c.copy_run-run.result) c.args.bytes.now)
run_put c =
    let text = c.args.bytes.now in
    let place = c.loop-place.place in
    let size = c.copy_run-run.result in
    let rest : take (length text - place) (drop place text) ≡ drop place text = between_to_end text place (length text) (omega arith) in
    let run : IsRun (take size (drop place text)) = rw rest at c.copy_run-run.ensures.plain in
    (rw rest at c.copy_run-run.ensures.copied)
    ∙ (ap (λ (front : List ℕ). front ++ take size (drop place text)) c.loop-place.invariant.put ∙ prints_on (take c.args.from c.args.out.now) text place size run)

pub loop-place-preserved-then-run-eq-LANES : goal.loop-place-preserved-then-run-eq-LANES
loop-place-preserved-then-run-eq-LANES c =
    let d = (goal.at.loop-place-preserved-then-run-eq-LANES c).After-copy_run-run in record {
      within = omega (arith, c.copy_run-run.ensures.within);
      put = run_put d;
      room = omega (arith, c.copy_run-run.ensures.within);
      len = c.copy_run-run.ensures.len ∙ c.loop-place.invariant.len;
    }

pub loop-place-preserved-then-is_followed : goal.loop-place-preserved-then-is_followed
loop-place-preserved-then-is_followed c =
    let d = (goal.at.loop-place-preserved-then-is_followed c).After-copy_run-run in
    let text = c.args.bytes.now in
    let before = take c.args.from c.args.out.now in
    let place = c.loop-place.place + c.copy_run-run.result in
    let inside : place < length text = omega (arith, c.copy_run-run.ensures.within, c.if-run-eq-LANES.false) in
    let next : place + 1 < length text = c.is_followed.ensures c.if-is_followed.true in
    let first =
    c.put_byte-end.ensures.text
    ∙ (ap (λ (front : List ℕ). front ++ printed_byte (slice_index text place)) (run_put d) ∙ prints_byte before text place inside) in record {
      within = omega arith;
      put =
          c.put_byte-end-then-is_followed.ensures.text
          ∙ (ap (λ (front : List ℕ). front ++ printed_byte (slice_index text (place + 1))) first ∙ prints_byte before text (place + 1) next);
      room = omega (arith, c.put_byte-end.ensures.most, c.put_byte-end-then-is_followed.ensures.most);
      len = c.put_byte-end-then-is_followed.ensures.len ∙ (c.put_byte-end.ensures.len ∙ (c.copy_run-run.ensures.len ∙ c.loop-place.invariant.len));
    }

pub loop-place-preserved : goal.loop-place-preserved
loop-place-preserved c =
    let d = (goal.at.loop-place-preserved c).After-copy_run-run in
    let place = c.loop-place.place + c.copy_run-run.result in
    let inside : place < length c.args.bytes.now = omega (arith, c.copy_run-run.ensures.within, c.if-run-eq-LANES.false) in record {
      within = omega arith;
      put =
          c.put_byte-end.ensures.text
          ∙ (ap (λ (front : List ℕ). front ++ printed_byte (slice_index c.args.bytes.now place)) (run_put d) ∙ prints_byte (take c.args.from c.args.out.now) c.args.bytes.now place inside);
      room = omega (arith, c.put_byte-end.ensures.most);
      len = c.put_byte-end.ensures.len ∙ (c.copy_run-run.ensures.len ∙ c.loop-place.invariant.len);
    }

pub returns : goal.returns
returns c =
    let text = c.args.bytes.now in
    let place = c.loop-place.place in
    let rest : take (length text - place) (drop place text) ≡ drop place text = between_to_end text place (length text) (omega arith) in
    (rw rest at c.print_rest.ensures)
    ∙ (ap (λ (front : List ℕ). front ++ printed (drop place text)) c.loop-place.invariant.put ∙ prints_all (take c.args.from c.args.out.now) text place)

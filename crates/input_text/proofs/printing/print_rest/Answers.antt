use Rattle.std.proofs.Common.{◌≡◌, ◌+◌, ◌∷◌, [], ◌++◌, List, ℕ, take, slice_index, sym, ap, ◌∙◌, arith}
use Rattle.std.proofs.lemmas.List.{take_more_set, length-set}
use Rattle.input_text.specs.Printing.{printed, printed_byte}
use Rattle.input_text.proofs.Runs.{plain_printed, prints_byte}
use Rattle.input_text.proofs.printing.print_rest.Goals as goal

pub loop-byte-preserved-then-stands_for_itself : goal.loop-byte-preserved-then-stands_for_itself
loop-byte-preserved-then-stands_for_itself c =
    let text = c.args.bytes.now in
    let place = c.loop-byte.byte-index in
    let end = c.loop-byte.end in
    let out = c.loop-byte.out in
    let byte = slice_index text place in
    let front = take c.args.from c.args.out.now in
    let plain : printed_byte byte ≡ byte ∷ [] = plain_printed byte (sym c.stands_for_itself.ensures ∙ c.if-stands_for_itself.true) in
    let more : (front ++ printed (take place text)) ++ byte ∷ [] ≡ front ++ printed (take (place + 1) text) = rw plain at (prints_byte front text place (omega arith)) in record {
      put =
          take_more_set out end byte (omega (arith, c.loop-byte.invariant.len, c.loop-byte.invariant.room))
          ∙ (ap (λ (bs : List ℕ). bs ++ byte ∷ []) c.loop-byte.invariant.put ∙ more);
      room = omega arith;
      len = length-set out end byte ∙ c.loop-byte.invariant.len;
    }

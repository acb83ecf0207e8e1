use Rattle.std.proofs.Common.{drop, length, arith, inl, inr, length-append, length-take, rules}
use Rattle.std.proofs.lemmas.Grind.{common_steps}
use Rattle.program_io.proofs.KnownInput.{Consumes-append, Consumes-bound, Consumes-end, take-room}
use Rattle.program_io.proofs.input.read_all.Goals as goal

pub returns-in-Err-clause-fault : goal.returns-in-Err-clause-fault
returns-in-Err-clause-fault g c = λ _. inl c.in-Err.ensures.fails

pub returns-then-count-eq0-clause-all : goal.returns-then-count-eq0-clause-all
returns-then-count-eq0-clause-all g c =
    Consumes-end _ _ _ _ _ _ c.loop.invariant.front c.in-Ok.ensures.bytes (search rules) (search rules)

pub returns-then-len-count-gt-MOST_INPUT-clause-fault :
    goal.returns-then-len-count-gt-MOST_INPUT-clause-fault
returns-then-len-count-gt-MOST_INPUT-clause-fault g c = λ _. inr (
    let all = Consumes-append _ _ _ _ _ c.loop.invariant.front c.in-Ok.ensures.bytes.0 in
    Consumes-bound _ _ _ 16777216 all (grind (arith, length-append, length-take)))

pub loop-preserved : goal.loop-preserved
loop-preserved g c = record {
  front =
      let all = Consumes-append _ _ _ _ _ c.loop.invariant.front c.in-Ok.ensures.bytes.0 in
      let e1 = c.in_ok-extend_from_slice.ensures.items in
      let e2 = c.as_slice.ensures.value in
      let e3 = take-room c.in-Ok.count c.loop.chunk.len c.read.new.buffer (drop (length c.read.new.buffer) c.loop.chunk.items) (search rules) (grind (arith, common_steps)) in
      rw e1 (rw e2 (rw e3 all));
  fits = grind (arith, common_steps);
  counted = grind (arith, common_steps);
  room = grind (arith, common_steps);
  some = grind (arith, common_steps);
}

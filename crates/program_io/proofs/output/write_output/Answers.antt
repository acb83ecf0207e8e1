use Rattle.std.proofs.Common.{arith, ◌∙◌}
use Rattle.std.proofs.lemmas.Grind.{common_steps}
use Rattle.program_io.proofs.KnownOutput.{Appends-append, take-next}
use Rattle.program_io.proofs.output.write_output.Goals as goal

pub loop-written-preserved : goal.loop-written-preserved
loop-written-preserved g c = record {
  within = grind (arith, common_steps);
  front =
      let all = Appends-append _ _ _ _ _ c.loop-written.invariant.front c.in-Ok.ensures.bytes in
      let e = take-next c.loop-written.written c.in-Ok.count c.args.bytes.now (grind (arith, common_steps)) in
      rw e at all;
  same_reference = c.in-Ok.ensures.same_reference ∙ c.loop-written.invariant.same_reference;
}

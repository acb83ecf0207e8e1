use Rattle.std.proofs.Common.{◌<◌, ℕ, length, ◌++◌, ◌∙◌, arith}
use Rattle.message_parts.specs.declared.part.PartKind.{PartKind}
use Rattle.message_parts.specs.declared.part.PartKind.TheVariants.{Header}
use Rattle.message_parts.specs.declared.names.FieldName.TheVariants.{Bin}
use Rattle.message_parts.specs.Steps.{head_parts}
use Rattle.message_parts.specs.Added.{next_bytes}
use Rattle.message_parts.proofs.Heads.{head_next, widths_next}
use Rattle.message_parts.proofs.transmissions.cut_head.Goals as goal

pub loop-kind-preserved : goal.loop-kind-preserved
loop-kind-preserved c =
    let none : PartKind × ℕ = (Header Bin, 0) in
    let lt : c.loop-kind.kind-index < length c.args.rows.now = omega arith in
    record {
      whole = c.in_ok-cut_some.ensures.whole ∙ c.loop-kind.invariant.whole;
      place = omega (arith, c.in_ok-cut_some.ensures.place, c.loop-kind.invariant.place, c.min-count.ensures);
      widths = omega (arith, c.loop-kind.invariant.widths, c.min-count.ensures, widths_next c.args.rows.now c.loop-kind.kind-index none lt);
      parts = head_next c.args.rows.now c.loop-kind.kind-index c.loop-kind.cutter c.cut_some.new.self none c.loop-kind.left c.min-count.result
          (c.args.cutter.now.parts ++ head_parts c.args.rows.now c.args.cutter.now.place (next_bytes c.args.cutter.now c.args.size)) lt
          c.min-count.ensures c.in_ok-cut_some.ensures.whole c.in_ok-cut_some.ensures.place c.in_ok-cut_some.ensures.parts c.loop-kind.invariant.parts;
    }

use Rattle.std.proofs.Common.{refl, arith, ap, length}
use Rattle.message_parts.specs.Parts.{Cut}
use Rattle.message_parts.proofs.Cutting.{pushed}
use Rattle.message_parts.proofs.cutter.Cutter.cut.Goals as goal

pub invariant_of-self-2 : goal.invariant_of-self-2
invariant_of-self-2 c =
    pushed c.self.inside.whole.now c.self.inside.place c.args.count c.self.inside.parts.items c.push.new.self.items _ c.args.kind
    c.self.invariant (omega (arith, c.requires, ap (λ (v : Cut). v.place) c.self.view_is, ap (λ (v : Cut). length v.whole) c.self.view_is)) c.in_ok-push.ensures.items refl c.stretch-bytes.ensures refl

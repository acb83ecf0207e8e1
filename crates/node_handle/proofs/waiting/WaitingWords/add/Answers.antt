use Rattle.std.proofs.Common.{length, arith}
use Rattle.std.proofs.lemmas.List.{length-append}
use Rattle.node_handle.specs.declared.waiting.Mark.{Mark}
use Rattle.node_handle.proofs.Marks.{pieces_more, sizes_more}
use Rattle.node_handle.proofs.waiting.WaitingWords.add.Goals as goal

pub invariant_of-self-2 : goal.invariant_of-self-2
invariant_of-self-2 c =
    let last : Mark = record { upto = c.args.upto; size = length c.args.text.now } in
    rw (c.push_reserved.ensures.items, c.reserve.ensures.items, c.in_ok-extend_from_slice.ensures.items)
    (omega (arith, sizes_more c.self.inside.marks.items last, c.self.invariant, length-append c.self.inside.bytes.items c.args.text.now))

pub returns : goal.returns
returns c =
    rw (c.push_reserved.ensures.items, c.reserve.ensures.items, c.in_ok-extend_from_slice.ensures.items, ← c.self.view_is)
    (pieces_more c.self.inside.marks.items c.args.upto c.self.inside.bytes.items c.args.text.now c.self.invariant)

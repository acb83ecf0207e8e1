use Rattle.std.proofs.Common.{◌++◌}
use Rattle.d0_segments.specs.Cursors.{segment_at}
use Rattle.d0_segments.specs.Pieces.{shared_of}
use Rattle.carried_fields.proofs.Appended.{further_in, next_segment_further, no_segment_further}
use Rattle.carried_fields.proofs.fields.put_further_fields.Goals as goal

pub loop-segment-preserved : goal.loop-segment-preserved
loop-segment-preserved c =
    let l = c.loop-segment in
    let s = c.in-Some.segment in
    rw (c.in_ok-put_further_of.ensures, c.fields-rest.ensures)
    (next_segment_further c.args.id l.text.items (shared_of l.rest.bytes.now) (shared_of s.fields.bytes.now) (segment_at s) (c.args.text.now.items ++ further_in c.args.id (shared_of c.args.group.bytes.now)) c.in-Some.ensures.segments l.invariant)

pub returns : goal.returns
returns c =
    let l = c.loop-segment in
    no_segment_further c.args.id l.text.items (shared_of l.rest.bytes.now) (c.args.text.now.items ++ further_in c.args.id (shared_of c.args.group.bytes.now)) c.in_default.ensures.segments l.invariant

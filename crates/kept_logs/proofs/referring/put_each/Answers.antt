use Rattle.std.proofs.Common.{◌+◌, drop, arith}
use Rattle.std.proofs.lemmas.List.{drop_all}
use Rattle.node_log.proofs.Lists.{left_at}
use Rattle.codec.proofs.Loops.{put_more, put_all}
use Rattle.kept_logs.specs.Rests.{reference_codec}
use Rattle.kept_logs.proofs.referring.put_each.Goals as goal

pub loop-one-preserved : goal.loop-one-preserved
loop-one-preserved c =
    let references = c.args.references.now in
    let i = c.loop-one.one-index in
    put_more {c = reference_codec} c.args.out.now.items c.loop-one.out.items c.put_reference.new.out.items references (drop i references) c.one-item.result (drop (i + 1) references)
    (left_at references i c.one-item.result (omega arith) c.one-item.is) c.in_ok-put_reference.ensures.text c.in_ok-put_reference.ensures.fits c.loop-one.invariant

pub returns-clause-text : goal.returns-clause-text
returns-clause-text c =
    let references = c.args.references.now in
    let i = c.loop-one.one-index in
    (put_all {c = reference_codec} c.args.out.now.items c.loop-one.out.items references (drop i references) (drop_all i references (omega arith)) c.loop-one.invariant).0

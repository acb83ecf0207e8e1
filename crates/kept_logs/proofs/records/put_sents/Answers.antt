use Rattle.std.proofs.Common.{◌+◌, map, drop, ap, arith}
use Rattle.std.proofs.lemmas.List.{drop_all}
use Rattle.world_setup.specs.Seen.{sent_seen}
use Rattle.node_log.proofs.Lists.{left_at}
use Rattle.codec.proofs.Loops.{put_more, put_all}
use Rattle.kept_logs.specs.Records.{sent_codec}
use Rattle.kept_logs.proofs.records.put_sents.Goals as goal

pub loop-one-preserved : goal.loop-one-preserved
loop-one-preserved c =
    let sent = c.args.sent.now in
    let i = c.loop-one.one-index in
    put_more {c = sent_codec} c.args.out.now.items c.loop-one.out.items c.put_sent.new.out.items (map sent_seen sent) (map sent_seen (drop i sent)) (sent_seen c.one-item.result) (map sent_seen (drop (i + 1) sent))
    (ap (map sent_seen) (left_at sent i c.one-item.result (omega arith) c.one-item.is)) c.in_ok-put_sent.ensures.text c.in_ok-put_sent.ensures.fits c.loop-one.invariant

pub returns-clause-text : goal.returns-clause-text
returns-clause-text c =
    let sent = c.args.sent.now in
    let i = c.loop-one.one-index in
    (put_all {c = sent_codec} c.args.out.now.items c.loop-one.out.items (map sent_seen sent) (map sent_seen (drop i sent)) (ap (map sent_seen) (drop_all i sent (omega arith))) c.loop-one.invariant).0

use Rattle.std.proofs.Common.{◌+◌, ◌++◌, ◌∙◌, map, drop, ap, subst, arith}
use Rattle.std.proofs.lemmas.List.{drop_all}
use Rattle.kept_logs.specs.Digests.{version_seen}
use Rattle.kept_logs.specs.Frames.{frame_text}
use Rattle.kept_logs.specs.Fits.{FitsStamped}
use Rattle.kept_logs.specs.Stamps.{Stamp, plain, stamped_text}
use Rattle.node_log.proofs.Lists.{left_at}
use Rattle.kept_logs.proofs.Loops.{calls_go_on, calls_end}
use Rattle.kept_logs.proofs.logs.put_records.Goals as goal

pub loop-place-preserved : goal.loop-place-preserved
loop-place-preserved c =
    let records = c.args.records.now in
    let i = c.loop-place.place in
    let one = c.index-records-place.result in
    let text = c.loop-place.text.items in
    calls_go_on (version_seen c.args.version) c.args.text.now.items text c.extend_from_slice.new.self.items (map plain records) (i + 1) (map plain (drop i records)) (plain c.index-records-place.result) (map plain (drop (i + 1) records))
    (ap (map plain) (left_at records i c.index-records-place.result (omega arith) c.index-records-place.is))
    (c.in_ok-extend_from_slice.ensures.items ∙ ap (λ t. text ++ t) (c.deref.ensures.value ∙ c.in_ok-bytes.ensures.text ∙ ap (λ (s : Stamp). frame_text (version_seen c.args.version) (i + 1) (stamped_text (record { logged = one; stamp = s }))) c.none.ensures)) (subst (λ (s : Stamp). FitsStamped (record { logged = one; stamp = s })) c.none.ensures c.in_ok-bytes.ensures.fits) c.loop-place.invariant

pub returns-clause-text : goal.returns-clause-text
returns-clause-text c =
    let records = c.args.records.now in
    let i = c.loop-place.place in
    (calls_end (version_seen c.args.version) c.args.text.now.items c.loop-place.text.items (map plain records) (i + 1) (map plain (drop i records)) (ap (map plain) (drop_all i records (omega arith))) c.loop-place.invariant).0

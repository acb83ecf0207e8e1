use Rattle.std.proofs.Common.{List, ℕ, [], subst}
use Rattle.growing_logs.specs.Judging.{IsJudged}
use Rattle.growing_logs.proofs.Stepping.{judged_none, judged_next}
use Rattle.growing_logs.proofs.judging.judge_all.Goals as goal

pub loop-place-init : goal.loop-place-init
loop-place-init g c =
    judged_none c.args.grown.now c.args.old.now c.args.new.now c.args.names.now (g.L.Logs.found c.args.logs.now) c.new-fates.result.items c.new-lines.result.items c.requires.unread c.new-fates.ensures.items c.new-lines.ensures.items

pub loop-place-preserved : goal.loop-place-preserved
loop-place-preserved g c =
    judged_next c.args.grown.now c.args.old.now c.args.new.now c.args.names.now c.loop-place.place (record { ref_ptr = (0, 0); now = [] }) c.as_bytes.result.now (g.L.Logs.found c.loop-place.logs) (g.L.Logs.found c.read.new.self)
    c.in_ok-bytes.bytes.items c.loop-place.fates.items c.push.new.self.items c.in_ok-fate.fate c.loop-place.lines.items c.judge.new.lines.items
    c.loop-place-test.true c.as_bytes.ensures.value c.in_ok-bytes.ensures.read c.in_ok-push.ensures.items c.loop-place.invariant
    (subst (λ (b : List ℕ). IsJudged c.args.grown.now c.args.old.now c.args.new.now c.as_bytes.result.now b c.in_ok-fate.fate c.loop-place.lines.items c.judge.new.lines.items) c.as_slice-log.ensures.value c.in_ok-fate.ensures)

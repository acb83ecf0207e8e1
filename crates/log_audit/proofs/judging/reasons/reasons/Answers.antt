use Rattle.std.proofs.lemmas.Result.{IfOk-weaker}
use Rattle.claim_model.specs.Bytes.{bytes_with}
use Rattle.node_log.specs.LogSeen.{logs_seen}
use Rattle.log_audit.specs.Waits.{IsWaitingText}
use Rattle.log_audit.specs.Reasons.{IsReasons}
use Rattle.log_audit.proofs.Reasoning.{nothing_is_there, something_is_there, missing_is_why, wrong_is_why, waiting_is_why}
use Rattle.log_audit.proofs.judging.reasons.reasons.Goals as goal
use Rattle.world_setup.specs.Taken.{routes_in}

pub returns-then-not-is_none : goal.returns-then-not-is_none
returns-then-not-is_none c =
    missing_is_why c.args.settings.now (logs_seen c.args.logs.now) c.args.manner c.in_ok-missing.missing.items c.in_ok-missing.ensures (something_is_there _ (rw c.as_slice.ensures.value at c.if-not-is_none.ensures))

pub returns-then-not-is_none-2 : goal.returns-then-not-is_none-2
returns-then-not-is_none-2 c =
    wrong_is_why c.args.settings.now (logs_seen c.args.logs.now) c.args.manner c.in_ok-missing.missing.items c.in_ok-wrong.wrong.items c.in_ok-missing.ensures
    (nothing_is_there _ (rw c.as_slice.ensures.value at c.if-not-is_none.ensures)) c.in_ok-wrong.ensures (something_is_there _ (rw c.as_slice-2.ensures.value at c.if-not-is_none-2.ensures))

pub returns : goal.returns
returns c =
    let s = c.args.settings.now in
    let logs = logs_seen c.args.logs.now in
    IfOk-weaker c.waiting_lines.result
    (λ text. IsWaitingText (bytes_with (routes_in s)) logs c.args.manner text.items)
    (λ text. IsReasons s logs c.args.manner text.items)
    (λ text waiting. waiting_is_why s logs c.args.manner c.in_ok-missing.missing.items c.in_ok-wrong.wrong.items text.items c.in_ok-missing.ensures (nothing_is_there _ (rw c.as_slice.ensures.value at c.if-not-is_none.ensures))
    c.in_ok-wrong.ensures (nothing_is_there _ (rw c.as_slice-2.ensures.value at c.if-not-is_none-2.ensures)) waiting)
    (c.waiting_lines.ensures (routes_in s))

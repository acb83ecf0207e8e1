use Rattle.std.proofs.Common.{ℕ, List}
use Rattle.std.specs.Prelude.{IfOk, Result, Ok, Err}
use Rattle.node_log.specs.LogSeen.{logs_seen}
use Rattle.log_audit.specs.Given.{IsRead, rests_seen}
use Rattle.log_audit.specs.declared.fault.AuditFault.{AuditFault}
use Rattle.log_audit.specs.declared.reading.Audited.{Audited}
use Rattle.log_audit.specs.declared.reading.GivenLog.{GivenLog}
use Rattle.audit_words.specs.declared.asked.Judging.{Judging}
use Rattle.audit_run.specs.declared.completing.Judged.{Judged}
use Rattle.audit_run.specs.Judged.{Judges, TakesRead, given_for}
use Rattle.audit_run.proofs.judged.judged_logs.Goals as goal

-- logs that were read are judged as what is asked says
takes_on : (result : Result Judged AuditFault) (by : Judging) (text : List ℕ) (logs : List GivenLog) (read : Audited)
    → IsRead text (given_for by logs) read.settings (logs_seen read.logs.items) (rests_seen read.rests.items) read.torn.items → IfOk result (λ (j : Judged). TakesRead by.scope read j)
    → IfOk result (λ (j : Judged). Judges by text logs j)
takes_on (Ok j) by text logs read given takes = record { read = read; given = given; takes = takes }
takes_on (Err e) by text logs read given takes = takes

pub returns-clause-given : goal.returns-clause-given
returns-clause-given c =
    takes_on c.take_read.result c.args.by c.args.files.text.items c.args.files.logs.items c.in_ok-read.read (rw c.in_ok-given.ensures at c.in_ok-read.ensures.given) c.take_read.ensures.takes

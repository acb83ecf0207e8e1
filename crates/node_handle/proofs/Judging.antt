-- What is told of logs that were read.
use Rattle.std.proofs.Common.{◌≡◌, ℕ, List, None}
use Rattle.std.specs.Prelude.{Result, Ok, Err, IfOk}
use Rattle.message_words.specs.declared.page.Style.{Style}
use Rattle.node_log.specs.LogSeen.{logs_seen}
use Rattle.log_audit.specs.Judged.{IsTold}
use Rattle.log_audit.specs.Given.{IsRead, digest_of, opened, rests_seen}
use Rattle.log_audit.specs.Names.{misnamed_log}
use Rattle.log_audit.specs.Telling.{IsWritten}
use Rattle.log_audit.specs.declared.reading.Audited.{Audited}
use Rattle.log_audit.specs.declared.report.Report.{Report}
use Rattle.node_handle.specs.declared.refusal.Refusal.{Refusal}
use Rattle.node_handle.specs.Audits.{IsReported, form_of}

pub reported : (text : List ℕ) (pieces : List (List ℕ)) (style : Style) (a : Audited) → IsRead text (opened pieces) a.settings (logs_seen a.logs.items) (rests_seen a.rests.items) a.torn.items
    → misnamed_log (digest_of text) (opened pieces) ≡ None → (result : Result Report Refusal)
    → IfOk result (λ report. IsTold a.settings (logs_seen a.logs.items) report.legal)
    → IfOk result (λ report. IsWritten a (form_of style) report.legal report.text.items)
    → IfOk result (λ report. IsReported text pieces style report.text.items report.legal)
reported text pieces style a read named (Ok report) is written = record { audited = a; read = read; named = named; is = is; written = written }
reported text pieces style a read named (Err why) is written = tt

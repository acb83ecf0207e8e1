use Rattle.std.proofs.Common.{◌+◌}
use Rattle.claim_model.specs.Bytes.{bytes_with}
use Rattle.days_audit.proofs.Agreed.{AnswersBefore}
use Rattle.days_audit.proofs.live.Live.odd_answer_in.Given as goal

abbrev pub invariant-loop-passed : goal.invariant-loop-passed
invariant-loop-passed l = AnswersBefore (l.passed + 1) (bytes_with l.routes) l.self l.pharmacy l.journal

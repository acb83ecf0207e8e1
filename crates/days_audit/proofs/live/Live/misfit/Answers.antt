use Rattle.std.proofs.lemmas.Result.{IfOk-weaker}
use Rattle.claim_model.specs.Bytes.{bytes_with}
use Rattle.vouched_runs.specs.Agreeing.{Agree}
use Rattle.days_audit.specs.Agreeing.{AllAnswersFit}
use Rattle.days_audit.proofs.Agreed.{agree_rows, agree_answers, fit_agree, finds_other}
use Rattle.days_audit.proofs.live.Live.misfit.Goals as goal

pub returns-in-Some : goal.returns-in-Some
returns-in-Some c = λ a. (rw c.in-Some.is at c.in_ok-misfit.ensures) (agree_rows (bytes_with c.args.routes.now) c.args.self.now a)

pub returns-in-None : goal.returns-in-None
returns-in-None c =
    IfOk-weaker c.odd_answer.result _ _
    (λ found h. finds_other found (AllAnswersFit (bytes_with c.args.routes.now) c.args.self.now) (Agree (bytes_with c.args.routes.now) c.args.self.now) (fit_agree (bytes_with c.args.routes.now) c.args.self.now (rw c.in-None.is at c.in_ok-misfit.ensures)) (agree_answers (bytes_with c.args.routes.now) c.args.self.now) h)
    c.odd_answer.ensures

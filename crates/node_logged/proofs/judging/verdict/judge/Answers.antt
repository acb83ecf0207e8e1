use Rattle.std.proofs.Common.{ap}
use Rattle.node_logged.proofs.Carrying.{ok_by, ok_on}
use Rattle.node_logged.proofs.judging.verdict.judge.Goals as goal

pub returns-in_ok-world-in-Ok-clause-logs : goal.returns-in_ok-world-in-Ok-clause-logs
returns-in_ok-world-in-Ok-clause-logs c = ok_by _ _ c.judge_run.result (λ f x. ap (λ g. g.logs.items) x) c.judge_run.ensures.same

pub returns-in_ok-world-in-Ok-clause-events : goal.returns-in_ok-world-in-Ok-clause-events
returns-in_ok-world-in-Ok-clause-events c = ok_by _ _ c.judge_run.result (λ f x. x.events) c.judge_run.ensures.run

pub returns-in_ok-world-in-Ok-clause-world : goal.returns-in_ok-world-in-Ok-clause-world
returns-in_ok-world-in-Ok-clause-world c = ok_by _ _ c.judge_run.result (λ f x. x.world) c.judge_run.ensures.run

pub returns-in_ok-world-in-Ok-clause-ledgers : goal.returns-in_ok-world-in-Ok-clause-ledgers
returns-in_ok-world-in-Ok-clause-ledgers c = ok_by _ _ c.judge_run.result (λ f x. x.ledgers) c.judge_run.ensures.run

pub returns-in_ok-world-in-Ok-clause-receipts : goal.returns-in_ok-world-in-Ok-clause-receipts
returns-in_ok-world-in-Ok-clause-receipts c = ok_on _ _ c.judge_run.result (λ f x. x.receipts) c.judge_run.ensures.run

pub returns-in_ok-world-in-Ok-clause-heard : goal.returns-in_ok-world-in-Ok-clause-heard
returns-in_ok-world-in-Ok-clause-heard c = ok_on _ _ c.judge_run.result (λ f x. x.heard) c.judge_run.ensures.run

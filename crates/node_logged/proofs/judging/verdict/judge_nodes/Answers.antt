use Rattle.std.proofs.Common.{◌∙◌, map, ap, List}
use Rattle.node_log.specs.LogSeen.{logs_seen}
use Rattle.node_log.specs.declared.log.NodeLog.{NodeLog}
use Rattle.node_logged.specs.LedgerSeen.{tills_seen}
use Rattle.node_logged.proofs.Carrying.{ok_by, err_by, run_carried, run_whole, cause_carried, logs_carried}
use Rattle.node_logged.proofs.judging.verdict.judge_nodes.Goals as goal

pub judge_standing-requires-clause-standing : goal.judge_standing-requires-clause-standing
judge_standing-requires-clause-standing c = c.in_ok-standing.ensures.nodes (c.is_all-is_all.ensures c.if-not-is_all.false).0

pub judge_standing-requires-clause-all : goal.judge_standing-requires-clause-all
judge_standing-requires-clause-all c = (c.is_all-is_all.ensures c.if-not-is_all.false).1

pub returns-clause-logs : goal.returns-clause-logs
returns-clause-logs c = ok_by _ _ c.judge_standing.result (λ f x. ap (λ (ls : List NodeLog). logs_seen ls) x ∙ c.in_ok-standing.ensures.logs) c.judge_standing.ensures.logs

pub returns-clause-run : goal.returns-clause-run
returns-clause-run c = run_carried c.args.settings.now (tills_seen c.args.tills.now) c.in_ok-standing.standing.logs.items c.judge_standing.result c.judge_standing.ensures.logs c.judge_standing.ensures.run

pub returns-clause-refused : goal.returns-clause-refused
returns-clause-refused c = err_by _ _ c.judge_standing.result (λ why x. cause_carried c.args.settings.now (tills_seen c.args.tills.now) c.in_ok-standing.standing.logs.items why x) c.judge_standing.ensures.refused

pub returns-clause-carried : goal.returns-clause-carried
returns-clause-carried c =
    err_by _ _ c.judge_standing.result (λ why x. logs_carried c.args.settings.now (tills_seen c.args.tills.now) c.in_ok-standing.standing.logs.items (map (λ h. h.log) c.args.nodes.items) why c.in_ok-standing.ensures.logs x)
    c.judge_standing.ensures.refused

pub returns-then-not-is_all-clause-logs : goal.returns-then-not-is_all-clause-logs
returns-then-not-is_all-clause-logs c = ok_by _ _ c.judge.result (λ f x. ap (λ (ls : List NodeLog). logs_seen ls) x ∙ c.in_ok-standing.ensures.logs) c.judge.ensures.logs

pub returns-then-not-is_all-clause-run : goal.returns-then-not-is_all-clause-run
returns-then-not-is_all-clause-run c =
    run_carried c.args.settings.now (tills_seen c.args.tills.now) c.in_ok-standing.standing.logs.items c.judge.result c.judge.ensures.logs
    (run_whole c.args.settings.now (tills_seen c.args.tills.now) c.in_ok-standing.standing.logs.items c.judge.result c.judge.ensures.events c.judge.ensures.world c.judge.ensures.ledgers c.judge.ensures.receipts c.judge.ensures.heard)

pub returns-then-not-is_all-clause-refused : goal.returns-then-not-is_all-clause-refused
returns-then-not-is_all-clause-refused c = err_by _ _ c.judge.result (λ why x. cause_carried c.args.settings.now (tills_seen c.args.tills.now) c.in_ok-standing.standing.logs.items why x) c.judge.ensures.refused

pub returns-then-not-is_all-clause-carried : goal.returns-then-not-is_all-clause-carried
returns-then-not-is_all-clause-carried c =
    err_by _ _ c.judge.result (λ why x. logs_carried c.args.settings.now (tills_seen c.args.tills.now) c.in_ok-standing.standing.logs.items (map (λ h. h.log) c.args.nodes.items) why c.in_ok-standing.ensures.logs x)
    c.judge.ensures.refused

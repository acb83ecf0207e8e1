use Rattle.std.proofs.Common.{sym, ◌∙◌}
use Rattle.std.proofs.lemmas.Bool.{false≢true}
use Rattle.std.proofs.lemmas.Result.{IfOk-weaker}
use Rattle.node_log.specs.LogSeen.{logs_seen}
use Rattle.days_audit.proofs.Judging.{not_distinct, not_parties, not_begun, ordered_days, few_live}
use Rattle.days_audit.proofs.days.found_days.Goals as goal

pub returns-then-not-are_distinct : goal.returns-then-not-are_distinct
returns-then-not-are_distinct c = not_distinct c.args.settings.now c.args.rests.now (logs_seen c.args.logs.now) (λ d. false≢true (sym c.if-not-are_distinct.true ∙ c.are_distinct.ensures ∙ d))

pub returns-then-not-are_parties : goal.returns-then-not-are_parties
returns-then-not-are_parties c = not_parties c.args.settings.now c.args.rests.now (logs_seen c.args.logs.now) (rw c.settings.ensures.kept at (sym c.are_parties.ensures ∙ c.if-not-are_parties.true))

pub returns-in-None : goal.returns-in-None
returns-in-None c = not_begun c.args.settings.now c.args.rests.now (logs_seen c.args.logs.now) (rw c.in-None.is at c.in_ok-live.ensures)

pub returns-in-Some : goal.returns-in-Some
returns-in-Some c =
    IfOk-weaker c.agreed_days.result _ _
    (λ days h. ordered_days c.args.settings.now c.args.rests.now (logs_seen c.args.logs.now) c.in-Some.live (sym c.are_distinct.ensures ∙ c.if-not-are_distinct.false)
    (rw c.settings.ensures.kept at (sym c.are_parties.ensures ∙ c.if-not-are_parties.false)) (rw c.in-Some.is at c.in_ok-live.ensures) days (rw c.routes.ensures at h))
    c.agreed_days.ensures

pub agreed_days-requires-clause-few : goal.agreed_days-requires-clause-few
agreed_days-requires-clause-few c =
    few_live c.args.settings.now c.args.rests.now (logs_seen c.args.logs.now) c.settings.ensures.nodes c.in-Some.live (rw c.in-Some.is at c.in_ok-live.ensures)

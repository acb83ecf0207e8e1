use Rattle.std.proofs.Common.{◌∙◌, sym, map}
use Rattle.world_setup.specs.Seen.{event_seen}
use Rattle.run_merge.proofs.Merging.{not_each, not_distinct, not_fit, no_order, order_merged}
use Rattle.run_merge.proofs.history.merged.Goals as goal

pub returns-then-not-each_has_log : goal.returns-then-not-each_has_log
returns-then-not-each_has_log c = not_each c.args.settings.now c.args.logs.now (rw c.if-not-each_has_log.true at c.each_has_log.ensures)

pub returns-then-not-are_distinct : goal.returns-then-not-are_distinct
returns-then-not-are_distinct c = not_distinct c.args.settings.now c.args.logs.now (sym c.are_distinct.ensures ∙ c.if-not-are_distinct.true)

pub returns-then-not-branch : goal.returns-then-not-branch
returns-then-not-branch c =
    not_fit c.args.settings.now c.args.logs.now (rw c.if-not-branch.true at c.in_ok-all_fit.ensures)

pub returns-in-Some : goal.returns-in-Some
returns-in-Some c =
    rw c.into_events.ensures
    (order_merged c.args.settings.now c.args.logs.now (map event_seen c.in-Some.order.events.items) c.in-Some.order.posted c.settings-taken.ensures.nodes c.settings-taken.ensures.rows (rw c.if-not-each_has_log.false at c.each_has_log.ensures) (sym c.are_distinct.ensures ∙ c.if-not-are_distinct.false)
    (rw c.if-not-branch.false at c.in_ok-all_fit.ensures)
    (rw c.in-Some.is at c.in_ok-order.ensures))

pub returns-in-None : goal.returns-in-None
returns-in-None c = no_order c.args.settings.now c.args.logs.now (rw c.in-None.is at c.in_ok-order.ensures)

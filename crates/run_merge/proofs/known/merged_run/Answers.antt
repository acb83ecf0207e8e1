use Rattle.std.proofs.Common.{◌∙◌, sym, map}
use Rattle.claim_model.specs.Bytes.{bytes_with}
use Rattle.world_setup.specs.Seen.{settings_seen, event_seen}
use Rattle.node_log.specs.LogSeen.{logs_seen}
use Rattle.run_merge.proofs.Merging.{not_each, not_distinct, no_order, order_merged, packets_sent}
use Rattle.run_merge.proofs.known.merged_run.Goals as goal
use Rattle.world_setup.specs.Taken.{routes_in}

pub returns-then-not-each_has_log : goal.returns-then-not-each_has_log
returns-then-not-each_has_log c = not_each c.args.settings.now c.args.logs.now (rw c.if-not-each_has_log.true at c.each_has_log.ensures)

pub returns-then-not-are_distinct : goal.returns-then-not-are_distinct
returns-then-not-are_distinct c = not_distinct c.args.settings.now c.args.logs.now (sym c.are_distinct.ensures ∙ c.if-not-are_distinct.true)

pub returns-in_ok-into_run-in-Some : goal.returns-in_ok-into_run-in-Some
returns-in_ok-into_run-in-Some c =
    let order = c.in-Some.order in
    let done = rw c.in-Some.is at c.in_ok-order.ensures in
    record {
      merged =
          rw c.in_ok-into_run-in-Some.ensures.events
          (order_merged c.args.settings.now c.args.logs.now (map event_seen order.events.items) order.posted c.settings-taken.ensures.nodes c.settings-taken.ensures.rows (rw c.if-not-each_has_log.false at c.each_has_log.ensures) (sym c.are_distinct.ensures ∙ c.if-not-are_distinct.false) c.requires done);
      packets =
          rw c.in_ok-into_run-in-Some.ensures.events
          (c.in_ok-into_run-in-Some.ensures.packets ∙ packets_sent (bytes_with (routes_in c.args.settings.now)) (settings_seen c.args.settings.now) (logs_seen c.args.logs.now) (map event_seen order.events.items) order.posted c.requires done);
    }

pub returns-in-None : goal.returns-in-None
returns-in-None c = no_order c.args.settings.now c.args.logs.now (rw c.in-None.is at c.in_ok-order.ensures)

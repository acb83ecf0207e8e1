use Rattle.std.proofs.Common.{List, ℕ, ◌++◌, map, ap, ◌∙◌}
use Rattle.world_setup.specs.Seen.{event_seen}
use Rattle.log_audit.proofs.LeftWorlds.{csv_is}
use Rattle.log_audit.proofs.report.left.put_made_table.Goals as goal

pub returns : goal.returns
returns g c =
    c.in_ok-put_csv.ensures c.run_noting.new.world.routes
    ∙ ap (λ (text : List ℕ). c.args.text.now ++ text)
    (csv_is c.args.settings c.in_ok-world.world c.run_noting.new.world (map event_seen c.args.events.now) c.as_slice.result.now c.args.table
    c.in_ok-world.ensures c.run_noting.ensures.routes c.in_ok-senders.ensures.made (c.as_slice.ensures.value ∙ c.in_ok-senders.ensures.senders))

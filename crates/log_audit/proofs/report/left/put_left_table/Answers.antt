use Rattle.std.proofs.Common.{List, ℕ, ◌++◌, [], map, sym, ap, ◌∙◌}
use Rattle.world_setup.specs.Seen.{event_seen}
use Rattle.log_audit.proofs.LeftWorlds.{table_left}
use Rattle.log_audit.proofs.report.left.put_left_table.Goals as goal

pub returns-in_ok-put_csv-in-Some : goal.returns-in_ok-put_csv-in-Some
returns-in_ok-put_csv-in-Some g c =
    c.in_ok-put_csv-in-Some.ensures c.in-Some.world.routes
    ∙ ap (λ (text : List ℕ). c.args.text.now ++ text)
    (table_left c.args.settings (map event_seen c.args.run.events.items) c.in-Some.world [] c.args.table (sym c.tells_senders.ensures ∙ c.if-tells_senders.false) (rw c.in-Some.is at c.requires))

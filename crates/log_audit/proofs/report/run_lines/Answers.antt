use Rattle.std.proofs.Common.{map, length, sym, ap, ◌∙◌}
use Rattle.std.proofs.lemmas.List.{length-map}
use Rattle.world_setup.specs.Seen.{event_seen}
use Rattle.log_audit.proofs.RunTexts.{lines_told}
use Rattle.log_audit.proofs.report.run_lines.Goals as goal

pub returns : goal.returns
returns c =
    let events = map event_seen c.args.run.events.items in
    lines_told c.args.audited events c.put_left_counts.new.text.items c.in_ok-text.text.items (length c.as_slice.result.now) c.in_ok-text.ensures
    (rw c.settings_alone.ensures at c.in_ok-put_left_counts.ensures) (ap length c.as_slice.ensures.value ∙ sym (length-map c.args.run.events.items event_seen))

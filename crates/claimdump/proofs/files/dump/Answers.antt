use Rattle.std.proofs.Common.{map, ap, ◌∙◌}
use Rattle.schedule.specs.Division.{settings_text}
use Rattle.settings_digest.specs.Digests.{digest_in}
use Rattle.world_setup.specs.Seen.{event_seen}
use Rattle.claimdump.proofs.Refusing.{files_are}
use Rattle.claimdump.proofs.files.dump.Goals as goal

pub returns-clause-dumped : goal.returns-clause-dumped
returns-clause-dumped c =
    let text = settings_text c.args.input.now in
    record {
      settings = c.in_ok-settings.settings;
      settled = rw (c.as_slice.ensures.value, c.in_ok-parts.ensures.settings) at c.in_ok-settings.ensures.settled;
      events = c.in_ok-events.events.items;
      read = rw c.in_ok-parts.ensures.schedule at c.in_ok-events.ensures.read;
      are = c.in_ok-files_of.ensures
          ∙ files_are text c.in_ok-parts.parts.settings.items c.in_ok-digest.digest c.in_ok-settings.settings (map event_seen c.in_ok-events.events.items) c.in_ok-recorded.recorded
          (rw c.as_slice-3.ensures.value at c.in_ok-recorded.ensures) c.in_ok-parts.ensures.settings (c.in_ok-digest.ensures ∙ ap digest_in (c.as_slice-2.ensures.value ∙ c.in_ok-parts.ensures.settings));
    }

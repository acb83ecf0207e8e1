-- No world takes the settings.
use Rattle.std.proofs.Common.{◌≡◌, ℕ, List, Some, ◌⊎◌, inl, inr}
use Rattle.world_setup.specs.Taken.{world_fault}
use Rattle.world_setup.specs.declared.settings.WorldSettings.{WorldSettings}
use Rattle.world_setup.specs.declared.world_fault.WorldFault.{WorldFault}
use Rattle.world_setup.specs.declared.world_fault.WorldFault.TheVariants as world
use Rattle.world_settings.specs.Checked.{IsUntaken, SpellsNoWorld, untaken_by}
use Rattle.world_settings.specs.Document.{document_seen, living_in}
use Rattle.world_settings.proofs.checked.read_checked_settings.Goals as goal

another : (text : List ℕ) (s : WorldSettings) (why : WorldFault) → living_in text ≡ Some (document_seen s) → (why ≡ world.OutOfMemory → ⊥) → (why ≡ world.OutOfMemory) ⊎ (world_fault s ≡ Some why)
    → SpellsNoWorld text why
another text s why spelled apart (inl e) = absurd (apart e)
another text s why spelled apart (inr e) = record { settings = s; spelled = spelled; refused = e }

untaken : (text : List ℕ) (s : WorldSettings) (why : WorldFault) → living_in text ≡ Some (document_seen s) → (why ≡ world.OutOfMemory) ⊎ (world_fault s ≡ Some why) → IsUntaken text (untaken_by why)
untaken text s world.OutOfMemory spelled cause = tt
untaken text s world.TooMany spelled cause = another text s world.TooMany spelled (λ e. cc) cause
untaken text s world.NoNode spelled cause = another text s world.NoNode spelled (λ e. cc) cause
untaken text s world.SameProvider spelled cause = another text s world.SameProvider spelled (λ e. cc) cause
untaken text s (world.BadRoute row) spelled cause = another text s (world.BadRoute row) spelled (λ e. cc) cause

pub returns-in-Err : goal.returns-in-Err
returns-in-Err c =
    let spelled : living_in c.args.text.now ≡ Some (document_seen c.with_keys.result) = rw (c.with_keys.ensures.nodes, c.with_keys.ensures.routes) c.in-Ok.ensures.read in
    record { spelled = tt; refused = rw c.untaken_by.ensures (untaken c.args.text.now c.with_keys.result c.in-Err.fault spelled c.in-Err.ensures.fault) }

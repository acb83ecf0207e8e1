-- Why there are no files, and what they are.
use Rattle.std.proofs.Common.{◌≡◌, ℕ, List, ap, ◌∙◌}
use Rattle.bin_routes.specs.Table.{RouteMaps}
use Rattle.claim_model.specs.Bytes.{bytes_with}
use Rattle.claim_model.specs.World.{World, Event, run}
use Rattle.schedule.specs.Division.{settings_text, scheduled_lines}
use Rattle.settings_digest.specs.Digests.{digest_in}
use Rattle.world_core.specs.Parts.{context_of}
use Rattle.world_settings.specs.Checked.{Spells}
use Rattle.world_setup.specs.declared.settings.WorldSettings.{WorldSettings}
use Rattle.claimdump.specs.Files.{IsRefusedFor, IsUnscheduled, dumped, files_in}
use Rattle.claimdump.specs.NodeLogs.{AllLogs}
use Rattle.claimdump.specs.Runs.{IsRun, context_under, opened_by, run_logs}
use Rattle.claimdump.specs.declared.fault.DumpFault.{DumpFault}
use Rattle.claimdump.specs.declared.fault.DumpFault.TheVariants as fault
use Rattle.claimdump.specs.declared.recorded.Recorded.{Recorded}

-- what the lines of a schedule are refused for is told
pub unscheduled : (input : List ℕ) (s : WorldSettings) (why : DumpFault) → Spells (settings_text input) s → IsUnscheduled (scheduled_lines input) why → IsRefusedFor input why
unscheduled input s fault.OutOfMemory settled cause = tt
unscheduled input s (fault.Settings why) settled cause = absurd cause
unscheduled input s (fault.World why) settled cause = absurd cause
unscheduled input s (fault.Line number) settled cause = record { settings = s; settled = settled; line = cause }

-- the files of what is there after a run are those of the run
pub files_are : (text own digest : List ℕ) (s : WorldSettings) (events : List Event) (r : Recorded) → IsRun s events r → own ≡ text → digest ≡ digest_in text
    → files_in (context_of r.world) own digest r.world.world r.logs ≡ dumped text s events
files_are text own digest s events r is same of =
    let ctx = context_under s in
    let w : World = run ctx (opened_by s) events in
    ap (λ (routes : RouteMaps). files_in (bytes_with routes) own digest r.world.world r.logs) is.routes
    ∙ (ap (λ (v : World). files_in ctx own digest v r.logs) is.world
    ∙ (ap (λ (logs : AllLogs). files_in ctx own digest w logs) is.logs
    ∙ (ap (λ (t : List ℕ). files_in ctx t digest w (run_logs s events)) same
    ∙ ap (λ (d : List ℕ). files_in ctx text d w (run_logs s events)) of)))

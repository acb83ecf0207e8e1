-- The table of the world that a run leaves.
use Rattle.std.proofs.Common.{◌≡◌, ℕ, false, List, refl, ap, ◌∙◌}
use Rattle.bin_routes.specs.Table.{RouteMaps}
use Rattle.claim_model.specs.Bytes.{bytes_with}
use Rattle.claim_model.specs.Settings.{opening}
use Rattle.claim_model.specs.World.{World, Event, run}
use Rattle.claim_model.specs.Context.{Context}
use Rattle.world_setup.specs.Seen.{settings_seen}
use Rattle.world_setup.specs.declared.settings.WorldSettings.{WorldSettings}
use Rattle.world_core.specs.Parts.{WorldParts, context_of}
use Rattle.log_audit.specs.Senders.{senders_from}
use Rattle.log_audit.specs.Ledger.{ledger_text}
use Rattle.log_audit.specs.Tables.{table_csv, table_members, table_rows}
use Rattle.log_audit.specs.declared.tables.table.Table.{Table}
use Rattle.log_audit.specs.declared.tables.table.Table.TheVariants.{Payments, Entries, Rows, Packets, Counted as CountedTable, Open}
use Rattle.log_audit.specs.Judged.{left_by}
use Rattle.log_audit.specs.Tabled.{csv_after, run_csv, tells_senders}
use Rattle.log_audit.specs.Telling.{run_ledger, run_members}
use Rattle.world_setup.specs.Taken.{routes_in}

-- of a world that events led to from the opening of these settings, over its routes, with the senders of its packets
pub csv_is : (s : WorldSettings) (first last : WorldParts) (events : List Event) (senders : List ℕ) (table : Table) → first ≡ record { routes = routes_in s; world = opening (settings_seen s) }
    → last.routes ≡ first.routes → last.world ≡ run (context_of first) first.world events → senders ≡ senders_from (context_of first) first.world 1 events
    → table_csv (table_rows (context_of last) last.world senders) table ≡ run_csv s events table
unfolding run_csv
csv_is s first last events senders table opened routes made noted =
    ap (λ (r : RouteMaps). table_csv (table_rows (bytes_with r) last.world senders) table) routes
    ∙ (ap (λ (w : World). table_csv (table_rows (context_of first) w senders) table) made
    ∙ (ap (λ (numbers : List ℕ). table_csv (table_rows (context_of first) (run (context_of first) first.world events) numbers) table) noted
    ∙ ap (λ (parts : WorldParts). csv_after (context_of parts) parts.world events table) opened))

-- the same of its counts
pub ledger_is : (s : WorldSettings) (first last : WorldParts) (events : List Event) → first ≡ record { routes = routes_in s; world = opening (settings_seen s) }
    → last.routes ≡ first.routes → last.world ≡ run (context_of first) first.world events → ledger_text (context_of last) last.world ≡ run_ledger s events
unfolding run_ledger
ledger_is s first last events opened routes made =
    ap (λ (r : RouteMaps). ledger_text (bytes_with r) last.world) routes
    ∙ (ap (λ (w : World). ledger_text (context_of first) w) made
    ∙ ap (λ (parts : WorldParts). ledger_text (context_of parts) (run (context_of parts) parts.world events)) opened)

-- and of all tables as members
pub members_are : (s : WorldSettings) (first last : WorldParts) (events : List Event) (senders : List ℕ) → first ≡ record { routes = routes_in s; world = opening (settings_seen s) }
    → last.routes ≡ first.routes → last.world ≡ run (context_of first) first.world events → senders ≡ senders_from (context_of first) first.world 1 events
    → table_members (table_rows (context_of last) last.world senders) Packets ≡ run_members s events
unfolding run_members
members_are s first last events senders opened routes made noted =
    ap (λ (r : RouteMaps). table_members (table_rows (bytes_with r) last.world senders) Packets) routes
    ∙ (ap (λ (w : World). table_members (table_rows (context_of first) w senders) Packets) made
    ∙ (ap (λ (numbers : List ℕ). table_members (table_rows (context_of first) (run (context_of first) first.world events) numbers) Packets) noted
    ∙ ap (λ (parts : WorldParts). table_members (table_rows (context_of parts) (run (context_of parts) parts.world events) (senders_from (context_of parts) parts.world 1 events)) Packets) opened))

-- of the world that events are known to have left

pub counts_left : (s : WorldSettings) (events : List Event) (w : WorldParts) → w ≡ left_by s events → ledger_text (context_of w) w.world ≡ run_ledger s events
unfolding run_ledger
counts_left s events w is = ap (λ (x : WorldParts). ledger_text (context_of x) x.world) is

same_table : (ctx : Context) (w : World) (a b : List ℕ) (table : Table) → tells_senders table ≡ false → table_csv (table_rows ctx w a) table ≡ table_csv (table_rows ctx w b) table
unfolding table_csv
same_table ctx w a b Payments none = refl
same_table ctx w a b Entries none = refl
same_table ctx w a b Rows none = refl
same_table ctx w a b Packets none = cc
same_table ctx w a b CountedTable none = refl
same_table ctx w a b Open none = refl

pub table_left : (s : WorldSettings) (events : List Event) (w : WorldParts) (senders : List ℕ) (table : Table) → tells_senders table ≡ false → w ≡ left_by s events → table_csv (table_rows (context_of w) w.world senders) table ≡ run_csv s events table
unfolding run_csv
table_left s events w senders table none is =
    let first = opening (settings_seen s) in
    let ctx = bytes_with (routes_in s) in
    ap (λ (x : WorldParts). table_csv (table_rows (context_of x) x.world senders) table) is ∙ same_table ctx (run ctx first events) senders (senders_from ctx first 1 events) table none

-- What is told of logs as a table.
use Rattle.std.specs.Prelude.{ℕ, Bool, true, false, List}
use Rattle.claim_model.specs.Context.{Context}
use Rattle.claim_model.specs.Bytes.{bytes_with}
use Rattle.claim_model.specs.Settings.{opening}
use Rattle.claim_model.specs.World.{World, Event, run}
use Rattle.world_setup.specs.Seen.{settings_seen}
use Rattle.world_setup.specs.declared.settings.WorldSettings.{WorldSettings}
use Rattle.log_audit.specs.Senders.{senders_from}
use Rattle.log_audit.specs.Tables.{table_csv, table_rows}
use Rattle.log_audit.specs.declared.tables.table.Table.{Table}
use Rattle.log_audit.specs.declared.tables.table.Table.TheVariants.{Payments, Entries, Rows, Packets, Counted as CountedTable, Open}
use Rattle.world_setup.specs.Taken.{routes_in}

abbrev pub csv_after : Context → World → List Event → Table → List ℕ
csv_after ctx w events table = table_csv (table_rows ctx (run ctx w events) (senders_from ctx w 1 events)) table

-- a table of the world that events leave after the opening of these settings
unfoldable pub run_csv : WorldSettings → List Event → Table → List ℕ
run_csv s events table = csv_after (bytes_with (routes_in s)) (opening (settings_seen s)) events table

-- a table says which event sent a packet
abbrev pub tells_senders : Table → Bool
tells_senders Payments = false
tells_senders Entries = false
tells_senders Rows = false
tells_senders Packets = true
tells_senders CountedTable = false
tells_senders Open = false

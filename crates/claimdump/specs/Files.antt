-- The files of a replay.
use Rattle.std.specs.Prelude.{◌≡◌, ℕ, ◌+◌, ⊤, List, [], ◌∷◌, ◌++◌, map, Option, Some, None, Ok, Err}
use Rattle.claim_model.specs.Context.{Context}
use Rattle.claim_model.specs.Node.{Node, Power}
use Rattle.claim_model.specs.Journal.{Journal, JournalAtRest}
use Rattle.claim_model.specs.Rows.{Book}
use Rattle.claim_model.specs.World.{World, Event, Stopping, run}
use Rattle.claim_model.specs.Logs.{NodeLog}
use Rattle.kept_logs.specs.Logs.{kept_text}
use Rattle.kept_logs.specs.Stamps.{plain_log}
use Rattle.node_state.specs.Records.{journal_record, book_record}
use Rattle.schedule.specs.Division.{settings_text, scheduled_lines}
use Rattle.schedule.specs.Reading.{living_events_of}
use Rattle.settings_digest.specs.Digests.{digest_in}
use Rattle.world_settings.specs.Checked.{Spells, SpellsNoWorld}
use Rattle.world_settings.specs.Document.{living_in}
use Rattle.world_setup.specs.Seen.{event_seen, node_seen}
use Rattle.world_setup.specs.declared.event.Event.{Event as GivenEvent}
use Rattle.world_setup.specs.declared.settings.WorldSettings.{WorldSettings}
use Rattle.claimdump.specs.NodeLogs.{AllLogs, in_order}
use Rattle.claimdump.specs.Runs.{context_under, opened_by, run_logs}
use Rattle.claimdump.specs.declared.file.DumpFile.{DumpFile}
use Rattle.claimdump.specs.declared.file.FileName.{FileName}
use Rattle.claimdump.specs.declared.file.FileName.TheVariants as name
use Rattle.claimdump.specs.declared.fault.DumpFault.{DumpFault}
use Rattle.claimdump.specs.declared.fault.DumpFault.TheVariants as fault

-- whose file it is
pub data Name : Type 0 where
  SettingsFile : Name
  LogOf : Node → Name
  JournalOf BookOf : ℕ → Name

-- a file, with its bytes
pub record File : Type 0 where
  pub name : Name
  pub bytes : List ℕ

abbrev pub name_seen : FileName → Name
name_seen name.Settings = SettingsFile
name_seen (name.Log node) = LogOf (node_seen node)
name_seen (name.Journal number) = JournalOf number
name_seen (name.Book number) = BookOf number

abbrev pub file_seen : DumpFile → File
file_seen file = record { name = name_seen file.name; bytes = file.bytes.items }

-- the file of a log under settings of this digest, of whose calls nothing was noted
abbrev pub log_file : List ℕ → NodeLog → File
log_file digest log = record { name = LogOf log.node; bytes = kept_text digest (plain_log log) }

-- the file of a record, where there is one
abbrev pub record_files : Name → Option (List ℕ) → List File
record_files name None = []
record_files name (Some bytes) = record { name = name; bytes = bytes } ∷ []

-- the records of pharmacies at rest, numbered from here on
abbrev pub journal_files : ℕ → List (Power Journal JournalAtRest) → List File
journal_files number [] = []
journal_files number (node ∷ nodes) = record_files (JournalOf number) (journal_record node) ++ journal_files (number + 1) nodes

-- the records of payers at rest
abbrev pub book_files : ℕ → List (Power Book Book) → List File
book_files number [] = []
book_files number (node ∷ nodes) = record_files (BookOf number) (book_record node) ++ book_files (number + 1) nodes

-- the records of all nodes of a world
abbrev pub world_records : World → List File
world_records w = journal_files 1 w.pharmacies ++ book_files 1 w.payers

abbrev pub stop_of : NodeLog → Event
stop_of log = Stopping log.node

-- a stop of each pharmacy and each payer
abbrev pub stops : AllLogs → List Event
stops logs = map stop_of logs.pharmacies ++ map stop_of logs.payers

-- the files of these logs, of the settings, and of the records that the nodes of a world leave once they have stopped
abbrev pub files_in : Context → List ℕ → List ℕ → World → AllLogs → List File
files_in ctx text digest w logs =
    map (log_file digest) (in_order logs) ++ record { name = SettingsFile; bytes = text } ∷ world_records (run ctx w (stops logs))

-- the files of a run of these events, refused ones included, under the settings of a text
abbrev pub dumped : List ℕ → WorldSettings → List Event → List File
dumped text s events = files_in (context_under s) text (digest_in text) (run (context_under s) (opened_by s) events) (run_logs s events)

-- an input spells settings and events, and these are the files of that run
pub record IsDump (input : List ℕ) (files : List File) : Type 0 where
  pub settings : WorldSettings
  pub settled : Spells (settings_text input) settings
  pub events : List GivenEvent
  pub read : living_events_of (scheduled_lines input) ≡ Ok events
  pub are : files ≡ dumped (settings_text input) settings (map event_seen events)

-- an input spells settings, of which a world is made, and the line of this number is the first that spells no event
pub record NoEvent (input : List ℕ) (number : ℕ) : Type 0 where
  pub settings : WorldSettings
  pub settled : Spells (settings_text input) settings
  pub line : living_events_of (scheduled_lines input) ≡ Err number

-- a text is refused for this cause as settings; where memory ran out nothing is said
abbrev pub IsUnsettled : List ℕ → DumpFault → Type 0
IsUnsettled text fault.OutOfMemory = ⊤
IsUnsettled text (fault.Settings why) = living_in text ≡ None
IsUnsettled text (fault.World why) = SpellsNoWorld text why
IsUnsettled text (fault.Line number) = ⊥

-- lines are refused for this cause as events
abbrev pub IsUnscheduled : List (List ℕ) → DumpFault → Type 0
IsUnscheduled lines fault.OutOfMemory = ⊤
IsUnscheduled lines (fault.Settings why) = ⊥
IsUnscheduled lines (fault.World why) = ⊥
IsUnscheduled lines (fault.Line number) = living_events_of lines ≡ Err number

-- an input is refused for this cause: its settings, and then its schedule
abbrev pub IsRefusedFor : List ℕ → DumpFault → Type 0
IsRefusedFor input fault.OutOfMemory = ⊤
IsRefusedFor input (fault.Settings why) = living_in (settings_text input) ≡ None
IsRefusedFor input (fault.World why) = SpellsNoWorld (settings_text input) why
IsRefusedFor input (fault.Line number) = NoEvent input number

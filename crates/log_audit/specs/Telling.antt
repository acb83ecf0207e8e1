-- What is told of logs, in each form.
use Rattle.std.specs.Prelude.{◌≡◌, ◌==◌, ℕ, Bool, true, false, cond, List, [], ◌∷◌, ◌++◌, length, map, slice_index, codes, Ok}
use Rattle.std.specs.List.{list_any}
use Rattle.std.specs.Str.Lines.{lines}
use Rattle.claim_model.specs.Context.{Context}
use Rattle.claim_model.specs.Bytes.{bytes_with}
use Rattle.claim_model.specs.Settings.{opening}
use Rattle.claim_model.specs.World.{World, Event, run}
use Rattle.claim_model.specs.Logs.{NodeLog}
use Rattle.schedule.specs.Division.{ends_in_newline, scheduled_lines, settings_text}
use Rattle.schedule.specs.Events.{have_no_advice}
use Rattle.schedule.specs.Reading.{events_of, living_events_of}
use Rattle.world_setup.specs.Seen.{event_seen, settings_seen}
use Rattle.world_setup.specs.declared.event.Event.{Event as Kept}
use Rattle.world_setup.specs.declared.settings.WorldSettings.{WorldSettings}
use Rattle.node_log.specs.LogSeen.{logs_seen}
use Rattle.run_merge.specs.Merged.{IsMerged}
use Rattle.table_text.specs.Members.{Row}
use Rattle.log_audit.specs.Kinds.{number_member, node_member}
use Rattle.table_text.specs.Rows.{rows_text, list_text}
use Rattle.log_audit.specs.Senders.{senders_from}
use Rattle.log_audit.specs.Sentences.{Words, Number, Named, sentence}
use Rattle.log_audit.specs.Texts.{texts_from}
use Rattle.log_audit.specs.Payments.{told_from}
use Rattle.log_audit.specs.Ledger.{ledger_text}
use Rattle.log_audit.specs.Tables.{table_members, table_rows}
use Rattle.log_audit.specs.Tabled.{run_csv}
use Rattle.log_audit.specs.ChangeTables.{run_changes_csv}
use Rattle.log_audit.specs.Reasons.{IsReasons}
use Rattle.log_audit.specs.declared.sentences.Manner.TheVariants.{Line, Member}
use Rattle.table_text.specs.declared.layout.Style.TheVariants as style
use Rattle.log_audit.specs.declared.reading.Audited.{Audited}
use Rattle.log_audit.specs.declared.report.Form.{Form}
use Rattle.log_audit.specs.declared.report.Form.TheVariants.{Lines, Json, Csv, Changes, Schedule}
use Rattle.log_audit.specs.declared.tables.table.Table.TheVariants.{Packets}
use Rattle.world_setup.specs.Taken.{routes_in}

-- the line of a log: its node, how many calls it has, and how many bytes its torn end has
abbrev pub log_line : NodeLog → ℕ → List ℕ
log_line log torn = sentence (Named log.node ∷ Words (codes " calls ") ∷ Number (length log.calls) ∷ Words (codes " torn ") ∷ Number torn ∷ Words (codes "\n") ∷ [])

-- the lines of logs, each with its torn end
abbrev pub log_lines : List NodeLog → List ℕ → List ℕ
log_lines logs torn = texts_from (λ place log. log_line log (slice_index torn place)) 0 logs

-- the line that there is a run of this many events
abbrev pub legal_line : ℕ → List ℕ
legal_line count = sentence (Words (codes "one legal run of ") ∷ Number count ∷ Words (codes " events\n") ∷ [])

-- the world that events leave after the opening of settings
abbrev pub context_for : WorldSettings → Context
context_for s = bytes_with (routes_in s)

abbrev pub world_after : WorldSettings → List Event → World
world_after s events = run (context_for s) (opening (settings_seen s)) events

-- the counts of what events leave
unfoldable pub run_ledger : WorldSettings → List Event → List ℕ
run_ledger s events = ledger_text (context_for s) (world_after s events)

-- the lines of logs of a legal run: of each log, the run, and what it left
unfoldable pub run_lines : Audited → List Event → List ℕ
run_lines a events = log_lines (logs_seen a.logs.items) a.torn.items ++ (legal_line (length events) ++ run_ledger a.settings events)

-- a log as an object of JSON
abbrev pub log_row : NodeLog → ℕ → Row
log_row log torn = node_member (codes "node") log.node ∷ number_member (codes "calls") (length log.calls) ∷ number_member (codes "torn") torn ∷ []

-- logs as a list of them
abbrev pub log_rows : List NodeLog → List ℕ → List Row
log_rows logs torn = told_from (λ place log. log_row log (slice_index torn place) ∷ []) 0 logs

-- how an object begins: with the list of logs
unfoldable pub logs_member : List NodeLog → List ℕ → List ℕ
logs_member logs torn = codes "{\"logs\":" ++ list_text (rows_text style.Json (log_rows logs torn))

-- all tables of what events leave, as members of an object
unfoldable pub run_members : WorldSettings → List Event → List ℕ
run_members s events = table_members (table_rows (context_for s) (world_after s events) (senders_from (context_for s) (opening (settings_seen s)) 1 events)) Packets

abbrev pub count_member : ℕ → List ℕ
count_member count = sentence (Words (codes ",\n\"legal\":true,\n\"events\": ") ∷ Number count ∷ [])

-- the object of logs of a legal run
unfoldable pub run_object : Audited → List Event → List ℕ
run_object a events =
    logs_member (logs_seen a.logs.items) a.torn.items ++ (count_member (length events) ++ (run_members a.settings events ++ codes "\n}\n"))

-- the line that divides, after settings that may lack their last newline
abbrev pub divider : List ℕ → List ℕ
divider settings = cond (ends_in_newline settings) (codes "---\n") (codes "\n---\n")

-- settings with a newline after their last line
abbrev pub whole : List ℕ → List ℕ
whole settings = settings ++ cond (ends_in_newline settings) [] (codes "\n")

abbrev pub is_return : ℕ → Bool
is_return byte = byte == 13

-- settings without carriage returns are these very bytes, with a newline after the last line; a division drops those that end lines
abbrev pub KeepsSettings : List ℕ → List ℕ → Type 0
KeepsSettings divided settings = list_any is_return settings ≡ false → divided ≡ whole settings

-- an input is divided in two: these settings, and these lines
pub record IsDivided (text settings written : List ℕ) : Type 0 where
  pub kept : KeepsSettings (settings_text text) settings
  pub divides : scheduled_lines text ≡ lines written

-- the input of a replay of events: the settings, a line that divides, and lines, which are those of the schedule and spell these events; also where no
-- payer may ask, if none of them is an adjudication
pub record IsSchedule (settings : List ℕ) (events : List Event) (text : List ℕ) : Type 0 where
  pub written : List ℕ
  pub kept : List Kept
  pub is : text ≡ settings ++ (divider settings ++ written)
  pub divided : IsDivided text settings written
  pub spell : living_events_of (lines written) ≡ Ok kept
  pub plain : have_no_advice kept ≡ true → events_of (lines written) ≡ Ok kept
  pub are : map event_seen kept ≡ events

-- a text is told of these events in this form
abbrev pub IsTextOf : Audited → List Event → Form → List ℕ → Type 0
IsTextOf a events Lines text = text ≡ run_lines a events
IsTextOf a events Json text = text ≡ run_object a events
IsTextOf a events (Csv table) text = text ≡ run_csv a.settings events table
IsTextOf a events (Changes of) text = text ≡ run_changes_csv a.settings of events
IsTextOf a events Schedule text = IsSchedule a.text.items events text

-- the lines of logs of no legal run: of each log, and why
pub record IsNoRunLines (a : Audited) (text : List ℕ) : Type 0 where
  pub why : List ℕ
  pub reasons : IsReasons a.settings (logs_seen a.logs.items) Line why
  pub is : text ≡ log_lines (logs_seen a.logs.items) a.torn.items ++ (codes "no legal run\n" ++ why)

-- the object of logs of no legal run
pub record IsNoRunObject (a : Audited) (text : List ℕ) : Type 0 where
  pub why : List ℕ
  pub reasons : IsReasons a.settings (logs_seen a.logs.items) Member why
  pub is : text ≡ logs_member (logs_seen a.logs.items) a.torn.items ++ (codes ",\n\"legal\":false,\n\"reasons\":" ++ (list_text why ++ codes "\n}\n"))

-- a text is told of logs of no legal run in this form
abbrev pub IsUntold : Audited → Form → List ℕ → Type 0
IsUntold a Lines text = IsNoRunLines a text
IsUntold a Json text = IsNoRunObject a text
IsUntold a (Csv table) text = text ≡ []
IsUntold a (Changes of) text = text ≡ []
IsUntold a Schedule text = IsNoRunLines a text

-- a text is told of some events that are a legal interleaving of the logs
pub record IsTextOfRun (a : Audited) (form : Form) (text : List ℕ) : Type 0 where
  pub events : List Event
  pub merged : IsMerged a.settings (logs_seen a.logs.items) events
  pub told : IsTextOf a events form text

-- what is written is told of a legal run, or says why there is none
abbrev pub IsWritten : Audited → Form → Bool → List ℕ → Type 0
IsWritten a form true text = IsTextOfRun a form text
IsWritten a form false text = IsUntold a form text

-- What the words of a command line ask of logs.
use Rattle.std.specs.Prelude.{ℕ, Bool, List, [], ◌∷◌, ◌++◌, Option, Some, None, option_map, bytes_eq, codes, find, if◌then◌else◌}
use Rattle.clap.specs.Words.{first_value}
use Rattle.clap.specs.declared.parser.matches.Found.{Found}
use Rattle.log_audit.specs.declared.revisions.tables.Changes.{Changes as Changing}
use Rattle.log_audit.specs.declared.revisions.tables.Changes.TheVariants.{Prices, Terms, Retries, Caps}
use Rattle.log_audit.specs.declared.report.Form.{Form}
use Rattle.log_audit.specs.declared.report.Form.TheVariants.{Json, Csv, Changes, Schedule}
use Rattle.log_audit.specs.declared.tables.table.Table.{Table}
use Rattle.log_audit.specs.declared.tables.table.Table.TheVariants.{Payments, Entries, Rows, Packets, Counted, Open}
use Rattle.audit_words.specs.declared.asked.Asked.{Asked}
use Rattle.audit_words.specs.declared.asked.Asked.TheVariants.{Verdict, Calls}
use Rattle.audit_words.specs.declared.asked.Scope.{Scope}
use Rattle.audit_words.specs.declared.asked.Scope.TheVariants.{Run, Each, Days}
use Rattle.audit_words.specs.Choosing.{asked_ones, one_at_most}
use Rattle.audit_words.specs.Found.{is_given}

-- logs are judged in a scope: as those of a run, each by itself, or as those of days
abbrev pub judged : Scope → Form → Asked
judged scope form = Verdict (record { scope = scope; form = form })

-- the forms that are tables, by their names: of each log by itself and of days the entries without an answer too, and of a run its packets; changes
-- are not told of days
abbrev pub all_changes : List (List ℕ × Form)
all_changes = (codes "prices", Changes Prices) ∷ (codes "terms", Changes Terms) ∷ (codes "retries", Changes Retries) ∷ (codes "caps", Changes Caps) ∷ []

abbrev pub change_forms : Scope → List (List ℕ × Form)
change_forms Run = all_changes
change_forms Each = all_changes
change_forms Days = []

abbrev pub last_form : Scope → List ℕ × Form
last_form Run = (codes "packets", Csv Packets)
last_form Each = (codes "open", Csv Open)
last_form Days = (codes "open", Csv Open)

abbrev pub forms : Scope → List (List ℕ × Form)
forms scope =
    change_forms scope
    ++ (codes "payments", Csv Payments) ∷ (codes "entries", Csv Entries) ∷ (codes "rows", Csv Rows) ∷ (codes "counted", Csv Counted) ∷ last_form scope ∷ []

-- what is asked by the name of one
abbrev pub csv_named : Scope → List ℕ → Option Asked
csv_named scope name = option_map (λ (row : List ℕ × Form). judged scope row.1) (find (λ (row : List ℕ × Form). bytes_eq name row.0) (forms scope))

-- ---- the four ways of telling: each where its own word is given, and then what is asked, where there is such

-- records and schedules are of all calls alone
abbrev pub of_run : Scope → Asked → Option Asked
of_run Run asked = Some asked
of_run Each asked = None
of_run Days asked = None

-- and objects of a run, or of each log by itself
abbrev pub not_of_days : Scope → Asked → Option Asked
not_of_days Run asked = Some asked
not_of_days Each asked = Some asked
not_of_days Days asked = None

abbrev pub calls_in : Found → Scope → Option (Option Asked)
calls_in f scope = if is_given f (codes "calls") then Some (of_run scope Calls) else None

abbrev pub schedule_in : Found → Scope → Option (Option Asked)
schedule_in f scope = if is_given f (codes "schedule") then Some (of_run scope (judged scope Schedule)) else None

abbrev pub json_in : Found → Scope → Option (Option Asked)
json_in f scope = if is_given f (codes "json") then Some (not_of_days scope (judged scope Json)) else None

abbrev pub csv_in : Found → Scope → Option (Option Asked)
csv_in f scope = option_map (csv_named scope) (first_value f (codes "csv"))

-- one at most is asked for
abbrev pub way_in : Found → Scope → Option (Option (Option Asked))
way_in f scope = one_at_most (asked_ones (calls_in f scope ∷ json_in f scope ∷ schedule_in f scope ∷ csv_in f scope ∷ []))

-- ---- by rows of names

-- a table, where this is its name; the table of a name
abbrev pub one_table : List ℕ → List ℕ → Table → Option Table
one_table name own table = if bytes_eq name own then Some table else None

abbrev pub last_table : Scope → List ℕ → Option Table
last_table Run name = one_table name (codes "packets") Packets
last_table Each name = one_table name (codes "open") Open
last_table Days name = one_table name (codes "open") Open

abbrev pub table_named : Scope → List ℕ → Option Table
table_named scope name =
    if bytes_eq name (codes "payments") then Some Payments else
    if bytes_eq name (codes "entries") then Some Entries else
    if bytes_eq name (codes "rows") then Some Rows else
    if bytes_eq name (codes "counted") then Some Counted else last_table scope name

-- changes, where this is their name and they are told in the scope
abbrev pub changes_named : List ℕ → Option Changing
changes_named name =
    if bytes_eq name (codes "prices") then Some Prices else
    if bytes_eq name (codes "terms") then Some Terms else
    if bytes_eq name (codes "retries") then Some Retries else
    if bytes_eq name (codes "caps") then Some Caps else None

abbrev pub changes_in : Scope → List ℕ → Option Changing
changes_in Run name = changes_named name
changes_in Each name = changes_named name
changes_in Days name = None

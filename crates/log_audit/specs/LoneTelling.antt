-- What is told of logs one by one, in each form.
use Rattle.std.specs.Prelude.{ℕ, Bool, cond, List, [], ◌∷◌, ◌++◌, length, codes, Result, Ok, Err}
use Rattle.std.specs.List.{flat_map, list_all, list_any}
use Rattle.claim_model.specs.Context.{Context}
use Rattle.claim_model.specs.Nodes.{AnyNode}
use Rattle.node_log.specs.LogSeen.{logs_seen}
use Rattle.table_text.specs.Rows.{rows_text, list_text}
use Rattle.table_text.specs.declared.layout.Style.TheVariants as style
use Rattle.log_audit.specs.ChangeTables.{log_changes_csv}
use Rattle.log_audit.specs.Lones.{Lone, lones_from, makes, before_rows, before_text, came_text, is_behind, lone_rows}
use Rattle.log_audit.specs.Sentences.{told_lines}
use Rattle.log_audit.specs.Tables.{table_csv, table_members}
use Rattle.log_audit.specs.Telling.{log_line, logs_member, context_for}
use Rattle.log_audit.specs.declared.reading.Audited.{Audited}
use Rattle.log_audit.specs.declared.report.Form.{Form}
use Rattle.log_audit.specs.declared.report.Form.TheVariants.{Lines, Json, Csv, Changes, Schedule}
use Rattle.log_audit.specs.declared.sentences.Manner.TheVariants.{Member}
use Rattle.log_audit.specs.declared.tables.table.Table.TheVariants.{Open}

-- the line of a log, how many calls were made before it, and what it comes to
abbrev pub lone_text : Context → ℕ → Lone → List ℕ
lone_text ctx pharmacies lone = log_line lone.log lone.torn ++ (before_text lone ++ came_text ctx pharmacies lone.log lone.came)

-- the lines of logs one by one, and what is said last
unfoldable pub lone_lines : Context → ℕ → List Lone → List ℕ → List ℕ
lone_lines ctx pharmacies lones last = flat_map (lone_text ctx pharmacies) lones ++ last

-- the line that says why a node does not make its log
abbrev pub came_reasons : Result AnyNode (List ℕ) → List (List ℕ)
came_reasons (Ok node) = []
came_reasons (Err line) = line ∷ []

abbrev pub lone_reasons : Lone → List (List ℕ)
lone_reasons lone = came_reasons lone.came

-- that each node makes its log, and all tables; or that one does not, and why
unfoldable pub made_members : Context → List Lone → List ℕ
made_members ctx lones = codes "true" ++ table_members (lone_rows ctx lones) Open

unfoldable pub unmade_members : List Lone → List ℕ
unmade_members lones = codes "false,\n\"reasons\":" ++ list_text (told_lines Member (flat_map lone_reasons lones))

abbrev pub verdict_members : Context → Bool → List Lone → List ℕ
verdict_members ctx made lones = cond made (made_members ctx lones) (unmade_members lones)

-- the logs before which calls were made, where there are any
unfoldable pub behind_list : List Lone → List ℕ
behind_list lones = codes ",\n\"behind\":" ++ list_text (rows_text style.Json (flat_map before_rows lones))

abbrev pub behind_member : List Lone → List ℕ
behind_member lones = cond (list_any is_behind lones) (behind_list lones) []

-- the object of logs one by one, after the list of logs
unfoldable pub lone_object : Context → Bool → List Lone → List ℕ
lone_object ctx made lones = codes ",\n\"alone\":true" ++ (behind_member lones ++ (codes ",\n\"made\":" ++ (verdict_members ctx made lones ++ codes "\n}\n")))

-- what is told of logs that come to this; lines end with what is said last; a table, and changes of plans, only where each node makes its log. A
-- schedule is of a run alone
abbrev pub lones_text : Context → Audited → Bool → List Lone → List ℕ → Form → List ℕ
lones_text ctx a made lones last Lines = lone_lines ctx (length a.settings.pharmacies.items) lones last
lones_text ctx a made lones last Json = logs_member (logs_seen a.logs.items) a.torn.items ++ lone_object ctx made lones
lones_text ctx a made lones last (Csv table) = cond made (table_csv (lone_rows ctx lones) table) []
lones_text ctx a made lones last (Changes of) = cond made (log_changes_csv a.settings of (logs_seen a.logs.items)) []
lones_text ctx a made lones last Schedule = lone_lines ctx (length a.settings.pharmacies.items) lones last

-- what each log comes to by itself
abbrev pub lones_of : Audited → List Lone
lones_of a = lones_from (context_for a.settings) a.settings a.rests.items a.torn.items 0 (logs_seen a.logs.items)

abbrev pub all_make : List Lone → Bool
all_make lones = list_all makes lones

-- what is told of logs one by one
abbrev pub alone_text : Audited → List ℕ → Form → List ℕ
alone_text a last form = lones_text (context_for a.settings) a (all_make (lones_of a)) (lones_of a) last form

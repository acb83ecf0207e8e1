-- Tables of the changes of payers' plans, of pharmacies' rules of retries and of switches' caps.
use Rattle.std.specs.Prelude.{ℕ, List, [], ◌++◌, codes}
use Rattle.std.specs.List.{flat_map}
use Rattle.claim_model.specs.Logs.{NodeLog}
use Rattle.claim_model.specs.World.{Event}
use Rattle.table_text.specs.Members.{Row}
use Rattle.table_text.specs.Rows.{rows_text, head_text}
use Rattle.table_text.specs.declared.layout.Style.TheVariants.{Csv}
use Rattle.world_setup.specs.declared.settings.WorldSettings.{WorldSettings}
use Rattle.log_audit.specs.Changes.{Placed, event_changes, log_changes}
use Rattle.log_audit.specs.Following.{rows_behind}
use Rattle.log_audit.specs.Prices.{price_names, price_rows}
use Rattle.log_audit.specs.Terms.{terms_names, terms_rows}
use Rattle.log_audit.specs.Rules.{rule_names, rule_rows}
use Rattle.log_audit.specs.Caps.{cap_names, cap_rows}
use Rattle.log_audit.specs.declared.revisions.tables.Changes.{Changes}
use Rattle.log_audit.specs.declared.revisions.tables.Changes.TheVariants.{Prices, Terms, Retries, Caps}

-- the names of the columns, of which that of the place is this one
abbrev pub change_names : Changes → List ℕ → List (List ℕ)
change_names Prices name = price_names name
change_names Terms name = terms_names name
change_names Retries name = rule_names name
change_names Caps name = cap_names name

-- the row of a change after these, if it is one of which the table tells
abbrev pub change_rows : WorldSettings → Changes → List ℕ → List Placed → Placed → List Row
change_rows s Prices name before c = price_rows s name before c
change_rows s Terms name before c = terms_rows s name before c
change_rows s Retries name before c = rule_rows s name before c
change_rows s Caps name before c = cap_rows s name before c

-- changes as a table
unfoldable pub changes_csv : WorldSettings → Changes → List ℕ → List Placed → List ℕ
changes_csv s of name changes = head_text (change_names of name) ++ rows_text Csv (rows_behind (change_rows s of name) [] changes)

-- those of a run, by its events
abbrev pub run_changes_csv : WorldSettings → Changes → List Event → List ℕ
run_changes_csv s of events = changes_csv s of (codes "event") (event_changes 1 events)

-- those of logs, by the calls of each
abbrev pub log_changes_csv : WorldSettings → Changes → List NodeLog → List ℕ
log_changes_csv s of logs = changes_csv s of (codes "call") (flat_map log_changes logs)

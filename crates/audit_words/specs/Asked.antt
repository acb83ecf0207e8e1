-- What the words of a command line ask.
use Rattle.std.specs.Prelude.{ℕ, ◌==◌, ◌&&◌, Bool, true, false, cond, not, Option, Some, None, codes, if◌then◌else◌, unwrap_or}
use Rattle.clap.specs.declared.parser.matches.Found.{Found}
use Rattle.claim_reports.specs.declared.reporting.Report.{Report}
use Rattle.log_audit.specs.declared.report.Form.TheVariants.{Lines}
use Rattle.audit_words.specs.declared.asked.Asked.{Asked}
use Rattle.audit_words.specs.declared.asked.Asked.TheVariants as asked
use Rattle.audit_words.specs.declared.asked.Scope.{Scope}
use Rattle.audit_words.specs.declared.asked.Scope.TheVariants.{Run, Each, Days}
use Rattle.audit_words.specs.Choosing.{fitting, ◌>>=◌}
use Rattle.audit_words.specs.Found.{count_of, is_given}
use Rattle.audit_words.specs.Logs.{judged, way_in}
use Rattle.audit_words.specs.Reports.{other_tables, report_in}

-- how many files are given after the first
abbrev pub others_in : Found → ℕ
others_in f = count_of f (codes "LOG")

-- as what logs are judged; none, where two words ask for two things
abbrev pub scope_of : Bool → Bool → Option Scope
scope_of alone days = cond alone (cond days None (Some Each)) (Some (cond days Days Run))

abbrev pub scope_in : Found → Option Scope
scope_in f = scope_of (is_given f (codes "alone")) (is_given f (codes "days"))

-- where no word asks for another way of telling, the lines of a verdict are meant
abbrev pub or_lines : Scope → Option Asked → Asked
or_lines scope way = unwrap_or way (judged scope Lines)

abbrev pub asked_within : Found → Scope → Option Asked
asked_within f scope = do
  way ← way_in f scope
  fits ← fitting way
  Some (or_lines scope fits)

-- what is asked of logs, of which there is one at least
abbrev pub logs_asked : Found → Option Asked
logs_asked f = if others_in f == 0 then None else scope_in f >>= asked_within f

-- no way of telling of logs is asked for
abbrev pub is_no_way : Option (Option (Option Asked)) → Bool
is_no_way (Some None) = true
is_no_way (Some (Some way)) = false
is_no_way None = false

-- no word says as what logs are judged
abbrev pub is_plain : Option Scope → Bool
is_plain None = false
is_plain (Some Run) = true
is_plain (Some Each) = false
is_plain (Some Days) = false

-- a report asks for nothing else, and has its own count of tables
abbrev pub report_asked : Found → Report → Option Asked
report_asked f report =
    if is_plain (scope_in f) && (is_no_way (way_in f Run) && (others_in f == other_tables report)) then Some (asked.Report report) else None

-- a report, where one is asked for; else what is asked of logs
abbrev pub one_or_other : Found → Option Report → Option Asked
one_or_other f (Some report) = report_asked f report
one_or_other f None = logs_asked f

abbrev pub asked_by : Found → Option (Option Report) → Option Asked
asked_by f found = found >>= one_or_other f

abbrev pub asked_in : Found → Option Asked
asked_in f = asked_by f (report_in f)

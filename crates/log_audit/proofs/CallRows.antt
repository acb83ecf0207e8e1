-- Logs that are read with what was noted of their calls, and the rows of these.
use Rattle.std.proofs.Common.{◌≡◌, ℕ, ◌+◌, List, [], ◌∷◌, ◌++◌, length, map, sym, ap, ◌∙◌, subst, append-nil}
use Rattle.std.proofs.lemmas.List.{length-map, map-append}
use Rattle.std.proofs.lemmas.Grind.{flat_map-append}
use Rattle.std.specs.Global.{Vec}
use Rattle.std.specs.Prelude.{Err}
use Rattle.claim_model.specs.Bytes.{bytes_with}
use Rattle.claim_model.specs.Context.{Context}
use Rattle.kept_logs.specs.Stamps.{KeptLog, bare}
use Rattle.kept_logs.specs.Logs.{calls_alone, kept_in, log_in}
use Rattle.kept_logs.specs.declared.fault.LogFault.{LogFault}
use Rattle.table_text.specs.Members.{Row}
use Rattle.table_text.specs.Rows.{rows_text, head_text}
use Rattle.table_text.specs.declared.layout.Style.TheVariants.{Csv}
use Rattle.log_audit.specs.declared.fault.AuditFault.{AuditFault}
use Rattle.log_audit.specs.declared.fault.AuditFault.TheVariants.{OutOfMemory, Settings, World, Log, Reference, NoLine}
use Rattle.log_audit.specs.Given.{IsLog, AreLogs, bytes_of, read_by}
use Rattle.log_audit.specs.Refused.{AreNoLogs}
use Rattle.log_audit.specs.Calls.{IsKept, AreKept, IsNotKept, TellsLog, TellsLogs, call_names, calls_csv, log_rows, logs_rows}
use Rattle.log_audit.proofs.Joining.{no_rows, rows_join}
use Rattle.log_audit.proofs.LogReading.{bytes_more}

-- no log with what was noted is no log
fails_alone : (digest bytes : List ℕ) (fault : LogFault) → kept_in digest bytes ≡ Err fault → log_in digest bytes ≡ Err fault
unfolding log_in
fails_alone digest bytes fault fails = ap calls_alone fails

-- and a log with that is a log
is_log : (digest : List ℕ → List ℕ) (bytes : List ℕ) (log : KeptLog) → IsKept digest bytes log → IsLog (read_by digest bytes) (bare log)
unfolding log_in
is_log digest bytes log is = record { whole = is.whole; reads = ap calls_alone is.reads }

are_logs : (digest : List ℕ → List ℕ) (bytes : List (List ℕ)) (logs : List KeptLog) → AreKept digest bytes logs → AreLogs (read_by digest) bytes (map bare logs)
are_logs digest [] [] are = tt
are_logs digest [] (log ∷ logs) are = absurd are
are_logs digest (b ∷ bytes) [] are = absurd are
are_logs digest (b ∷ bytes) (log ∷ logs) are = (is_log digest b log are.0, are_logs digest bytes logs are.1)

kept_more : (digest : List ℕ → List ℕ) (bytes : List (List ℕ)) (logs : List KeptLog) (b : List ℕ) (log : KeptLog) → AreKept digest bytes logs → IsKept digest b log → AreKept digest (bytes ++ b ∷ []) (logs ++ log ∷ [])
kept_more digest [] [] b log are is = (is, tt)
kept_more digest [] (l ∷ logs) b log are is = absurd are
kept_more digest (c ∷ bytes) [] b log are is = absurd are
kept_more digest (c ∷ bytes) (l ∷ logs) b log are is = (are.0, kept_more digest bytes logs b log are.1 is)

-- no log is told yet
pub no_logs : (digest : List ℕ → List ℕ) (old : List ℕ) → TellsLogs digest [] old old
no_logs digest old = record { logs = []; read = tt; is = λ routes. no_rows Csv old }

rows_more : (ctx : Context) (logs : List KeptLog) (log : KeptLog) → logs_rows ctx (logs ++ log ∷ []) ≡ logs_rows ctx logs ++ log_rows ctx log
rows_more ctx logs log = flat_map-append (log_rows ctx) logs (log ∷ []) ∙ ap (λ (rows : List Row). logs_rows ctx logs ++ rows) (append-nil (log_rows ctx log))

-- one log more
pub logs_more : (digest : List ℕ → List ℕ) (xs : List (Vec ℕ)) (x : Vec ℕ) (old between new : List ℕ) → TellsLogs digest (bytes_of xs) old between → TellsLog digest x.items between new → TellsLogs digest (bytes_of (xs ++ x ∷ [])) old new
logs_more digest xs x old between new so_far one =
    subst (λ (bs : List (List ℕ)). TellsLogs digest bs old new) (sym (bytes_more xs x)) (record {
      logs = so_far.logs ++ one.log ∷ [];
      read = kept_more digest (bytes_of xs) so_far.logs x.items one.log so_far.read one.read;
      is = λ routes.
          let ctx = bytes_with routes in
          rows_join Csv old between new (logs_rows ctx so_far.logs) (log_rows ctx one.log) (so_far.is routes) (one.is routes)
          ∙ ap (λ (rows : List Row). old ++ rows_text Csv rows) (sym (rows_more ctx so_far.logs one.log));
    })

-- the logs so far were told, and the next is none
pub no_log_told : (digest : List ℕ → List ℕ) (xs : List (Vec ℕ)) (x : Vec ℕ) (more all : List (Vec ℕ)) (old new : List ℕ) (place : ℕ) (why : AuditFault) → xs ++ x ∷ more ≡ all → place ≡ length xs
    → TellsLogs digest (bytes_of xs) old new → IsNotKept digest x.items place why → AreNoLogs (read_by digest) (bytes_of all) why
no_log_told digest xs x more all old new place OutOfMemory is at told none = tt
no_log_told digest xs x more all old new place Settings is at told none = absurd none
no_log_told digest xs x more all old new place (World why) is at told none = absurd none
no_log_told digest xs x more all old new place (Log here fault) is at told (same, (known, fails)) = record {
  before = bytes_of xs;
  one = x.items;
  behind = bytes_of more;
  is = sym (map-append (λ (bytes : Vec ℕ). bytes.items) xs (x ∷ more)) ∙ ap bytes_of is;
  count = length-map xs (λ (bytes : Vec ℕ). bytes.items) ∙ (sym at ∙ sym same);
  logs = map bare told.logs;
  are = are_logs digest (bytes_of xs) told.logs told.read;
  known = known;
  fails = fails_alone (digest x.items) x.items fault fails;
}
no_log_told digest xs x more all old new place (Reference here call fault) is at told none = absurd none
no_log_told digest xs x more all old new place NoLine is at told none = absurd none

-- names, and rows after them
pub table_is : (ctx : Context) (logs : List KeptLog) (none names out : List ℕ) → none ≡ [] → names ≡ none ++ head_text call_names → out ≡ names ++ rows_text Csv (logs_rows ctx logs) → out ≡ calls_csv ctx logs
unfolding calls_csv
table_is ctx logs none names out empty named told =
    told ∙ ap (λ (t : List ℕ). t ++ rows_text Csv (logs_rows ctx logs)) (named ∙ ap (λ (t : List ℕ). t ++ head_text call_names) empty)

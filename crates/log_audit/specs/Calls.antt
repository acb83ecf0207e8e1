-- The records of logs, each as a row: what it was, when it was made, what its caller calls it, and of which transaction it is.
use Rattle.std.specs.Prelude.{◌≡◌, ⊤, ℕ, zero, suc, ◌+◌, ◌++◌, List, [], ◌∷◌, codes, Option, Some, None, Ok, Err, ◌≢◌}
use Rattle.std.specs.List.{flat_map}
use Rattle.bin_routes.specs.Table.{RouteMaps}
use Rattle.claim_model.specs.Words.{SetPrice, SetTerms}
use Rattle.claim_model.specs.Bytes.{bytes_with}
use Rattle.claim_model.specs.Context.{Context}
use Rattle.claim_model.specs.Node.{Node, Call, Submit, Tick, Take, Stop, Start, Revise, OfPlan, OfRule, OfCap, Adjudicate}
use Rattle.kept_logs.specs.Stamps.{Stamped, KeptLog}
use Rattle.kept_logs.specs.Logs.{kept_in}
use Rattle.settings_digest.specs.Digests.{digest_under}
use Rattle.table_text.specs.Members.{Member, Nothing, Row}
use Rattle.table_text.specs.Rows.{head_text, rows_text}
use Rattle.table_text.specs.declared.layout.Style.TheVariants.{Csv}
use Rattle.kept_logs.specs.declared.fault.LogFault.TheVariants as log_fault
use Rattle.log_audit.specs.declared.fault.AuditFault.{AuditFault}
use Rattle.log_audit.specs.declared.fault.AuditFault.TheVariants.{OutOfMemory, Settings, World, Log, Reference, NoLine}
use Rattle.log_audit.specs.Kinds.{number_member, text_member, optional_member, node_member, number_of}
use Rattle.log_audit.specs.Packets.{Load, load_of}

abbrev pub call_word : Call → List ℕ
call_word (Submit text) = codes "submission"
call_word Tick = codes "tick"
call_word (Take from bytes) = codes "packet"
call_word Stop = codes "stop"
call_word Start = codes "start"
call_word (Revise (OfPlan (SetPrice product price))) = codes "price"
call_word (Revise (OfPlan (SetTerms fee copay))) = codes "terms"
call_word (Revise (OfRule rule)) = codes "retry"
call_word (Revise (OfCap most)) = codes "cap"
call_word (Adjudicate from bytes advice) = codes "adjudication"

-- how many submissions a call is
abbrev pub submissions_in : Call → ℕ
submissions_in (Submit text) = 1
submissions_in Tick = 0
submissions_in (Take from bytes) = 0
submissions_in Stop = 0
submissions_in Start = 0
submissions_in (Revise change) = 0
submissions_in (Adjudicate from bytes advice) = 0

abbrev pub no_load : Load
no_load = record { kind = []; pharmacy = None; number = None }

-- what a call on a node carries: the request of a submission, by its pharmacy and by how many submissions there are up to it; what a packet carries; else nothing
abbrev pub call_load : Context → Node → ℕ → Call → Load
call_load ctx node submissions (Submit text) = record { kind = codes "request"; pharmacy = Some (number_of node); number = Some submissions }
call_load ctx node submissions Tick = no_load
call_load ctx node submissions (Take from bytes) = load_of (ctx.read_envelope bytes)
call_load ctx node submissions Stop = no_load
call_load ctx node submissions Start = no_load
call_load ctx node submissions (Revise change) = no_load
call_load ctx node submissions (Adjudicate from bytes advice) = load_of (ctx.read_envelope bytes)

-- when a call was made; nothing, where the host did not say
abbrev pub time_said : ℕ → Option ℕ
time_said zero = None
time_said (suc time) = Some (suc time)

abbrev pub nobody : Member
nobody = record { name = codes "from"; value = Nothing }

-- who sent a packet
abbrev pub sender_member : Call → Member
sender_member (Submit text) = nobody
sender_member Tick = nobody
sender_member (Take from bytes) = node_member (codes "from") from
sender_member Stop = nobody
sender_member Start = nobody
sender_member (Revise change) = nobody
sender_member (Adjudicate from bytes advice) = node_member (codes "from") from

-- the row of a record with this load, which stands at this place of a node's log, from 1
unfoldable pub noted_row : Node → ℕ → Stamped → Load → Row
noted_row node place r load =
    node_member (codes "node") node ∷
    number_member (codes "call") place ∷
    optional_member (codes "time") (time_said r.stamp.time) ∷
    text_member (codes "reference") r.stamp.reference ∷
    text_member (codes "kind") (call_word r.logged.call) ∷
    sender_member r.logged.call ∷
    text_member (codes "carries") load.kind ∷
    optional_member (codes "pharmacy") load.pharmacy ∷
    optional_member (codes "number") load.number ∷ []

-- the row of a record up to which the log has this many submissions
abbrev pub call_row : Context → Node → ℕ → ℕ → Stamped → Row
call_row ctx node place submissions r = noted_row node place r (call_load ctx node submissions r.logged.call)

-- the rows of records from this place on, after this many submissions
abbrev pub call_rows : Context → Node → ℕ → ℕ → List Stamped → List Row
call_rows ctx node place submissions [] = []
call_rows ctx node place submissions (r ∷ more) =
    call_row ctx node place (submissions + submissions_in r.logged.call) r ∷ call_rows ctx node (place + 1) (submissions + submissions_in r.logged.call) more

abbrev pub log_rows : Context → KeptLog → List Row
log_rows ctx log = call_rows ctx log.node 1 0 log.calls

-- the rows of logs, in order
abbrev pub logs_rows : Context → List KeptLog → List Row
logs_rows ctx logs = flat_map (log_rows ctx) logs

-- the names of the columns
abbrev pub call_names : List (List ℕ)
call_names = codes "node" ∷ codes "call" ∷ codes "time" ∷ codes "reference" ∷ codes "kind" ∷ codes "from" ∷ codes "carries" ∷ codes "pharmacy" ∷ codes "number" ∷ []

-- the records of logs as a table
unfoldable pub calls_csv : Context → List KeptLog → List ℕ
calls_csv ctx logs = head_text call_names ++ rows_text Csv (logs_rows ctx logs)

-- ---- of bytes

-- bytes are a log under settings of the digest that such bytes have, with what was noted of its calls, up to a record that is cut off
pub record IsKept (digest : List ℕ → List ℕ) (bytes : List ℕ) (log : KeptLog) : Type 0 where
  pub whole : ℕ
  pub reads : kept_in (digest bytes) bytes ≡ Ok (record { log = log; whole = whole })

-- each of some bytes is a log, in order
abbrev pub AreKept : (List ℕ → List ℕ) → List (List ℕ) → List KeptLog → Type 0
AreKept digest [] [] = ⊤
AreKept digest [] (log ∷ logs) = ⊥
AreKept digest (bytes ∷ more) [] = ⊥
AreKept digest (bytes ∷ more) (log ∷ logs) = IsKept digest bytes log × AreKept digest more logs

-- this is the table of the logs that bytes are under the settings that a text spells, whatever their routes
pub record IsCallsTable (text : List ℕ) (bytes : List (List ℕ)) (out : List ℕ) : Type 0 where
  pub logs : List KeptLog
  pub read : AreKept (digest_under text) bytes logs
  pub is : (routes : RouteMaps) → out ≡ calls_csv (bytes_with routes) logs

-- ---- on the way

-- bytes at a place are no log
abbrev pub IsNotKept : (List ℕ → List ℕ) → List ℕ → ℕ → AuditFault → Type 0
IsNotKept digest bytes place OutOfMemory = ⊤
IsNotKept digest bytes place Settings = ⊥
IsNotKept digest bytes place (World why) = ⊥
IsNotKept digest bytes place (Log at fault) = (at ≡ place) × ((fault ≢ log_fault.OutOfMemory) × (kept_in (digest bytes) bytes ≡ Err fault))
IsNotKept digest bytes place (Reference at call fault) = ⊥
IsNotKept digest bytes place NoLine = ⊥

-- bytes are a log, and its rows come after what was there
pub record TellsLog (digest : List ℕ → List ℕ) (bytes old new : List ℕ) : Type 0 where
  pub log : KeptLog
  pub read : IsKept digest bytes log
  pub is : (routes : RouteMaps) → new ≡ old ++ rows_text Csv (log_rows (bytes_with routes) log)

-- each of some bytes is one, and their rows come after what was there
pub record TellsLogs (digest : List ℕ → List ℕ) (bytes : List (List ℕ)) (old new : List ℕ) : Type 0 where
  pub logs : List KeptLog
  pub read : AreKept digest bytes logs
  pub is : (routes : RouteMaps) → new ≡ old ++ rows_text Csv (logs_rows (bytes_with routes) logs)

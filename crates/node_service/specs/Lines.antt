-- Lines one after another, and the log that they leave.
use Rattle.std.specs.Prelude.{◌≡◌, ℕ, cond, List, [], ◌∷◌, ◌++◌, length, Option, Some, None, Ok}
use Rattle.claim_model.specs.Node.{Node, Call, Outcome, Done, Refused}
use Rattle.claim_model.specs.Nodes.{AnyNode, node_step}
use Rattle.claim_model.specs.Logs.{Logged}
use Rattle.world_setup.specs.Seen.{call_seen}
use Rattle.crash_safety.specs.Network.{Process, file, crashed}
use Rattle.crash_safety.specs.Steps.{replayed_from}
use Rattle.node_logged.specs.Setting.{context_of}
use Rattle.kept_logs.specs.Digests.{version_of}
use Rattle.kept_logs.specs.Logs.{kept_text, log_in}
use Rattle.kept_logs.specs.Fits.{FitsKept}
use Rattle.kept_logs.specs.Stamps.{Stamp, Stamped, KeptLog, bare_calls}
use Rattle.kept_logs.specs.Rests.{begins}
use Rattle.settings_digest.specs.Digests.{turned_under}
use Rattle.node_service.specs.Asking.{Asked, Calls, Tells, asked_of}
use Rattle.node_service.specs.Serving.{Serving, after_line, is_idle_call, known}
use Rattle.node_service.specs.Opened.{IsOpened, MakesAll, referred_behind, replayed_behind}

-- what is made of it, with the records and the words of another in front
abbrev pub joined : Serving → Serving → Serving
joined s t = record { settings = t.settings; node = t.node; version = t.version; state = t.state; calls = t.calls; references = t.references; records = s.records ++ t.records; out = s.out ++ t.out }

-- what lines make of it, one after another
abbrev pub after_lines : Serving → List (List ℕ) → Serving
after_lines s [] = s
after_lines s (line ∷ lines) = after_lines (after_line s line) lines

-- a call that is made is logged with what it sent and what was noted of it
abbrev pub kept_call : Stamp → Call → Outcome AnyNode → List Stamped
kept_call stamp call (Done next sent) = record { logged = record { call = call; sent = sent }; stamp = stamp } ∷ []
kept_call stamp call (Refused why) = []

-- but for a tick that changes nothing and sends nothing
abbrev pub kept_making : Serving → Stamp → Call → List Stamped
kept_making s stamp call = cond (is_idle_call s.state call) [] (kept_call stamp call (node_step (context_of s.settings) s.state call))

abbrev pub kept_once : Serving → Stamp → Call → Option ℕ → List Stamped
kept_once s stamp call (Some number) = []
kept_once s stamp call None = kept_making s stamp call

abbrev pub kept_asked : Serving → Option Asked → List Stamped
kept_asked s None = []
kept_asked s (Some (Calls n)) = kept_once s n.stamp (call_seen n.call) (known s.references n.stamp.reference (call_seen n.call))
kept_asked s (Some (Tells question)) = []

-- the records that a line adds to the log: one, or none
abbrev pub line_kept : Serving → List ℕ → List Stamped
line_kept s line = kept_asked s (asked_of line)

-- the calls of these
abbrev pub line_calls : Serving → List ℕ → List Logged
line_calls s line = bare_calls (line_kept s line)

-- the records that lines add to the log
abbrev pub lines_kept : Serving → List (List ℕ) → List Stamped
lines_kept s [] = []
lines_kept s (line ∷ lines) = line_kept s line ++ lines_kept (after_line s line) lines

-- the calls that lines add to the log
abbrev pub lines_calls : Serving → List (List ℕ) → List Logged
lines_calls s [] = []
lines_calls s (line ∷ lines) = line_calls s line ++ lines_calls (after_line s line) lines

-- a log with more records
abbrev pub with_records : KeptLog → List Stamped → KeptLog
with_records log more = record { node = log.node; calls = log.calls ++ more }

-- the node that is served makes this log, and is its replay, with the references of all submissions; the bytes of its file, and after them the records
-- that are to be appended, are its text
pub record IsServing (rest : Option (List ℕ)) (digest : List ℕ) (bytes : List ℕ) (log : KeptLog) (s : Serving) : Type 0 where
  pub named : s.node ≡ log.node
  pub version : s.version ≡ version_of digest
  pub calls : s.calls ≡ length log.calls
  pub makes : MakesAll s.settings log.node rest (bare_calls log.calls)
  pub state : replayed_behind s.settings log.node rest (bare_calls log.calls) ≡ Some s.state
  pub text : bytes ++ s.records ≡ kept_text digest log
  pub fits : FitsKept log
  pub references : s.references ≡ referred_behind s.settings log.node rest log.calls

-- a node is opened again as it was: the same version of its log, the same calls and references, the same state, nothing to append
pub record IsSame (s t : Serving) : Type 0 where
  pub node : t.node ≡ s.node
  pub version : t.version ≡ s.version
  pub state : t.state ≡ s.state
  pub calls : t.calls ≡ s.calls
  pub references : t.references ≡ s.references
  pub records : t.records ≡ []
  pub silent : t.out ≡ []

-- a file that a crash has left, of a process whose synced calls' text it has: it is read as the log of that process, crashed with this many calls
-- left, and the node that is opened from it is the one that this process restarts with
pub record IsRestart (settings : List ℕ) (node : Node) (rest : Option (List ℕ)) (p : Process) (image : List ℕ) : Type 0 where
  pub left : ℕ
  pub whole : ℕ
  pub reads : log_in (turned_under settings rest image) image ≡ Ok (record { log = record { node = node; calls = file (crashed p left) }; whole = whole })
  pub restarts : (s : Serving) (kept : ℕ) → IsOpened settings node rest image kept s → replayed_from (context_of s.settings) (begins s.settings node rest) (file (crashed p left)) ≡ Some s.state

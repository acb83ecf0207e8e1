-- What is read, as the model sees it.
use Rattle.std.specs.Prelude.{◌≡◌, ℕ, List, length, map, Result, Ok}
use Rattle.claim_model.specs.Node.{Node}
use Rattle.world_setup.specs.Seen.{call_seen, node_seen, sent_seen}
use Rattle.claim_model.specs.Logs.{Logged, NodeLog}
use Rattle.node_log.specs.LogSeen.{log_seen}
use Rattle.kept_logs.specs.Stamps.{Stamp, Stamped, bare_calls}
use Rattle.kept_logs.specs.Logs.{KeptReading, Reading}
use Rattle.kept_logs.specs.declared.fault.LogFault.{LogFault}
use Rattle.kept_logs.specs.declared.records.Entry.{Entry}
use Rattle.kept_logs.specs.declared.stamps.Stamp.{Stamp as Noted}
use Rattle.kept_logs.specs.declared.logs.ReadLog.{ReadLog}
use Rattle.kept_logs.specs.declared.kept.KeptLog.{KeptLog as Kept}

-- what was noted of a call
abbrev pub stamp_seen : Noted → Stamp
stamp_seen stamp = record { time = stamp.time; reference = stamp.reference.now }

-- an accepted call, and what was noted of it
abbrev pub call_alone : Entry → Logged
call_alone e = record { call = call_seen e.call; sent = map sent_seen e.sent.items }

abbrev pub entry_seen : Entry → Stamped
entry_seen e = record { logged = call_alone e; stamp = stamp_seen e.stamp }

-- a log that was read
abbrev pub reading_seen : ReadLog → Reading
reading_seen read = record { log = log_seen read.log; whole = read.whole }

-- a reading gives the calls of this log, which is of this node, and leaves this many bytes
pub record CallsAre (reading : Result (List Stamped × List ℕ) LogFault) (log : NodeLog) (node : Node) (left : ℕ) : Type 0 where
  pub calls : List Stamped
  pub rest : List ℕ
  pub read : reading ≡ Ok (calls, rest)
  pub are : bare_calls calls ≡ log.calls
  pub same : log.node ≡ node
  pub count : length rest ≡ left

-- a log that was read with what was noted of its calls
abbrev pub kept_seen : Kept → KeptReading
kept_seen read = record { log = record { node = node_seen read.node; calls = read.calls.items }; whole = read.whole }

-- a reading gives these records, and leaves this many bytes
pub record AreRead (reading : Result (List Stamped × List ℕ) LogFault) (calls : List Stamped) (left : ℕ) : Type 0 where
  pub rest : List ℕ
  pub read : reading ≡ Ok (calls, rest)
  pub count : length rest ≡ left

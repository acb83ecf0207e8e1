-- A log that was closed, and the one in which its node goes on.
use Rattle.std.specs.Prelude.{◌≡◌, ◌⊎◌, ℕ, ◌+◌, List, [], ◌++◌, length, take, Option, Some}
use Rattle.std.specs.List.{AllByRecursion}
use Rattle.sha2.specs.Sha256.{sha256}
use Rattle.claim_model.specs.Node.{Node, Stop, Start}
use Rattle.world_setup.specs.Seen.{settings_seen}
use Rattle.node_state.specs.Resting.{resumed}
use Rattle.kept_logs.specs.Stamps.{Stamped, KeptLog}
use Rattle.kept_logs.specs.Logs.{kept_text}
use Rattle.kept_logs.specs.Rests.{Rest, begins, calls_before, rest_in}
use Rattle.settings_digest.specs.Digests.{turned_in, turned_under}
use Rattle.node_service.specs.Serving.{Serving}
use Rattle.node_service.specs.Opened.{IsOpened, Spells}
use Rattle.node_service.specs.Lines.{IsServing}
use Rattle.log_turning.specs.declared.turning.Closed.{Closed}
use Rattle.log_turning.specs.declared.turning.Turned.{Turned}

-- a stop or a start
abbrev pub IsEnd : Stamped → Type 0
IsEnd r = (r.logged.call ≡ Stop) ⊎ (r.logged.call ≡ Start)

-- a node is served from what stays of these bytes, and from the records that are to be appended there: it was opened from them, and has made stops and
-- starts alone since
pub record Serves (text : List ℕ) (node : Node) (rest : Option (List ℕ)) (bytes : List ℕ) (kept : ℕ) (s : Serving) : Type 0 where
  pub spells : Spells text s.settings
  pub named : s.node ≡ node
  pub log : KeptLog
  pub own : log.node ≡ node
  pub served : IsServing rest (turned_under text rest bytes) (take kept bytes) log s
  pub start : Serving
  pub opened : IsOpened text node rest bytes kept start
  pub more : List Stamped
  pub calls : log.calls ≡ opened.log.calls ++ more
  pub ends : AllByRecursion IsEnd more

-- a node goes on to be served from what it was served from
abbrev pub ServesOn : Serving → Serving → Type 0
ServesOn s t = (text : List ℕ) (node : Node) (rest : Option (List ℕ)) (bytes : List ℕ) (kept : ℕ) → Serves text node rest bytes kept s → Serves text node rest bytes kept t

-- the node that is served stands as its settings start it from this record
abbrev pub IsStarted : Serving → List ℕ → Type 0
IsStarted s kept = resumed (settings_seen s.settings) s.node kept ≡ Some s.state

-- the log of a node is closed: the node was started from the record that it left at rest, and its calls are those that the log has then
pub record IsClosed (text : List ℕ) (node : Node) (rest : Option (List ℕ)) (bytes : List ℕ) (closed : Closed) : Type 0 where
  pub last : Serving
  pub serves : Serves text node rest bytes closed.kept last
  pub started : IsStarted last closed.record.items
  pub closing : closed.closing.items ≡ last.records
  pub calls : closed.calls ≡ last.calls
  pub referred : closed.references.items ≡ last.references

-- a log that is new, and begins with this rest; its node makes its calls, which are stops and starts alone
pub record IsNew (text : List ℕ) (node : Node) (rest log : List ℕ) : Type 0 where
  pub next : Serving
  pub spelled : Spells text next.settings
  pub begun : KeptLog
  pub same : begun.node ≡ node
  pub ends : AllByRecursion IsEnd begun.calls
  pub log_is : log ≡ kept_text (turned_in text (Some rest)) begun
  pub serves : IsServing (Some rest) (turned_in text (Some rest)) [] begun next

-- a log that opens is closed by stops and starts alone, which its node makes; and the new log, whose calls are stops and starts alone that its node makes too,
-- begins with the very node that stands at the end of the closed one
pub record IsTurned (text : List ℕ) (node : Node) (rest : Option (List ℕ)) (bytes : List ℕ) (turned : Turned) : Type 0 where
  pub last : Serving
  pub spells : Spells text last.settings
  pub closed : KeptLog
  pub own : closed.node ≡ node
  -- all records of the log that the bytes are, and after them stops and starts alone
  pub start : Serving
  pub opened : IsOpened text node rest bytes turned.kept start
  pub more : List Stamped
  pub longer : closed.calls ≡ opened.log.calls ++ more
  pub ends : AllByRecursion IsEnd more
  -- what stays of the bytes, and what is appended, are the text of the closed log, which the node makes
  pub file : take turned.kept bytes ++ turned.closing.items ≡ kept_text (turned_under text rest bytes) closed
  pub served : IsServing rest (turned_under text rest bytes) (take turned.kept bytes) closed last
  -- the new log begins with the node that makes it, and has stops and starts alone
  pub goes_on : begins last.settings node (Some turned.rest.items) ≡ Some last.state
  pub next : Serving
  pub spelled : Spells text next.settings
  pub begun : KeptLog
  pub same : begun.node ≡ node
  pub stops : AllByRecursion IsEnd begun.calls
  pub log : turned.log.items ≡ kept_text (turned_in text (Some turned.rest.items)) begun
  pub serves : IsServing (Some turned.rest.items) (turned_in text (Some turned.rest.items)) [] begun next
  -- what it begins with names the closed one, and has the references of all submissions
  pub begins_with : Rest
  pub reads : rest_in turned.rest.items ≡ Some begins_with
  pub digest : begins_with.closed ≡ sha256 (take turned.kept bytes ++ turned.closing.items)
  pub calls : begins_with.calls ≡ turned.calls
  pub counted : turned.calls ≡ calls_before rest + length closed.calls
  pub referred : begins_with.references ≡ last.references

-- The node that is served, from the bytes of its log.
use Rattle.std.specs.Prelude.{◌≡◌, ◌⊎◌, ⊤, ℕ, zero, List, [], ◌++◌, take, length, Option, Some, None, Result, Ok, Err}
use Rattle.claim_model.specs.Node.{Node}
use Rattle.claim_model.specs.Nodes.{AnyNode}
use Rattle.claim_model.specs.Context.{Context}
use Rattle.claim_model.specs.Logs.{Logged, Makes}
use Rattle.world_setup.specs.declared.settings.WorldSettings.{WorldSettings}
pub use Rattle.world_settings.specs.Checked.{Spells}
use Rattle.kept_logs.specs.declared.fault.LogFault.{LogFault}
use Rattle.kept_logs.specs.declared.fault.LogFault.TheVariants.{Short}
use Rattle.kept_logs.specs.Digests.{version_of}
use Rattle.kept_logs.specs.Logs.{Reading, kept_text, kept_in, log_in}
use Rattle.kept_logs.specs.Fits.{FitsKept}
use Rattle.kept_logs.specs.declared.making.MadeLog.{MadeLog}
use Rattle.kept_logs.specs.Rests.{begins, references_before}
use Rattle.kept_logs.specs.Stamps.{Stamped, KeptLog, bare_calls}
use Rattle.kept_logs.specs.References.{Reference, references_in}
use Rattle.settings_digest.specs.Digests.{AreOf, turned_under}
use Rattle.settings_digest.specs.declared.digests.Digests.{Digests}
use Rattle.crash_safety.specs.Steps.{replayed_from}
use Rattle.node_logged.specs.Setting.{context_of}
use Rattle.node_service.specs.Serving.{Serving}

-- settings that nodes share, and the digests under which logs are of them
pub record Sharing : Type 0 where
  pub settings : WorldSettings
  pub digests : Digests

-- these are the settings that a text spells, and their digests
pub record IsSharing (text : List ℕ) (s : Sharing) : Type 0 where
  pub spells : Spells text s.settings
  pub digests : AreOf text s.digests

-- the node of that name, from what its log begins with, makes these calls, and sends with each every byte that the log has as sent
abbrev pub MakesAll : WorldSettings → Node → Option (List ℕ) → List Logged → Type 0
MakesAll settings node rest calls = (before : AnyNode) → begins settings node rest ≡ Some before → Makes (context_of settings) before calls

-- the node of that name after these calls, from what its log begins with
abbrev pub replayed_behind : WorldSettings → Node → Option (List ℕ) → List Logged → Option AnyNode
replayed_behind settings node rest calls = replayed_from (context_of settings) (begins settings node rest) calls

-- the references of calls, from what a log begins with
abbrev pub referred_from : Context → Option AnyNode → List Stamped → List Reference
referred_from ctx None calls = []
referred_from ctx (Some before) calls = references_in ctx before calls

-- the references of the submissions of closed logs and of a log's own
abbrev pub referred_behind : WorldSettings → Node → Option (List ℕ) → List Stamped → List Reference
referred_behind settings node rest calls = references_before rest ++ referred_from (context_of settings) (begins settings node rest) calls

-- a node's log with no call
abbrev pub empty_log : Node → KeptLog
empty_log node = record { node = node; calls = [] }

-- a log that was read, or begun: its calls, how many of the bytes stay, and what is to be appended. What is after those bytes is a record
-- that was cut off. Where the bytes end before the head does, none stay, and the head is to be appended
abbrev pub IsBegun : List ℕ → Node → List ℕ → KeptLog → ℕ → List ℕ → Type 0
IsBegun digest node bytes log kept records =
    ((kept_in digest bytes ≡ Ok (record { log = log; whole = kept })) × (records ≡ []))
    ⊎ ((kept_in digest bytes ≡ Err Short) × ((log ≡ empty_log node) × ((kept ≡ zero) × (records ≡ kept_text digest (empty_log node)))))

-- the node that is served makes the log that the bytes are, from the opening of the settings that the text spells, or where the log goes on after closed
-- ones, from the rest that it begins with; and is its replay, with the references of all submissions
pub record IsOpened (settings : List ℕ) (node : Node) (rest : Option (List ℕ)) (bytes : List ℕ) (kept : ℕ) (s : Serving) : Type 0 where
  pub spells : Spells settings s.settings
  pub named : s.node ≡ node
  pub version : s.version ≡ version_of (turned_under settings rest bytes)
  pub log : KeptLog
  pub own : log.node ≡ node
  pub begun : IsBegun (turned_under settings rest bytes) node bytes log kept s.records
  pub text : take kept bytes ++ s.records ≡ kept_text (turned_under settings rest bytes) log
  pub fits : FitsKept log
  pub calls : s.calls ≡ length log.calls
  pub makes : MakesAll s.settings node rest (bare_calls log.calls)
  pub state : replayed_behind s.settings node rest (bare_calls log.calls) ≡ Some s.state
  pub references : s.references ≡ referred_behind s.settings node rest log.calls
  pub silent : s.out ≡ []

-- bytes are the log of this node, which makes each call of it and is then this one; they begin with its text
pub record IsMadeLog (settings : WorldSettings) (rest : Option (List ℕ)) (digest : List ℕ) (node : Node) (bytes : List ℕ) (made : MadeLog) : Type 0 where
  pub log : KeptLog
  pub own : log.node ≡ node
  pub read : kept_in digest bytes ≡ Ok (record { log = log; whole = made.whole })
  pub text : take made.whole bytes ≡ kept_text digest log
  pub fits : FitsKept log
  pub calls : made.calls ≡ length log.calls
  pub makes : MakesAll settings node rest (bare_calls log.calls)
  pub state : replayed_behind settings node rest (bare_calls log.calls) ≡ Some made.node
  pub referred : made.references.items ≡ referred_from (context_of settings) (begins settings node rest) log.calls

-- what bytes are read as is not a log that this node makes from what it begins with: they are no log, or another node's, or it does not make each call
abbrev pub IsUnmade : WorldSettings → Node → Option (List ℕ) → Result Reading LogFault → Type 0
IsUnmade settings node rest (Ok read) = read.log.node ≡ node → MakesAll settings node rest read.log.calls → ⊥
IsUnmade settings node rest (Err why) = ⊤

-- there is a node exactly where the bytes are its log, which it makes
abbrev pub IsRead : WorldSettings → Option (List ℕ) → List ℕ → Node → List ℕ → Option MadeLog → Type 0
IsRead settings rest digest node bytes None = IsUnmade settings node rest (log_in digest bytes)
IsRead settings rest digest node bytes (Some made) = IsMadeLog settings rest digest node bytes made

-- the node that is served is this one, under these settings, with a log of this version, and these references from before it; this many bytes stay, and
-- nothing is to be appended
pub record IsServedAs (settings : WorldSettings) (node : Node) (log_version : ℕ) (before : List Reference) (made : MadeLog) (stay : ℕ) (s : Serving) : Type 0 where
  pub own : s.settings ≡ settings
  pub named : s.node ≡ node
  pub version : s.version ≡ log_version
  pub calls : s.calls ≡ made.calls
  pub state : s.state ≡ made.node
  pub references : s.references ≡ before ++ made.references.items
  pub append : s.records ≡ []
  pub silent : s.out ≡ []
  pub stays : stay ≡ made.whole

-- the node that is served has no call yet: it is the one that its log begins with, with the references from before the log, whose head is to be appended
pub record IsServedNew (settings : WorldSettings) (node : Node) (digest : List ℕ) (rest : Option (List ℕ)) (s : Serving) : Type 0 where
  pub own : s.settings ≡ settings
  pub named : s.node ≡ node
  pub version : s.version ≡ version_of digest
  pub calls : s.calls ≡ 0
  pub state : begins settings node rest ≡ Some s.state
  pub references : s.references ≡ references_before rest
  pub append : s.records ≡ kept_text digest (empty_log node)
  pub fits : FitsKept (empty_log node)
  pub silent : s.out ≡ []

-- the same, of bytes that end before the head of a log does, of which none stay
pub record IsBegunAs (settings : WorldSettings) (digest : List ℕ) (node : Node) (rest : Option (List ℕ)) (bytes : List ℕ) (stay : ℕ) (s : Serving) : Type 0 where
  pub short : log_in digest bytes ≡ Err Short
  pub new : IsServedNew settings node digest rest s
  pub none : stay ≡ 0

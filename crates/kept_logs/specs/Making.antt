-- A log that is made by its node as it is read.
use Rattle.std.specs.Prelude.{◌≡◌, ⊤, ℕ, List, length, Option, Some, None, Result, Ok, Err}
use Rattle.claim_model.specs.Context.{Context}
use Rattle.claim_model.specs.Node.{Node}
use Rattle.claim_model.specs.Nodes.{AnyNode}
use Rattle.claim_model.specs.Logs.{replay, Makes}
use Rattle.kept_logs.specs.Stamps.{Stamped, KeptLog, bare_calls}
use Rattle.kept_logs.specs.References.{Reference, references_in}
use Rattle.kept_logs.specs.declared.fault.LogFault.{LogFault}
use Rattle.kept_logs.specs.declared.making.MadeCalls.{MadeCalls}
use Rattle.kept_logs.specs.declared.making.MadeLog.{MadeLog}
use Rattle.kept_logs.specs.Logs.{Reading, kept_in, log_in, records_in}

-- the calls of the records of a log of this version that bytes are: a node makes each of them, this many, and is then this one; this many bytes are left;
-- and the references of these calls
pub record AreMade (ctx : Context) (before : AnyNode) (version total : ℕ) (bytes : List ℕ) (node : AnyNode) (count left : ℕ) (references : List Reference) : Type 0 where
  pub calls : List Stamped
  pub rest : List ℕ
  pub read : records_in version total bytes ≡ Ok (calls, rest)
  pub left_behind : length rest ≡ left
  pub number : length calls ≡ count
  pub makes : Makes ctx before (bare_calls calls)
  pub leads : node ≡ replay ctx before (bare_calls calls)
  pub referred : references ≡ references_in ctx before calls

-- bytes are the log of a node under settings of this digest; from this state it makes each call and sends each byte, and is then the one that stands
-- there, with this many calls, of which this many bytes are the text, and with their references
pub record IsMadeAsRead (ctx : Context) (before : AnyNode) (digest : List ℕ) (node : Node) (bytes : List ℕ) (made : MadeLog) : Type 0 where
  pub log : KeptLog
  pub own : log.node ≡ node
  pub read : kept_in digest bytes ≡ Ok (record { log = log; whole = made.whole })
  pub count : length log.calls ≡ made.calls
  pub makes : Makes ctx before (bare_calls log.calls)
  pub leads : made.node ≡ replay ctx before (bare_calls log.calls)
  pub referred : made.references.items ≡ references_in ctx before log.calls

-- what bytes are read as is not calls that a node makes from this state: they are no records, or it does not make each of them
abbrev pub AreNotMade : Context → AnyNode → Result (List Stamped × List ℕ) LogFault → Type 0
AreNotMade ctx before (Ok read) = Makes ctx before (bare_calls read.0) → ⊥
AreNotMade ctx before (Err why) = ⊤

-- what bytes are read as is not a log that this node makes from this state: they are no log, or another node's, or it does not make each call
abbrev pub IsNotMade : Context → AnyNode → Node → Result Reading LogFault → Type 0
IsNotMade ctx before node (Ok read) = read.log.node ≡ node → Makes ctx before read.log.calls → ⊥
IsNotMade ctx before node (Err why) = ⊤

abbrev pub AreMadeIf : Context → AnyNode → ℕ → ℕ → List ℕ → Option MadeCalls → Type 0
AreMadeIf ctx before version total bytes None = AreNotMade ctx before (records_in version total bytes)
AreMadeIf ctx before version total bytes (Some made) = AreMade ctx before version total bytes made.node made.calls made.torn made.references.items

-- there is a node exactly where the bytes are this node's log, which it makes
abbrev pub IsMadeIf : Context → AnyNode → List ℕ → Node → List ℕ → Option MadeLog → Type 0
IsMadeIf ctx before digest node bytes None = IsNotMade ctx before node (log_in digest bytes)
IsMadeIf ctx before digest node bytes (Some made) = IsMadeAsRead ctx before digest node bytes made

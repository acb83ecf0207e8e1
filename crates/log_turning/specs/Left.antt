-- What a closed log leaves, and the rest that the log after it begins with.
use Rattle.std.specs.Prelude.{◌≡◌, ◌≢◌, ◌⊎◌, ⊤, ℕ, List, [], ◌∷◌, ◌++◌, length, Option, Some, None}
use Rattle.sha2.specs.Sha256.{sha256}
use Rattle.claim_model.specs.Node.{Node}
use Rattle.kept_logs.specs.References.{Reference}
use Rattle.kept_logs.specs.Rests.{Rest, begins, calls_before, references_before, rest_text}
use Rattle.node_service.specs.declared.fault.ServiceFault.{ServiceFault}
use Rattle.node_service.specs.declared.fault.ServiceFault.TheVariants.{OutOfMemory}
use Rattle.node_service.specs.Refused.{IsRefused}
use Rattle.node_service.specs.Serving.{Serving}
use Rattle.log_turning.specs.declared.fault.RestFault.{RestFault}
use Rattle.log_turning.specs.declared.fault.RestFault.TheVariants as rest_fault
use Rattle.log_turning.specs.declared.turning.Closed.{Closed}
use Rattle.log_turning.specs.Joined.{Part, last_part}
use Rattle.log_turning.specs.Turned.{IsClosed, IsStarted, Serves}

-- what a node leaves after this many calls, with a log of these bytes as the last one
abbrev pub rest_of : Node → ℕ → List ℕ → List Reference → List ℕ → Rest
rest_of node calls closed references kept = record { node = node; calls = calls; closed = sha256 closed; references = references; kept = kept }

-- the node of a closed log is not served from it, for this cause
pub record IsUnmade (text : List ℕ) (node : Node) (closed : Part) : Type 0 where
  pub why : ServiceFault
  pub known : why ≢ OutOfMemory
  pub refused : IsRefused text node closed.rest closed.log why

-- a rest is byte for byte what the node of the closed log leaves, which makes that log, and is stopped and started there: a log that begins with it begins with
-- this very node, and with the references of all submissions
pub record IsLeftBy (text : List ℕ) (node : Node) (closed : Part) (rest : List ℕ) : Type 0 where
  pub kept : ℕ
  pub last : Serving
  pub serves : Serves text node closed.rest closed.log kept last
  pub left : List ℕ
  pub started : IsStarted last left
  pub is : rest ≡ rest_text (rest_of node (calls_before (Some rest)) closed.log last.references left)
  pub goes_on : begins last.settings node (Some rest) ≡ Some last.state
  pub referred : references_before (Some rest) ≡ last.references

-- and it is not
pub record IsOther (text : List ℕ) (node : Node) (closed : Part) (rest : List ℕ) : Type 0 where
  pub left : Closed
  pub is : IsClosed text node closed.rest closed.log left
  pub other : rest ≢ rest_text (rest_of node (calls_before (Some rest)) closed.log left.references.items left.record.items)

-- after a closed log that its node makes, a log begins with what it leaves. One that begins with no rest does not go on after another (`IsJoined`)
abbrev pub GoesBehind : List ℕ → Node → Part → Option (List ℕ) → Type 0
GoesBehind text node closed None = ⊤
GoesBehind text node closed (Some rest) = IsUnmade text node closed ⊎ IsLeftBy text node closed rest

abbrev pub GoesElsewhere : List ℕ → Node → Part → Option (List ℕ) → Type 0
GoesElsewhere text node closed None = ⊥
GoesElsewhere text node closed (Some rest) = IsOther text node closed rest

-- the first log has none before it here
abbrev pub IsLeft : List ℕ → Node → Option Part → Part → Type 0
IsLeft text node None p = ⊤
IsLeft text node (Some closed) p = GoesBehind text node closed p.rest

abbrev pub IsNotLeft : List ℕ → Node → Option Part → Part → Type 0
IsNotLeft text node None p = ⊥
IsNotLeft text node (Some closed) p = GoesElsewhere text node closed p.rest

-- each of these logs begins with what the one before it leaves
abbrev pub AreLeft : List ℕ → Node → Option Part → List Part → Type 0
AreLeft text node last [] = ⊤
AreLeft text node last (p ∷ more) = IsLeft text node last p × AreLeft text node (Some p) more

-- the first that does not stands at this place
pub record IsFirstOther (text : List ℕ) (node : Node) (parts : List Part) (place : ℕ) : Type 0 where
  pub before : List Part
  pub one : Part
  pub behind : List Part
  pub is : before ++ one ∷ behind ≡ parts
  pub count : length before ≡ place
  pub left : AreLeft text node None before
  pub other : IsNotLeft text node (last_part None before) one

abbrev pub IsUnleft : List ℕ → Node → List Part → RestFault → Type 0
IsUnleft text node parts rest_fault.OutOfMemory = ⊤
IsUnleft text node parts (rest_fault.Other place) = IsFirstOther text node parts place

-- The first call of a log that its node does not make.
use Rattle.std.specs.Prelude.{◌≡◌, ℕ, zero, suc, List, [], ◌∷◌, Option, Some, None, Result, Ok, Err}
use Rattle.claim_model.specs.Context.{Context}
use Rattle.claim_model.specs.Bytes.{bytes_with}
use Rattle.claim_model.specs.Settings.{opening}
use Rattle.claim_model.specs.Node.{Node, Done}
use Rattle.claim_model.specs.Nodes.{AnyNode, node_step, node_at}
use Rattle.claim_model.specs.Logs.{Logged, replay, Makes}
use Rattle.world_setup.specs.Seen.{settings_seen}
use Rattle.world_setup.specs.declared.settings.WorldSettings.{WorldSettings}
use Rattle.node_log.specs.Fits.{FitsBy, Fits}
use Rattle.node_log.specs.declared.misfit.FirstMisfit.{FirstMisfit}
use Rattle.world_setup.specs.Taken.{routes_in}

-- a node makes a call as the log has it, and is then in this state
abbrev pub Does : Context → AnyNode → Logged → AnyNode → Type 0
Does ctx s r after = node_step ctx s r.call ≡ Done after r.sent

-- a node refuses a call, or sends with it what the log does not have
abbrev pub DoesNot : Context → AnyNode → Logged → Type 0
DoesNot ctx s r = (after : AnyNode) → Does ctx s r after → ⊥

-- of these calls, the one at this place, from 0, is the first that a node in this state does not make as the log has it
abbrev pub BreaksAt : Context → AnyNode → List Logged → ℕ → Type 0
BreaksAt ctx s [] place = ⊥
BreaksAt ctx s (r ∷ more) zero = DoesNot ctx s r
BreaksAt ctx s (r ∷ more) (suc place) = FitsBy (λ after. BreaksAt ctx after more place) r.sent (node_step ctx s r.call)

-- the first misfit of these calls, where there is one; else all of them fit
abbrev pub IsFirst : Context → AnyNode → List Logged → Option FirstMisfit → Type 0
IsFirst ctx s calls None = Fits ctx s calls
IsFirst ctx s calls (Some first) = BreaksAt ctx s calls first.place

-- from this state a node makes all calls and is then this one; or it breaks at the first that it does not make
abbrev pub IsMadeFrom : Context → AnyNode → List Logged → Result AnyNode FirstMisfit → Type 0
IsMadeFrom ctx before calls (Ok node) = Makes ctx before calls × (node ≡ replay ctx before calls)
IsMadeFrom ctx before calls (Err first) = BreaksAt ctx before calls first.place

-- the same of the node of a name, from its opening state
pub record IsMade (s : WorldSettings) (node : Node) (calls : List Logged) (result : Result AnyNode FirstMisfit) : Type 0 where
  pub before : AnyNode
  pub opens : node_at (opening (settings_seen s)) node ≡ Some before
  pub made : IsMadeFrom (bytes_with (routes_in s)) before calls result

-- What a node begins with that was opened.
use Rattle.std.proofs.Common.{◌≡◌, ℕ, List, Option, Some, None, IsSome, refl}
use Rattle.claim_model.specs.Context.{Context}
use Rattle.claim_model.specs.Logs.{Logged}
use Rattle.claim_model.specs.Node.{Node}
use Rattle.claim_model.specs.Nodes.{AnyNode}
use Rattle.claim_model.specs.Settings.{WorldSettings as Model}
use Rattle.world_setup.specs.Seen.{settings_seen}
use Rattle.world_setup.specs.declared.settings.WorldSettings.{WorldSettings}
use Rattle.crash_safety.specs.Steps.{replayed_from}
use Rattle.kept_logs.specs.Rests.{Rest, IsRest, begins, begun_from, rest_in}
use Rattle.kept_logs.specs.Stamps.{bare_calls}
use Rattle.node_logged.specs.Setting.{context_of}
use Rattle.node_service.specs.Opened.{IsOpened}
use Rattle.node_service.specs.Serving.{Serving}

-- a replay has something to begin with
begun : (ctx : Context) (b : Option AnyNode) (calls : List Logged) (after : AnyNode) → replayed_from ctx b calls ≡ Some after → IsSome b
begun ctx None calls after is = absurd cc
begun ctx (Some before) calls after is = refl

-- a node is begun from a rest alone
rested : (s : Model) (node : Node) (o : Option Rest) → IsSome (begun_from s node o) → IsSome o
rested s node None h = absurd cc
rested s node (Some r) h = refl

is_rest : (s : WorldSettings) (node : Node) (rest : Option (List ℕ)) → IsSome (begins s node rest) → IsRest rest
is_rest s node None h = tt
is_rest s node (Some rest) h = rested (settings_seen s) node (rest_in rest) h

-- a node that was opened begins with nothing, or with what is a rest
pub begins_with_rest : (settings : List ℕ) (node : Node) (rest : Option (List ℕ)) (bytes : List ℕ) (kept : ℕ) (s : Serving) → IsOpened settings node rest bytes kept s → IsRest rest
begins_with_rest settings node rest bytes kept s opened = is_rest s.settings node rest (begun (context_of s.settings) (begins s.settings node rest) (bare_calls opened.log.calls) s.state opened.state)

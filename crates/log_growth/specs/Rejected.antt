-- Answers that a pharmacy has of a switch, to requests that had no route.
use Rattle.std.specs.Prelude.{◌≡◌, ℕ, zero, suc, ◌+◌, ◌&&◌, nat_lt, Bool, true, false, if◌then◌else◌, List, [], ◌∷◌, ◌++◌, Option, Some, None, option_and_then}
use Rattle.std.specs.Option.{option_map, option_map_or}
use Rattle.bin_routes.specs.Key.{RouteKey}
use Rattle.claim_model.specs.Words.{TxnId}
use Rattle.claim_model.specs.Context.{Context}
use Rattle.claim_model.specs.Readable.{readable, route_key}
use Rattle.claim_model.specs.Node.{Node, Pharmacy, Switch, Payer}
use Rattle.node_state.specs.Nodes.{entries_of, request_of, held_of}
use Rattle.node_logged.specs.Setting.{context_of}
use Rattle.node_service.specs.Opened.{IsOpened}
use Rattle.node_service.specs.Serving.{Serving}
use Rattle.request_route.specs.Routed.{is_rejected, is_routed}

abbrev pub id_of : ℕ → ℕ → TxnId
id_of pharmacy number = record { pharmacy = pharmacy; number = number }

abbrev pub rerouted_by : Context → TxnId → Option (List ℕ) → Option (List ℕ) → Bool
rerouted_by ctx id (Some answer) (Some request) = is_rejected answer && is_routed ctx id request
rerouted_by ctx id (Some answer) None = false
rerouted_by ctx id None request = false

-- the entry of a number has a switch's rejection, and its request has a route now
abbrev pub is_rerouted : Serving → ℕ → ℕ → Bool
is_rerouted s pharmacy number =
    nat_lt zero pharmacy && rerouted_by (context_of s.settings) (id_of pharmacy number) (held_of (context_of s.settings) s.state (id_of pharmacy number)) (request_of s.state number)

-- what a route may look at in a request
abbrev pub key_in : Context → Option (List ℕ) → Option RouteKey
key_in ctx request = option_map route_key (option_and_then (readable ctx) request)

-- that of such an entry
abbrev pub rerouted_key : Serving → ℕ → ℕ → Option RouteKey
rerouted_key s pharmacy number = if is_rerouted s pharmacy number then key_in (context_of s.settings) (request_of s.state number) else None

abbrev pub rerouted_at : ℕ → Option RouteKey → List (ℕ × RouteKey)
rerouted_at number key = option_map_or (λ (k : RouteKey). (number, k) ∷ []) key []

-- such entries among the first, this many, in order
abbrev pub rerouted_to : Serving → ℕ → ℕ → List (ℕ × RouteKey)
rerouted_to s pharmacy zero = []
rerouted_to s pharmacy (suc n) = rerouted_to s pharmacy n ++ rerouted_at (n + 1) (rerouted_key s pharmacy (n + 1))

-- of a pharmacy all are told; a node that is none has none
abbrev pub rerouted_of : Serving → Node → List (ℕ × RouteKey)
rerouted_of s (Pharmacy n) = rerouted_to s n (entries_of s.state)
rerouted_of s (Switch n) = []
rerouted_of s (Payer n) = []

-- so of the node that opens from these bytes under the settings that the text spells
pub record AreReroutedIn (text : List ℕ) (node : Node) (bytes : List ℕ) (found : List (ℕ × RouteKey)) : Type 0 where
  pub kept : ℕ
  pub serving : Serving
  pub opened : IsOpened text node None bytes kept serving
  pub all : found ≡ rerouted_of serving node

-- For what in the routes a node does not make its log under settings that have grown.
use Rattle.std.specs.Prelude.{◌≡◌, ◌⊎◌, ℕ, Bool, List, [], Result, Ok, Err, codes, if◌then◌else◌}
use Rattle.claim_model.specs.Node.{Node}
use Rattle.world_setup.specs.declared.node.Node.{Node as Named}
use Rattle.world_setup.specs.declared.node.Node.TheVariants.{Pharmacy, Switch, Payer}
use Rattle.node_service.specs.declared.fault.ServiceFault.{ServiceFault}
use Rattle.node_service.specs.declared.fault.ServiceFault.TheVariants as service
use Rattle.log_growth.specs.Over.{IsThere}
use Rattle.log_growth.specs.declared.over.Gone.{Gone}
use Rattle.log_growth.specs.declared.over.OverFault.{OverFault}
use Rattle.log_growth.specs.declared.over.OverFault.TheVariants as over
use Rattle.growing_logs.specs.declared.becoming.Stays.{Stays}
use Rattle.growing_logs.specs.declared.becoming.Stays.TheVariants.{Fault, Rerouted}
use Rattle.growing_logs.specs.declared.hints.Hint.{Hint}
use Rattle.growing_logs.specs.declared.hints.Hint.TheVariants.{Nothing, Routed, RoutedOrMoved, Moved}

-- of a switch it can be for what it rejected, and where new providers have other payers, for what it took; of a payer for what it took
abbrev pub hint_for : Named → Bool → Hint
hint_for (Pharmacy number) moves = Nothing
hint_for (Switch number) moves = if moves then RoutedOrMoved else Routed
hint_for (Payer number) moves = if moves then Moved else Nothing

-- so where the node does not make a call of its log, and for no other cause
abbrev pub hint_in : Bool → Named → ServiceFault → Hint
hint_in moves node service.OutOfMemory = Nothing
hint_in moves node service.Settings = Nothing
hint_in moves node service.NoSuchNode = Nothing
hint_in moves node service.Rest = Nothing
hint_in moves node (service.Log fault) = Nothing
hint_in moves node service.OtherNode = Nothing
hint_in moves node (service.NotMade place) = hint_for node moves

abbrev pub hint_of_fault : Bool → OverFault → Hint
hint_of_fault moves over.OutOfMemory = Nothing
hint_of_fault moves (over.Log fault) = Nothing
hint_of_fault moves (over.Refused node why) = hint_in moves node why

abbrev pub hint_at : Bool → Result Gone Stays → Hint
hint_at moves (Ok gone) = Nothing
hint_at moves (Err (Fault why)) = hint_of_fault moves why
hint_at moves (Err (Rerouted node entry)) = Nothing

-- bytes are a log of the settings that the text spells, under which its node makes it
abbrev pub MadeUnder : List ℕ → List ℕ → Type 0
MadeUnder text bytes = (node : Node) × IsThere text bytes node

-- a hint is given, and then it is this one, and the node makes the log under the old settings
abbrev pub IsHint : List ℕ → List ℕ → Hint → Hint → Type 0
IsHint text bytes this hint = (hint ≡ Nothing) ⊎ ((hint ≡ this) × MadeUnder text bytes)

unfoldable pub hint_words : Hint → List ℕ
hint_words Nothing = []
hint_words Routed = codes ": a request that it rejected has a route now"
hint_words RoutedOrMoved = codes ": a request that it rejected has a route now, or one that it took has another payer"
hint_words Moved = codes ": a request that it took has another payer now"

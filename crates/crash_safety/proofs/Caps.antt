-- The switch of an opening world, and that a switch stays one, whatever calls it makes.
use Rattle.std.proofs.Common.{◌≡◌, ℕ, zero, suc, List, [], ◌∷◌, Some}
use Rattle.std.specs.Prelude.{⊤, option_map}
use Rattle.claim_model.specs.Context.{Context}
use Rattle.claim_model.specs.Numbered.{numbered}
use Rattle.claim_model.specs.Table.{Table}
use Rattle.claim_model.specs.Node.{Switch, Power, Up, Call, Outcome, Done, Refused, switch_step}
use Rattle.claim_model.specs.Settings.{WorldSettings, switches_of, opening}
use Rattle.claim_model.specs.Nodes.{AnyNode, OfPharmacy, OfSwitch, OfPayer, as_node, node_step, node_at}
use Rattle.claim_model.specs.Logs.{Logged, node_after, replay}

-- a node is a switch
abbrev pub IsSwitch : AnyNode → Type 0
IsSwitch (OfPharmacy node) = ⊥
IsSwitch (OfSwitch node) = ⊤
IsSwitch (OfPayer node) = ⊥

after_stays : (node : Power Table ℕ) (o : Outcome (Power Table ℕ)) → IsSwitch (node_after (OfSwitch node) (as_node OfSwitch o))
after_stays node (Done next sent) = tt
after_stays node (Refused why) = tt

node_stays : (ctx : Context) (node : AnyNode) (call : Call) → IsSwitch node → IsSwitch (node_after node (node_step ctx node call))
node_stays ctx (OfPharmacy node) call k = absurd k
node_stays ctx (OfSwitch node) call k = after_stays node (switch_step ctx node call)
node_stays ctx (OfPayer node) call k = absurd k

pub replay_stays : (ctx : Context) (node : AnyNode) (log : List Logged) → IsSwitch node → IsSwitch (replay ctx node log)
replay_stays ctx node [] k = k
replay_stays ctx node (l ∷ log) k = replay_stays ctx (node_after node (node_step ctx node l.call)) log (node_stays ctx node l.call k)

-- the opening switch

abbrev pub empty_switch : ℕ → AnyNode
empty_switch c = OfSwitch (Up (record { cap = c; entries = [] }))

switch_opens : (caps : List ℕ) (k : ℕ) (node : AnyNode) → option_map OfSwitch (numbered (switches_of caps) k) ≡ Some node → (c : ℕ) × (node ≡ empty_switch c)
switch_opens caps zero node e = absurd cc
switch_opens [] (suc k) node e = absurd cc
switch_opens (cap ∷ caps) (suc zero) node e = (cap, cc)
switch_opens (cap ∷ caps) (suc (suc k)) node e = switch_opens caps (suc k) node e

pub opens_empty : (s : WorldSettings) (k : ℕ) (node : AnyNode) → node_at (opening s) (Switch k) ≡ Some node → (c : ℕ) × (node ≡ empty_switch c)
opens_empty s k node e = switch_opens s.switches k node e

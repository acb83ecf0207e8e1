-- Which events may help an open entry to its answer, and how they are counted.
use Rattle.std.specs.Prelude.{◌≡◌, ℕ, ◌<◌, Bool, true, false, List, [], ◌∷◌, ⊤, length, filter}
use Rattle.std.specs.List.{AllByRecursion}
use Rattle.claim_model.specs.Context.{Context}
use Rattle.claim_model.specs.Journal.{PharmacySettings, RetryRule, opening_rule}
use Rattle.claim_model.specs.Node.{Node, Pharmacy, Switch, Payer, Outcome, Done, Refused}
use Rattle.claim_model.specs.World.{World, Event, Submission, Ticking, Delivery, Stopping, Starting, Revising, Adjudication, step, world_after}
use Rattle.claim_model.specs.Settings.{WorldSettings}

-- a pharmacy waits at least one tick before it sends again, and tries each switch at least once
pub record IsTimely (r : RetryRule) : Type 0 where
  pub again : 0 < r.again
  pub tries : 0 < r.tries

-- the premise on settings: the rule of every pharmacy is such, as the constructor of a pharmacy's settings keeps them
abbrev pub Timely : WorldSettings → Type 0
Timely settings = AllByRecursion (λ (s : PharmacySettings). IsTimely (opening_rule s)) settings.pharmacies

-- an event that was not refused
abbrev pub IsDone : Outcome World → Type 0
IsDone (Done next sent) = ⊤
IsDone (Refused why) = ⊥

-- each event of a list is accepted when its turn comes
abbrev pub AllDone : Context → World → List Event → Type 0
AllDone ctx w [] = ⊤
AllDone ctx w (event ∷ events) = IsDone (step ctx w event) × AllDone ctx (world_after w (step ctx w event)) events

-- a tick, a start, or the delivery of a packet that was sent later than the first `old` packets. An accepted start is of a node that is down
abbrev pub Helps : ℕ → Event → Type 0
Helps old (Submission n text) = ⊥
Helps old (Ticking n) = ⊤
Helps old (Delivery k) = old < k
Helps old (Stopping node) = ⊥
Helps old (Starting node) = ⊤
Helps old (Revising n change) = ⊥
Helps old (Adjudication k advice) = old < k

-- the same, with ticks of one pharmacy alone
abbrev pub HelpsOne : ℕ → ℕ → Event → Type 0
HelpsOne old pharmacy (Submission n text) = ⊥
HelpsOne old pharmacy (Ticking n) = n ≡ pharmacy
HelpsOne old pharmacy (Delivery k) = old < k
HelpsOne old pharmacy (Stopping node) = ⊥
HelpsOne old pharmacy (Starting node) = ⊤
HelpsOne old pharmacy (Revising n change) = ⊥
HelpsOne old pharmacy (Adjudication k advice) = old < k

abbrev pub IsNoSwitch : Node → Type 0
IsNoSwitch (Pharmacy n) = ⊤
IsNoSwitch (Switch n) = ⊥
IsNoSwitch (Payer n) = ⊤

-- the same, and no switch is started
abbrev pub HelpsWithoutSwitch : ℕ → ℕ → Event → Type 0
HelpsWithoutSwitch old pharmacy (Submission n text) = ⊥
HelpsWithoutSwitch old pharmacy (Ticking n) = n ≡ pharmacy
HelpsWithoutSwitch old pharmacy (Delivery k) = old < k
HelpsWithoutSwitch old pharmacy (Stopping node) = ⊥
HelpsWithoutSwitch old pharmacy (Starting node) = IsNoSwitch node
HelpsWithoutSwitch old pharmacy (Revising n change) = ⊥
HelpsWithoutSwitch old pharmacy (Adjudication k advice) = old < k

abbrev pub is_tick : Event → Bool
is_tick (Submission n text) = false
is_tick (Ticking n) = true
is_tick (Delivery k) = false
is_tick (Stopping node) = false
is_tick (Starting node) = false
is_tick (Revising n change) = false
is_tick (Adjudication k advice) = false

abbrev pub is_delivery : Event → Bool
is_delivery (Submission n text) = false
is_delivery (Ticking n) = false
is_delivery (Delivery k) = true
is_delivery (Stopping node) = false
is_delivery (Starting node) = false
is_delivery (Revising n change) = false
is_delivery (Adjudication k advice) = true

abbrev pub is_start : Event → Bool
is_start (Submission n text) = false
is_start (Ticking n) = false
is_start (Delivery k) = false
is_start (Stopping node) = false
is_start (Starting node) = true
is_start (Revising n change) = false
is_start (Adjudication k advice) = false

-- how many events of a kind a list has
abbrev pub how_many : (Event → Bool) → List Event → ℕ
how_many is_kind events = length (filter is_kind events)

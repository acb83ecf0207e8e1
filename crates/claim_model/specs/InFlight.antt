-- What an in-flight table keeps.
use Rattle.std.specs.Prelude.{◌≡◌, ◌≢◌, ◌⊎◌, ℕ, ◌<◌, ◌≤◌, List, length, Some}
use Rattle.std.specs.List.{AllPairs}
use Rattle.std.specs.Map.{keys_of}
use Rattle.claim_model.specs.Words.{TxnId}
use Rattle.claim_model.specs.Numbered.{numbered}
use Rattle.claim_model.specs.Table.{Table}
use Rattle.claim_model.specs.Node.{Switch, OfCap, Up}
use Rattle.claim_model.specs.World.{World, Event, Revising}
use Rattle.claim_model.specs.Settings.{WorldSettings}

-- no id stands in it twice, and there are at most cap entries, where the cap is one at least
pub record IsInFlight (t : Table) : Type 0 where
  pub ids : AllPairs (λ (a b : TxnId). a ≢ b) (keys_of t.entries)
  pub few : 0 < t.cap → length t.entries ≤ t.cap

-- one of these events gives a switch this cap
pub record IsGiven (events : List Event) (n cap : ℕ) : Type 0 where
  pub number : ℕ
  pub is : numbered events number ≡ Some (Revising (Switch n) (OfCap cap))

-- each switch that is up has such a table, with the cap that its settings gave, or one of these events
pub record IsSwitched (settings : WorldSettings) (events : List Event) (n : ℕ) (t : Table) : Type 0 where
  pub cap : (numbered settings.switches n ≡ Some t.cap) ⊎ IsGiven events n t.cap
  pub table : IsInFlight t

abbrev pub TablesInFlight : WorldSettings → List Event → World → Type 0
TablesInFlight settings events w = (n : ℕ) (t : Table) → numbered w.switches n ≡ Some (Up t) → IsSwitched settings events n t

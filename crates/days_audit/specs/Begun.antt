-- Parties with which logs begin, and days of logs that begin so.
use Rattle.std.specs.Prelude.{◌≡◌, ℕ, List, length, slice_get, Option, Some, None}
use Rattle.std.specs.Option.{option_map}
use Rattle.std.specs.Global.{Vec}
use Rattle.claim_model.specs.Bytes.{bytes_with}
use Rattle.claim_model.specs.Logs.{NodeLog}
use Rattle.claim_model.specs.Node.{Node}
use Rattle.claim_model.specs.Nodes.{AnyNode, node_at}
use Rattle.crash_safety.specs.Explained.{Turn}
use Rattle.world_setup.specs.declared.settings.WorldSettings.{WorldSettings}
use Rattle.kept_logs.specs.Rests.{begins}
use Rattle.vouched_runs.specs.Parties.{Parties, world_of}
use Rattle.vouched_runs.specs.Agreeing.{Agree}
use Rattle.vouched_runs.specs.Days.{AreDays}
use Rattle.days_audit.specs.declared.days.Days.{Days}
use Rattle.days_audit.specs.declared.days.Days.TheVariants.{Legal, Not}
use Rattle.world_setup.specs.Taken.{routes_in}

-- what the log at a place begins with; nothing where the list has no such place
abbrev pub rest_or_none : Option (Option (Vec ℕ)) → Option (List ℕ)
rest_or_none None = None
rest_or_none (Some rest) = option_map (λ (bytes : Vec ℕ). bytes.items) rest

abbrev pub rest_at : List (Option (Vec ℕ)) → ℕ → Option (List ℕ)
rest_at rests place = rest_or_none (slice_get rests place)

-- what the log of a node at a place begins with; none where it cannot
abbrev pub begins_at : WorldSettings → List (Option (Vec ℕ)) → Node → ℕ → Option AnyNode
begins_at s rests node place = begins s node (rest_at rests place)

-- logs begin with these parties: they are as many as the settings have, and each is what its log begins with
pub record BeginWith (s : WorldSettings) (rests : List (Option (Vec ℕ))) (logs : List NodeLog) (p : Parties) : Type 0 where
  pub pharmacies : length p.pharmacies ≡ length s.pharmacies.items
  pub payers : length p.payers ≡ length s.payers.items
  pub each : (place : ℕ) (log : NodeLog) → slice_get logs place ≡ Some log → node_at (world_of p) log.node ≡ begins_at s rests log.node place

-- logs are those of days of so many calls, in some order of all of them, from what the logs begin with
pub record HasDays (s : WorldSettings) (rests : List (Option (Vec ℕ))) (logs : List NodeLog) (calls : ℕ) : Type 0 where
  pub parties : Parties
  pub begin : BeginWith s rests logs parties
  pub agree : Agree (bytes_with (routes_in s)) parties
  pub turns : List Turn
  pub are : AreDays (bytes_with (routes_in s)) parties logs turns
  pub count : calls ≡ length turns

-- logs are those of no days, in whatever order
abbrev pub NoDays : WorldSettings → List (Option (Vec ℕ)) → List NodeLog → Type 0
NoDays s rests logs = (calls : ℕ) → HasDays s rests logs calls → ⊥

-- what was judged is so
abbrev pub IsJudged : WorldSettings → List (Option (Vec ℕ)) → List NodeLog → Days → Type 0
IsJudged s rests logs (Legal calls) = HasDays s rests logs calls
IsJudged s rests logs (Not lines) = NoDays s rests logs

-- the days that were found, if there are any
abbrev pub DaysOf : WorldSettings → List (Option (Vec ℕ)) → List NodeLog → Option ℕ → Type 0
DaysOf s rests logs None = NoDays s rests logs
DaysOf s rests logs (Some calls) = HasDays s rests logs calls

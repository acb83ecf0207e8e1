-- Why logs are those of no legal run.
use Rattle.std.specs.Prelude.{◌≡◌, ◌≢◌, ◌↔◌, false, ℕ, List, [], ◌∷◌, map}
use Rattle.claim_model.specs.Bytes.{bytes_with}
use Rattle.claim_model.specs.Context.{Context}
use Rattle.claim_model.specs.Logs.{NodeLog}
use Rattle.claim_model.specs.Settings as model
use Rattle.world_setup.specs.Seen.{settings_seen}
use Rattle.world_setup.specs.declared.settings.WorldSettings.{WorldSettings}
use Rattle.log_audit.specs.Sentences.{told_lines}
use Rattle.log_audit.specs.Lacks.{missing_lines}
use Rattle.log_audit.specs.Wrongs.{wrong_lines}
use Rattle.log_audit.specs.Waits.{Progress, is_stuck, unordered, waiting_lines}
use Rattle.log_audit.specs.declared.sentences.Manner.{Manner}
use Rattle.world_setup.specs.Taken.{routes_in}

-- these lines, or the others where there are none of these
abbrev pub or_else : List (List ℕ) → List (List ℕ) → List (List ℕ)
or_else [] others = others
or_else (line ∷ more) others = line ∷ more

-- the lines of the first kind of which there is one: logs that are not one for each node; else calls that nodes do not make; else calls that
-- wait for packets
unfoldable pub reasons : Context → model.WorldSettings → List NodeLog → List Progress → List (List ℕ)
reasons ctx s logs made = or_else (missing_lines s logs) (or_else (wrong_lines ctx s logs) (waiting_lines ctx made))

-- a text has these lines, where of each log some calls were made
pub record IsReasons (s : WorldSettings) (logs : List NodeLog) (manner : Manner) (text : List ℕ) : Type 0 where
  pub made : List Progress
  pub of_logs : map (λ (p : Progress). p.log) made ≡ logs
  pub is : text ≡ told_lines manner (reasons (bytes_with (routes_in s)) (settings_seen s) logs made)

-- whatever calls were made, some line is told
abbrev pub SomeReason : Type 0
SomeReason = (ctx : Context) (s : model.WorldSettings) (logs : List NodeLog) (made : List Progress) → reasons ctx s logs made ≢ []

-- no reason is found: there is one log of each node and no other, each node makes its log, and of the logs after this many calls none has
-- calls left, or one has a next call that does not wait
pub record NoneFound (ctx : Context) (s : model.WorldSettings) (logs : List NodeLog) (made : List Progress) : Type 0 where
  pub logs_are : missing_lines s logs ≡ []
  pub made_are : wrong_lines ctx s logs ≡ []
  pub goes_on : is_stuck made ≡ false

-- that no order of the calls is a run is told there and nowhere else
abbrev pub LastReason : Type 0
LastReason = (ctx : Context) (s : model.WorldSettings) (logs : List NodeLog) (made : List Progress) → (reasons ctx s logs made ≡ unordered) ↔ NoneFound ctx s logs made

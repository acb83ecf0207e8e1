-- The logs that are judged together: those that were given, and those that are made of switches which kept none.
use Rattle.std.specs.Prelude.{◌≡◌, ℕ, List, [], ◌∷◌, ◌++◌}
use Rattle.std.specs.List.{flat_map}
use Rattle.claim_model.specs.Logs.{NodeLog}
use Rattle.claim_model.specs.Node.{Node, Pharmacy, Switch, Payer}
use Rattle.node_log.specs.LogSeen.{logs_seen}
use Rattle.node_log.specs.declared.log.NodeLog.{NodeLog as Kept}
use Rattle.switch_logs.specs.MadeLogs.{AreMadeUnder}
use Rattle.log_audit.specs.declared.reading.Audited.{Audited}
use Rattle.audit_run.specs.declared.completing.Judged.{Judged}

-- the number of a node that is a switch; those among the nodes of logs
abbrev pub switch_number : Node → List ℕ
switch_number (Pharmacy number) = []
switch_number (Switch number) = number ∷ []
switch_number (Payer number) = []

abbrev pub switches_among : List NodeLog → List ℕ
switches_among logs = flat_map (λ (log : NodeLog). switch_number log.node) logs

-- the same settings, text and rests, with these logs behind those that there were
pub record HasLogs (a : Audited) (logs : List Kept) (all : Audited) : Type 0 where
  pub settings : all.settings ≡ a.settings
  pub text : all.text ≡ a.text
  pub rests : all.rests ≡ a.rests
  pub logs_are : all.logs.items ≡ a.logs.items ++ logs

-- behind the logs that were given stand those that are made of the switches of the settings of which none was, and of these is told
pub record Completes (a : Audited) (c : Judged) : Type 0 where
  pub made : List Kept
  pub are : AreMadeUnder a.settings (logs_seen a.logs.items) (logs_seen made)
  pub all : HasLogs a made c.audited
  pub told : c.made.items ≡ switches_among (logs_seen made)

-- Nodes of which there is not one log, and logs of no node.
use Rattle.std.specs.Prelude.{ℕ, zero, suc, ◌+◌, ◌==◌, cond, count_by, List, [], ◌∷◌, ◌++◌, length, flat_map, codes, Option, Some, None}
use Rattle.claim_model.specs.Node.{Node}
use Rattle.claim_model.specs.Nodes.{same_node}
use Rattle.claim_model.specs.Logs.{NodeLog}
use Rattle.claim_model.specs.Node as node
use Rattle.claim_model.specs.Settings.{WorldSettings}
use Rattle.node_log.specs.ExistingNodes.{is_there}
use Rattle.log_audit.specs.Sentences.{Words, Named, sentence}
use Rattle.log_audit.specs.declared.judging.missing.Lack.{Lack}
use Rattle.log_audit.specs.declared.judging.missing.Lack.TheVariants.{NoLog, SeveralLogs}
use Rattle.log_audit.specs.declared.judging.missing.NodeKind.{NodeKind}
use Rattle.log_audit.specs.declared.judging.missing.NodeKind.TheVariants.{Pharmacy, Switch, Payer}

-- how many of some logs are those of a node
abbrev pub count_of : List NodeLog → Node → ℕ
count_of logs node = count_by (λ (log : NodeLog). same_node log.node node) logs

-- what is wrong with a node of which there are this many logs: nothing where there is one
abbrev pub lack_by : ℕ → Option Lack
lack_by count = cond (count == 0) (Some NoLog) (cond (count == 1) None (Some SeveralLogs))

-- what is wrong with the number of a node's logs
abbrev pub lack_of : List NodeLog → Node → Option Lack
lack_of logs node = lack_by (count_of logs node)

abbrev pub lack_word : Lack → List ℕ
lack_word NoLog = codes " has no log"
lack_word SeveralLogs = codes " has more than one log"

-- what is said of a node
abbrev pub node_line : Node → List ℕ → List ℕ
node_line node said = sentence (Named node ∷ Words said ∷ [])

abbrev pub line_of_lack : Node → Option Lack → List (List ℕ)
line_of_lack node None = []
line_of_lack node (Some lack) = node_line node (lack_word lack) ∷ []

-- the line on a node of which there is not one log
abbrev pub lack_lines : List NodeLog → Node → List (List ℕ)
lack_lines logs node = line_of_lack node (lack_of logs node)

-- the node of a kind and a number
abbrev pub kind_node : NodeKind → ℕ → Node
kind_node Pharmacy number = node.Pharmacy number
kind_node Switch number = node.Switch number
kind_node Payer number = node.Payer number

-- the same of the nodes of a kind up to a number, from 1
abbrev pub lacks_up_to : List NodeLog → NodeKind → ℕ → List (List ℕ)
lacks_up_to logs kind zero = []
lacks_up_to logs kind (suc number) = lacks_up_to logs kind number ++ lack_lines logs (kind_node kind (number + 1))

-- the line on a log of a node that is not there
abbrev pub stranger_lines : WorldSettings → NodeLog → List (List ℕ)
stranger_lines s log = cond (is_there s log.node) [] (node_line log.node (codes " is no node of these settings") ∷ [])

abbrev pub strangers : WorldSettings → List NodeLog → List (List ℕ)
strangers s logs = flat_map (stranger_lines s) logs

-- the lines on logs that are not one for each node: none exactly where they are
unfoldable pub missing_lines : WorldSettings → List NodeLog → List (List ℕ)
missing_lines s logs =
    lacks_up_to logs Pharmacy (length s.pharmacies)
    ++ (lacks_up_to logs Switch (length s.switches) ++ (lacks_up_to logs Payer (length s.payers) ++ strangers s logs))

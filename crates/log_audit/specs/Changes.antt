-- The changes of payers' plans, of pharmacies' rules of retries and of switches' caps, among the events of a run and among the calls of logs.
use Rattle.std.specs.Prelude.{ℕ, ◌+◌, List, [], ◌∷◌, ◌++◌}
use Rattle.claim_model.specs.Words.{SetPrice, SetTerms}
use Rattle.claim_model.specs.Journal.{RetryRule}
use Rattle.claim_model.specs.Logs.{Logged, NodeLog}
use Rattle.claim_model.specs.Node.{Revision, OfPlan, OfRule, OfCap, Call, Submit, Tick, Take, Stop, Start, Revise, Adjudicate}
use Rattle.claim_model.specs.World.{Event, Submission, Ticking, Delivery, Stopping, Starting, Revising, Adjudication}
use Rattle.pharmacy_journal.specs.Ruling.{numbers_in}
use Rattle.log_audit.specs.Kinds.{number_of}
use Rattle.log_audit.specs.declared.revisions.changes.Change.{Change as Kept}
use Rattle.log_audit.specs.declared.revisions.changes.To.{To}
use Rattle.log_audit.specs.declared.revisions.changes.To.TheVariants as to
use Rattle.log_audit.specs.declared.revisions.retries.Rule.{Rule}
use Rattle.log_audit.specs.declared.revisions.retries.Switches.{Switches}
use Rattle.log_audit.specs.declared.revisions.retries.Switches.TheVariants.{Numbers, Spelled}

-- what the node of a number has from here on, by its place among events, or among the calls of a log: a payer its plan, a pharmacy its rule and a
-- switch its cap, since no other node takes such a change
pub record Placed : Type 0 where
  pub number : ℕ
  pub place : ℕ
  pub to : Revision

abbrev pub switches_seen : Switches → List ℕ
switches_seen (Numbers numbers) = numbers.now
switches_seen (Spelled bytes) = numbers_in bytes.now

abbrev pub rule_seen : Rule → RetryRule
rule_seen r = record { nodes = switches_seen r.switches; again = r.again; tries = r.tries }

abbrev pub to_seen : To → Revision
to_seen (to.Price product price) = OfPlan (SetPrice product.now price)
to_seen (to.Terms terms) = OfPlan (SetTerms terms.fee terms.copay)
to_seen (to.Rule rule) = OfRule (rule_seen rule)
to_seen (to.Cap cap) = OfCap cap

abbrev pub change_seen : Kept → Placed
change_seen c = record { number = c.number; place = c.place; to = to_seen c.to }

-- the change that an event is, if it is one, by its number
abbrev pub event_change : ℕ → Event → List Placed
event_change place (Submission pharmacy text) = []
event_change place (Ticking pharmacy) = []
event_change place (Delivery packet) = []
event_change place (Stopping node) = []
event_change place (Starting node) = []
event_change place (Adjudication packet advice) = []
event_change place (Revising node revision) = record { number = number_of node; place = place; to = revision } ∷ []

-- those of events that are numbered from here on
abbrev pub event_changes : ℕ → List Event → List Placed
event_changes place [] = []
event_changes place (event ∷ more) = event_change place event ++ event_changes (place + 1) more

-- the change that a call on the node of a number is, if it is one
abbrev pub call_change : ℕ → ℕ → Call → List Placed
call_change number place (Submit text) = []
call_change number place Tick = []
call_change number place (Take from bytes) = []
call_change number place Stop = []
call_change number place Start = []
call_change number place (Adjudicate from bytes advice) = []
call_change number place (Revise revision) = record { number = number; place = place; to = revision } ∷ []

abbrev pub call_changes : ℕ → ℕ → List Logged → List Placed
call_changes number place [] = []
call_changes number place (r ∷ more) = call_change number place r.call ++ call_changes number (place + 1) more

-- those of a log, by the numbers of its calls
abbrev pub log_changes : NodeLog → List Placed
log_changes log = call_changes (number_of log.node) 1 log.calls

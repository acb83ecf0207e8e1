use Rattle.claim_model.specs.Bytes.{bytes_with}
use Rattle.claim_model.specs.Counted.{counted}
use Rattle.node_state.specs.Nodes.{journal_of}
use Rattle.log_audit.proofs.Joining.{something_told}
use Rattle.log_audit.proofs.alone.tables.take_node.Goals as goal

pub returns-in-Some : goal.returns-in-Some
returns-in-Some c = λ routes.
    rw (something_told (counted (bytes_with routes)) c.in_ok-journal.field-0 (journal_of c.args.node.now) c.in-Some.journal c.in_ok-journal.ensures c.in-Some.is) (c.take_journal.ensures routes)

use Rattle.std.proofs.Common.{sym}
use Rattle.std.proofs.lemmas.Bool.{cond-false}
use Rattle.claim_model.specs.Readable.{is_request}
use Rattle.switch_node.specs.Sent.{content}
use Rattle.node_state.proofs.payer.BookKind.take.Goals as goal

pub returns-else-is_request-clause-fault : goal.returns-else-is_request-clause-fault
returns-else-is_request-clause-fault c = cond-false (is_request (content c.args.envelope.now)) _ _ (sym c.if-is_request.ensures)

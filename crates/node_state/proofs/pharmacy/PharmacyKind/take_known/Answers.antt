use Rattle.node_state.proofs.Known.{readable_answer}
use Rattle.node_state.proofs.pharmacy.PharmacyKind.take_known.Goals as goal

pub hear_known-requires-clause-readable : goal.hear_known-requires-clause-readable
hear_known-requires-clause-readable c = readable_answer c.args._routes.now c.args.self.now c.args.envelope.now c.requires.readable

use Rattle.std.proofs.Common.{sym}
use Rattle.node_state.proofs.Known.{readable_request, readable_response}
use Rattle.node_state.proofs.switch.SwitchKind.take_known.Goals as goal

pub known_request-requires-clause-readable : goal.known_request-requires-clause-readable
known_request-requires-clause-readable c = readable_request c.args.routes.now c.args.self.now c.args.envelope.now (sym c.if-is_request.ensures) c.requires.readable

pub known_response-requires-clause-readable : goal.known_response-requires-clause-readable
known_response-requires-clause-readable c = readable_response c.args.routes.now c.args.self.now c.args.envelope.now (sym c.if-is_request.ensures) c.requires.readable

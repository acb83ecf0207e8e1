use Rattle.switch_node.specs.Sent.{content, header_in}
use Rattle.switch_node.proofs.Steps.{request-known, request-header}
use Rattle.switch_node.proofs.switch.Switch.request_known.Goals as goal

pub go_on-requires-clause-readable : goal.go_on-requires-clause-readable
go_on-requires-clause-readable c = request-known c.args.routes.now c.args.self.now (content c.args.envelope.now) c.requires.readable

pub go_on-requires-clause-header : goal.go_on-requires-clause-header
unfolding header_in
go_on-requires-clause-header c = λ routes t.
    request-header routes t (content c.args.envelope.now) (request-known c.args.routes.now c.args.self.now (content c.args.envelope.now) c.requires.readable)

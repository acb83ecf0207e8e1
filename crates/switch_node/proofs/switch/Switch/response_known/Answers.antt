use Rattle.switch_node.specs.Sent.{content}
use Rattle.switch_node.proofs.Steps.{response-known}
use Rattle.switch_node.proofs.switch.Switch.response_known.Goals as goal

pub go_back-requires-clause-answer : goal.go_back-requires-clause-answer
go_back-requires-clause-answer c = λ routes t. response-known routes c.args.self.now t (content c.args.envelope.now) (c.requires.readable routes)

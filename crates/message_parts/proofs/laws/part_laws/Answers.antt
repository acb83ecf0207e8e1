use Rattle.message_parts.proofs.Framed.{request, answer}
use Rattle.message_parts.proofs.laws.part_laws.Goals as goal

pub returns-clause-request : goal.returns-clause-request
returns-clause-request c = request

pub returns-clause-answer : goal.returns-clause-answer
returns-clause-answer c = answer

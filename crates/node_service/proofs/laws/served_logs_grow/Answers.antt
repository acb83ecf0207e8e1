-- Line by line.
use Rattle.node_service.proofs.Lines.{lines_serve}
use Rattle.node_service.proofs.laws.served_logs_grow.Goals as goal

pub returns-clause-lines : goal.returns-clause-lines
returns-clause-lines c = lines_serve

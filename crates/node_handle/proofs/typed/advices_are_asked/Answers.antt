use Rattle.node_handle.proofs.Lines.{asks_advised}
use Rattle.node_handle.proofs.typed.advices_are_asked.Goals as goal

pub returns : goal.returns
returns c = λ from node packet advice named back are. asks_advised from node packet advice named back are

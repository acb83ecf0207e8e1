use Rattle.d0_segments.proofs.Leasts.{least, told}
use Rattle.d0_segments.proofs.laws.first_fault_laws.Goals as goal

pub returns-clause-least : goal.returns-clause-least
returns-clause-least c = λ front offset text fault. (least front offset text fault, told front offset text fault)

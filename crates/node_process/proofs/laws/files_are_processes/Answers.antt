-- One happening after another.
use Rattle.node_process.proofs.Histories.{course}
use Rattle.node_process.proofs.laws.files_are_processes.Goals as goal

pub returns : goal.returns
returns c = course

use Rattle.claim_model.specs.Settings.{opening}
use Rattle.run_picture.proofs.Counting.{each_packet, each_delivery}
use Rattle.run_picture.proofs.laws.marks_are_the_runs.Goals as goal

pub returns : goal.returns
returns c = record {
  packets = λ ctx settings events. each_packet ctx (opening settings) 1 events;
  arrows = λ ctx w number events. each_delivery ctx w number events;
}

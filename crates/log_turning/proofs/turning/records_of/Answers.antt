-- Its node is stopped, or stays as it is.
use Rattle.log_turning.proofs.Lines.{stop_ends}
use Rattle.log_turning.proofs.turning.records_of.Goals as goal
use Rattle.log_turning.proofs.turning.records_of.Goals.{then-not-stays_up+in_ok-ask, else-not-stays_up}

pub returns-clause-on : goal.returns-clause-on
returns-clause-on c = elim c.if-not-stays_up.branch [
  | then-not-stays_up+in_ok-ask w ↦ rw w.service-is (w.in_ok-ask.ensures.on (stop_ends c.args.service.now))
  | else-not-stays_up w ↦ rw w.service-is (λ text node rest bytes kept is. is)
]

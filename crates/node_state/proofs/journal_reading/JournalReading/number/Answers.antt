use Rattle.claim_model.specs.Journal.{stopped}
use Rattle.node_state.proofs.journal_reading.JournalReading.number.Goals as goal

pub returns-in-Running : goal.returns-in-Running
unfolding stopped
returns-in-Running c = rw (← c.self.view_is, c.in-Running.is) c.number.ensures.value

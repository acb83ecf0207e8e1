-- A stop keeps every entry.
use Rattle.std.proofs.Common.{sym}
use Rattle.std.proofs.lemmas.List.{length-map}
use Rattle.claim_model.specs.Journal.{stopped, kept_entry}
use Rattle.node_state.proofs.journal_reading.JournalReading.entries.Goals as goal

pub returns-in-Running : goal.returns-in-Running
unfolding stopped
returns-in-Running c =
    rw (← c.self.view_is, c.in-Running.is) (rw c.entries.ensures.value (sym (length-map c.in-Running.pharmacy.now.entries kept_entry)))

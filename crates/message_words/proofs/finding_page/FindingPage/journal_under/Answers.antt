use Rattle.std.proofs.Common.{[], ◌∷◌, Result, sym, subst}
use Rattle.claim_model.specs.Journal.{JournalAtRest}
use Rattle.kept_records.specs.declared.fault.RecordFault.{RecordFault}
use Rattle.message_words.specs.RecordWords.{journal_read_said}
use Rattle.message_words.specs.Sayings.{Finds}
use Rattle.message_words.proofs.finding_page.FindingPage.journal_under.Goals as goal

pub returns-in-Ok : goal.returns-in-Ok
returns-in-Ok c =
    subst (λ (r : Result JournalAtRest RecordFault). Finds (journal_read_said c.args.bytes.now r ∷ []) c.args.self.now c.read_as_journal.new.self) (sym c.in-Ok.ensures.ok) c.read_as_journal.ensures

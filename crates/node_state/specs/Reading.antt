-- Journals and books that are read, wherever they come from.
use Rattle.claim_model.specs.Journal.{JournalAtRest, stopped}
use Rattle.claim_model.specs.Rows.{Book}
use Rattle.node_state.specs.declared.journal_reading.JournalSource.{JournalSource}
use Rattle.node_state.specs.declared.journal_reading.JournalSource.TheVariants.{Running, Resting}
use Rattle.node_state.specs.declared.book_reading.BookSource.{BookSource}
use Rattle.node_state.specs.declared.book_reading.BookSource.TheVariants.{Lent, Read}

abbrev pub journal_read : JournalSource → JournalAtRest
journal_read (Running pharmacy) = stopped pharmacy.now
journal_read (Resting journal) = journal

abbrev pub book_read : BookSource → Book
book_read (Lent book) = book.now
book_read (Read book) = book

-- What tables are told of, as contracts see it.
use Rattle.std.specs.Prelude.{List}
use Rattle.claim_model.specs.Context.{Context}
use Rattle.claim_model.specs.Journal.{JournalAtRest}
use Rattle.claim_model.specs.Rows.{Book}
use Rattle.pharmacy_journal.specs.Counting.{has_auth}
use Rattle.world_setup.specs.Seen.{node_seen}
use Rattle.table_text.specs.Members.{Row}
use Rattle.log_audit.specs.AloneSeen.{lones_seen}
use Rattle.log_audit.specs.Kinds.{number_of}
use Rattle.log_audit.specs.Lones.{journal_open, lone_rows}
use Rattle.log_audit.specs.Payments.{book_payments}
use Rattle.log_audit.specs.Rulings.{book_rulings}
use Rattle.log_audit.specs.Tables.{journal_counted, journal_rows, table_rows}
use Rattle.log_audit.specs.declared.tables.table.OfBook.{OfBook}
use Rattle.log_audit.specs.declared.tables.table.OfBook.TheVariants as of_book
use Rattle.log_audit.specs.declared.tables.table.OfJournal.{OfJournal}
use Rattle.log_audit.specs.declared.tables.table.OfJournal.TheVariants as of_journal
use Rattle.log_audit.specs.declared.tables.table.Table.{Table}
use Rattle.log_audit.specs.declared.tables.table.Tabled.{Tabled}
use Rattle.log_audit.specs.declared.tables.table.Tabled.TheVariants.{Run, Alone}

-- the rows of a table of a run, or of logs one by one
abbrev pub tabled_rows : Context → Tabled → Table → List Row
tabled_rows ctx (Run world senders) table = table_rows ctx world.now.world senders.now table
tabled_rows ctx (Alone lones) table = lone_rows ctx (lones_seen lones.now) table

-- what is told of a book
abbrev pub book_rows : Context → OfBook → Book → List Row
book_rows ctx (of_book.Payments counted) book = book_payments ctx (has_auth counted.now.keys) book
book_rows ctx of_book.Rulings book = book_rulings book

-- and of a journal
abbrev pub told_rows : Context → OfJournal → JournalAtRest → List Row
told_rows ctx of_journal.Entries j = journal_rows ctx j
told_rows ctx of_journal.Counted j = journal_counted ctx j
told_rows ctx (of_journal.Open log) j = journal_open (number_of (node_seen log.now.node)) log.now.calls.items j

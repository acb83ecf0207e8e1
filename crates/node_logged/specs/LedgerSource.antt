-- Where the journal of a ledger is read.
use Rattle.std.specs.Prelude.{List}
use Rattle.claim_model.specs.Journal.{Kept}
use Rattle.node_logged.specs.declared.judging.ledger.Source.{Source}
use Rattle.node_logged.specs.declared.judging.ledger.Source.TheVariants as source

-- its entries
abbrev pub entries_read : Source → List Kept
entries_read (source.Resting journal) = journal.entries
entries_read (source.Standing journal) = journal.entries

use Rattle.node_logged.proofs.Receipts.{each_once}
use Rattle.node_logged.proofs.laws.receipts_are_the_entries_each_once.Goals as goal

pub returns : goal.returns
returns c = each_once

use Rattle.std.specs.List.{AllByRecursion}
use Rattle.node_logged.specs.LedgerSeen.{tills_seen}
use Rattle.schedule_run.specs.Told.{IsEmpty}
use Rattle.schedule_run.proofs.running.open_tills.Given as goal

-- the tills so far are empty
abbrev pub invariant-loop-number : goal.invariant-loop-number
invariant-loop-number l = AllByRecursion IsEmpty (tills_seen l.tills.items)

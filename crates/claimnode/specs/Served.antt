-- Whose process it is.
use Rattle.std.specs.Prelude.{ℕ, List, Option}
use Rattle.world_setup.specs.Seen.{node_seen}
use Rattle.node_process.specs.Safe.{Whose}
use Rattle.claimnode.specs.declared.words.Words.{Words}

-- that of the node that the command line names, under settings of this text, whose log begins with this rest, where it has one
abbrev pub owner_of : Words → List ℕ → Option (List ℕ) → Whose
owner_of words text rest = record { settings = text; node = node_seen words.node; rest = rest; least = words.least }

-- Whether a world opens with a node of a name.
use Rattle.std.specs.Prelude.{ℕ, zero, suc, Bool, false, nat_lt, is_some}
use Rattle.claim_model.specs.Node.{Node}
use Rattle.claim_model.specs.Settings.{WorldSettings, opening}
use Rattle.claim_model.specs.Nodes.{node_at}

-- a number from 1 to a count
abbrev pub is_numbered : ℕ → ℕ → Bool
is_numbered count zero = false
is_numbered count (suc k) = nat_lt k count

-- whether a world of these settings opens with a node of this name
abbrev pub is_there : WorldSettings → Node → Bool
is_there s node = is_some (node_at (opening s) node)

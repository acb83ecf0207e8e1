-- A journal of which no entry is open: a tick leaves it as it is, and sends nothing.
use Rattle.std.specs.Prelude.{Bool, true, false}
use Rattle.std.specs.List.{list_all}
use Rattle.claim_model.specs.Journal.{Journal, State, Waits, Has}

-- a state has its answer for good
abbrev pub is_settled : State → Bool
is_settled (Waits phase) = false
is_settled (Has answer) = true

-- each entry is settled
abbrev pub is_idle : Journal → Bool
is_idle j = list_all (λ e. is_settled e.state) j.entries

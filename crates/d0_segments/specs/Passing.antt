-- What is passed on the way from one place to a later one.
use Rattle.std.specs.Prelude.{◌≡◌, ℕ, ◌+◌, ◌<◌, ◌≤◌, true, length}
use Rattle.d0_segments.specs.declared.tail.Tail.{Tail}
use Rattle.d0_segments.specs.Separators.{ends_here}
use Rattle.d0_segments.specs.Faults.{count_groups}
use Rattle.d0_segments.specs.Taking.{fault_in}

-- from the first place to the second no fault stands, and this many groups begin
pub record Passes (before : Tail) (groups : ℕ) (after : Tail) : Type 0 where
  pub fault : fault_in before ≡ fault_in after
  pub count : count_groups before.bytes.now ≡ groups + count_groups after.bytes.now
  pub few : groups ≤ 1
  pub shorter : length after.bytes.now < length before.bytes.now
  pub ends : ends_here after.bytes.now ≡ true

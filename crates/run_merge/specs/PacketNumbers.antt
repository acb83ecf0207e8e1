-- An index of packets by what they are.
use Rattle.std.specs.Prelude.{◌≡◌, ℕ, Bool, List, Option, Some, MatchOption}
use Rattle.claim_model.specs.Numbered.{numbered}
use Rattle.claim_model.specs.World.{Packet}
use Rattle.run_merge.specs.Line.{IsAbsent}
use Rattle.run_merge.specs.LineSeen.{slip_seen}
use Rattle.run_merge.specs.SamePacket.{same_packet}
use Rattle.run_merge.specs.declared.slip.Slip.{Slip}

-- whether two keys are of the same packet
abbrev pub same_slip : Slip → Slip → Bool
same_slip a b = same_packet (slip_seen a) (slip_seen b)

-- a number of a packet; none where it is not there
abbrev pub NumberOf : List Packet → Packet → Option ℕ → Type 0
NumberOf packets p found = MatchOption found (IsAbsent packets p) (λ k. numbered packets k ≡ Some p)

-- the number that the index has for a packet is a number of it, and it has none for a packet that is not there
pub record IsNumbered (packets : List Packet) (number_of : Slip → Option ℕ) : Type 0 where
  pub found : (slip : Slip) → NumberOf packets (slip_seen slip) (number_of slip)

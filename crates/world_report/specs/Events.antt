-- The line of an event.
use Rattle.std.specs.Prelude.{ℕ, ◌+◌, ◌-◌, length}
use Rattle.claim_model.specs.Node.{Outcome, Done, Refused}
use Rattle.claim_model.specs.World.{World}
use Rattle.claim_model.specs.Refusal.{refusal_name}
use Rattle.world_report.specs.Words.{Line}
use Rattle.world_report.specs.Heads.{done_line, refused_line, numbers_from}

-- the line of an event, before which this many packets were sent: the numbers of the packets that it added to them, or the name of the refusal
abbrev pub event_line : ℕ → ℕ → Outcome World → Line
event_line number posted (Done next sent) = done_line number (numbers_from (posted + 1) (length next.packets - posted))
event_line number posted (Refused why) = refused_line number (refusal_name why)

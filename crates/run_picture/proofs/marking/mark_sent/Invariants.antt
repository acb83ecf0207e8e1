use Rattle.std.proofs.Common.{◌≡◌, ◌+◌, ◌++◌, drop, map}
use Rattle.world_setup.specs.Seen.{packet_seen}
use Rattle.run_picture.specs.Marks.{sent_marks}
use Rattle.run_picture.specs.Seen.{mark_seen}
use Rattle.run_picture.proofs.marking.mark_sent.Given as goal

-- the marks so far, and then those of the packets that are left
abbrev pub invariant-loop-place : goal.invariant-loop-place
invariant-loop-place l =
    map mark_seen l.marks.items ++ sent_marks l.number (l.place + 1) (map packet_seen (drop l.place l.packets))
    ≡ map mark_seen l.initial.marks.items ++ sent_marks l.number (l.posted + 1) (map packet_seen (drop l.posted l.packets))

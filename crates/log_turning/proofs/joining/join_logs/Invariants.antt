use Rattle.std.proofs.Common.{take, map, None}
use Rattle.std.specs.Option.{option_copied}
use Rattle.world_setup.specs.Seen.{node_seen}
use Rattle.log_turning.specs.Joined.{IsEnd, last_part, part_seen}
use Rattle.log_turning.proofs.Parts.{Joins}
use Rattle.log_turning.proofs.joining.join_logs.Given as goal

-- the text so far is that of the parts so far, and what stands after the last of them is this many bytes
abbrev pub invariant-loop-place : goal.invariant-loop-place
invariant-loop-place l =
    Joins l.text (node_seen l.node) (option_copied l.begins) (map part_seen (take l.place l.parts)) (option_copied l.last) l.calls l.joined.items × IsEnd l.text (last_part None (map part_seen (take l.place l.parts))) l.left

use Rattle.std.proofs.Common.{◌≡◌, take, map, None, option_map}
use Rattle.world_setup.specs.Seen.{node_seen}
use Rattle.log_turning.specs.Joined.{last_part, part_seen}
use Rattle.log_turning.specs.Left.{AreLeft}
use Rattle.log_turning.proofs.leaving.check_rests.Given as goal

-- each log so far begins with what the one before it leaves, and the last of them is known
abbrev pub invariant-loop-place : goal.invariant-loop-place
invariant-loop-place l =
    AreLeft l.text (node_seen l.node) None (map part_seen (take l.place l.parts)) × (option_map part_seen l.last ≡ last_part None (map part_seen (take l.place l.parts)))

use Rattle.std.proofs.Common.{◌≡◌, ◌-◌, drop, length, map}
use Rattle.log_turning.specs.Joined.{part_seen}
use Rattle.log_turning.specs.Whole.{bytes_in, parts_in}
use Rattle.log_turning.proofs.whole.parts_of.Given as goal

-- the parts so far are those in the last files
abbrev pub invariant-loop-passed : goal.invariant-loop-passed
invariant-loop-passed l = map part_seen l.parts.items ≡ parts_in (bytes_in (drop (length l.files - l.passed) l.files))

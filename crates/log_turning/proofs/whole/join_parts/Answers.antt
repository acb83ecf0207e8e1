use Rattle.std.proofs.Common.{map}
use Rattle.std.specs.Option.{option_copied}
use Rattle.world_setup.specs.Seen.{node_seen}
use Rattle.log_turning.specs.Joined.{part_seen}
use Rattle.log_turning.proofs.whole.join_parts.Goals as goal

pub returns-in-Err-check_rests-clause-refused : goal.returns-in-Err-check_rests-clause-refused
returns-in-Err-check_rests-clause-refused c =
    c.rest_fault.ensures c.args.text.now (node_seen c.args.node) (option_copied c.args.begins) (map part_seen c.args.parts.now) c.in-Err-check_rests.ensures.refused

pub returns-in-Err-clause-refused : goal.returns-in-Err-clause-refused
returns-in-Err-clause-refused c =
    c.join_fault.ensures c.args.text.now (node_seen c.args.node) (option_copied c.args.begins) (map part_seen c.args.parts.now) c.in-Err.ensures.refused

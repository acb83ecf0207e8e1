use Rattle.std.proofs.Common.{rules}
use Rattle.message_making.proofs.Ends.{ends_last}
use Rattle.message_making.proofs.judging.ends_in_space.Goals as goal

pub returns-in-Some : goal.returns-in-Some
returns-in-Some c = ends_last c.args.text.now c.in-Some.byte.now (search rules)

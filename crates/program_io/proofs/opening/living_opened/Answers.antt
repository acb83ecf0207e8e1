use Rattle.std.proofs.Common.{ap}
use Rattle.program_io.specs.Scheduled.{living_world_in, opened_if}
use Rattle.program_io.proofs.OpenedWorlds.{living_opens, living_opens_none}
use Rattle.program_io.proofs.opening.living_opened.Goals as goal

pub returns-in_ok-opening-in-Ok-clause-made : goal.returns-in_ok-opening-in-Ok-clause-made
returns-in_ok-opening-in-Ok-clause-made c = living_opens c.args.text.now c.in-Ok.settings c.in_ok-opening-in-Ok.field-0 c.in-Ok.ensures.spelled c.in_ok-opening-in-Ok.ensures

pub returns-in-Err-Settings : goal.returns-in-Err-Settings
unfolding living_world_in
returns-in-Err-Settings c = record { made = tt; fault = ap opened_if (rw c.in-Err-Settings.field-0-is at c.in-Err-Settings.ensures.refused) }

pub returns-in-Err-World : goal.returns-in-Err-World
returns-in-Err-World c =
    let none = rw c.in-Err-World.field-0-is at c.in-Err-World.ensures.refused in
    record { made = tt; fault = living_opens_none c.args.text.now none.settings c.in-Err-World.field-0-0 none.spelled none.refused }

-- Of one run at two moments.
use Rattle.crash_safety.proofs.WhateverSwitches.{told_whatever}
use Rattle.crash_safety.proofs.handing.answers_whatever_switches_are.Goals as goal

pub returns-clause-told : goal.returns-clause-told
returns-clause-told c = told_whatever

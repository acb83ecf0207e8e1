-- What comes of waiting.
use Rattle.std.specs.Prelude.{ℕ}
use Rattle.node_logged.specs.Tills.{Till}
use Rattle.schedule_run.specs.Told.{TellsAnswer, TellsOpen, TellsNone}
use Rattle.schedule_run.specs.declared.awaiting.Awaited.{Awaited}
use Rattle.schedule_run.specs.declared.awaiting.Awaited.TheVariants.{Settled, Open, NotThisTill}

-- what comes of waiting for the answer of a number, and the till before it and after it
abbrev pub ComesOf : ℕ → Till → Awaited → Till → Type 0
ComesOf number before (Settled answer) after = TellsAnswer number answer before after
ComesOf number before Open after = TellsOpen number before after
ComesOf number before NotThisTill after = TellsNone number before after

use Rattle.std.proofs.Common.{◌≡◌, List, take}
use Rattle.std.specs.Io.KnownBytes.{Appends}
use Rattle.world_report.specs.Words.{Line, lines_text}
use Rattle.node_logged.specs.LedgerSeen.{tills_seen}
use Rattle.schedule_run.specs.Told.{AreTold}
use Rattle.schedule_run.proofs.commands.make_commands.Given as goal

-- the commands so far were told, and their lines were written
abbrev pub invariant-loop-command : goal.invariant-loop-command
invariant-loop-command g l =
    ((lines : List Line) × Appends (g.K.Sink.contents l.initial.sink) (g.K.Sink.contents l.sink) (lines_text lines) × AreTold (take l.command-index l.commands) (tills_seen l.initial.tills) lines (tills_seen l.tills))
    × (g.K.Sink.loan l.sink ≡ g.K.Sink.loan l.initial.sink)

-- The commands that the lines of `run` spell: words parted by exactly one space, and nothing is trimmed.
use Rattle.std.specs.Prelude.{ℕ, List, codes, bytes_eq, Option, Some, None, if◌then◌else◌}
use Rattle.std.specs.Option.{option_map}
use Rattle.input_text.specs.Options.{◌>>=◌}
use Rattle.input_text.specs.Words.{split_word}
use Rattle.input_text.specs.Decimals.{decimal_number}
use Rattle.world_setup.specs.declared.event.Event.{Event}
use Rattle.world_setup.specs.declared.event.Event.TheVariants as event
use Rattle.schedule.specs.declared.commands.Command.{Command}
use Rattle.schedule.specs.declared.commands.Command.TheVariants.{Submit, Tick, Plan, Restart, Await}
use Rattle.schedule.specs.Nodes.{pharmacy_in, node_in}
use Rattle.schedule.specs.Events.{event_with}

-- the events that are commands too; packets are delivered by links, without an advice, nodes restarted as a whole, and terms, rules and caps stay
abbrev pub as_command : Event → Option Command
as_command (event.Submit pharmacy text) = Some (Submit pharmacy text)
as_command (event.Tick pharmacy) = Some (Tick pharmacy)
as_command (event.Deliver packet) = None
as_command (event.Stop node) = None
as_command (event.Start node) = None
as_command (event.Plan payer product price) = Some (Plan payer product price)
as_command (event.Terms payer fee copay) = None
as_command (event.Retry pharmacy nodes again tries) = None
as_command (event.Cap switch cap) = None
as_command (event.Adjudicate packet advice) = None

-- a pharmacy and the number of one of its requests
unfoldable pub awaited : List ℕ → Option Command
awaited rest = do
  words ← split_word rest
  pharmacy ← pharmacy_in words.0
  number ← decimal_number 18 words.1
  Some (Await pharmacy number)

-- the command of a word and what stands after it
abbrev pub command_with : List ℕ → List ℕ → Option Command
command_with word rest =
    if bytes_eq word (codes "restart") then option_map Restart (node_in rest) else
    if bytes_eq word (codes "await") then awaited rest else event_with word rest >>= as_command

-- the command that a line spells
unfoldable pub command_of : List ℕ → Option Command
command_of line = split_word line >>= (λ parts. command_with parts.0 parts.1)

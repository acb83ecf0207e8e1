-- What the command line names, and what is done for it.
use Rattle.std.specs.Prelude.{◌≡◌, ℕ, Bool, true, false, not, ◌==◌, ◌&&◌, cond, codes, List, Option, Some, None}
use Rattle.std.specs.Option.{option_copied}
use Rattle.clap.specs.declared.parser.matches.Found.{Found}
use Rattle.clap.specs.Words.{first_value, one_text}
use Rattle.schedule.specs.Nodes.{node_in}
use Rattle.world_setup.specs.declared.node.Node.{Node}
use Rattle.world_setup.specs.declared.node.Node.TheVariants.{Pharmacy, Switch, Payer}
use Rattle.claimnode.specs.declared.words.Words.{Words}
use Rattle.claimnode.specs.declared.words.Task.{Task}
use Rattle.claimnode.specs.declared.words.Task.TheVariants.{ServeDiskless, Serve, Repair, Turn, Join}

-- an option that is typed by its name alone is told as typed, and as not typed
abbrev pub IsFlag : Found → List ℕ → Bool → Type 0
IsFlag found name typed = (one_text found name ≡ None → typed ≡ false) × (one_text found name ≡ Some (codes "true") → typed ≡ true)

-- what was typed is what these words name: each text where its word has it, the node that one of them spells, and what was asked for; a number that was not typed is
-- 0, or none
pub record IsNamed (found : Found) (words : Words) : Type 0 where
  pub settings : first_value found (codes "SETTINGS") ≡ Some words.settings.now
  pub node : (text : List ℕ) → first_value found (codes "NODE") ≡ Some text → node_in text ≡ Some words.node
  pub log : option_copied words.log ≡ first_value found (codes "LOG")
  pub join : option_copied words.join ≡ first_value found (codes "join")
  pub repair : IsFlag found (codes "repair") words.repair
  pub turn : IsFlag found (codes "turn") words.turn
  pub least : one_text found (codes "at-least") ≡ None → words.least ≡ 0
  pub at_size : one_text found (codes "at-size") ≡ None → words.at_size ≡ 0
  pub cut_at : one_text found (codes "cut-at") ≡ None → words.cut_at ≡ None

abbrev pub is_switch : Node → Bool
is_switch (Pharmacy number) = false
is_switch (Switch number) = true
is_switch (Payer number) = false

abbrev pub is_some : {A : Type 0} → Option A → Bool
is_some (Some x) = true
is_some None = false

-- nothing is asked that is about a log
abbrev pub asks_of_no_log : Words → Bool
asks_of_no_log words = (words.least == 0) && (not words.repair && (not words.turn && not (is_some words.join)))

-- a log is named, or it is a switch of which nothing is asked that is about a log
abbrev pub has_its_log : Words → Bool
has_its_log words = cond (is_some words.log) true (is_switch words.node && asks_of_no_log words)

-- what is done is what was asked for: a log is served only where nothing else is to be done with it
abbrev pub IsTask : Words → Task → Type 0
IsTask words ServeDiskless = words.log ≡ None
IsTask words (Serve log) = (words.log ≡ Some log) × ((words.repair ≡ false) × ((words.turn ≡ false) × (words.join ≡ None)))
IsTask words (Repair log) = (words.log ≡ Some log) × (words.repair ≡ true)
IsTask words (Turn log) = (words.log ≡ Some log) × (words.turn ≡ true)
IsTask words (Join log out) = (words.log ≡ Some log) × (words.join ≡ Some out)

-- Calls with bytes of their own, as the lines that ask for them.
use Rattle.std.specs.Prelude.{◌≡◌, ◌⊎◌, ℕ, List, ◌++◌, codes, Ok, Err, Option, None, IsSome}
use Rattle.input_text.specs.Printing.{printed}
use Rattle.schedule.specs.Nodes.{node_in}
use Rattle.node_service.specs.Payments.{word_of}
use Rattle.node_handle.specs.declared.refusal.Refusal.TheVariants.{Name}
use Rattle.node_handle.specs.Saying.{Said}
use Rattle.node_handle.specs.Hosting.{Hosting}
use Rattle.node_handle.specs.Calls.{Serves}

-- the line that enters a request
abbrev pub submit_line : List ℕ → List ℕ
submit_line request = codes "submit " ++ printed request

-- the line that tells of a packet, and of the node that sent it
abbrev pub take_line : List ℕ → List ℕ → List ℕ
take_line from packet = codes "take " ++ (from ++ (codes " " ++ printed packet))

-- the line that tells of a packet, of the node that sent it, and of an advice
abbrev pub adjudicate_line : List ℕ → List ℕ → List ℕ → List ℕ
adjudicate_line from packet advice = codes "adjudicate " ++ (from ++ (codes " " ++ (word_of advice ++ (codes " " ++ printed packet))))

-- a packet was taken as its line says; where the name is no node's, nothing changes
abbrev pub Takes : Option Hosting → List ℕ → List ℕ → Said → Option Hosting → Type 0
Takes old from packet (Ok made) new = IsSome (node_in from) × Serves old (take_line from packet) (Ok made) new
Takes old from packet (Err why) new = ((why ≡ Name) × ((node_in from ≡ None) × (new ≡ old))) ⊎ Serves old (take_line from packet) (Err why) new

-- a packet was taken with an advice as its line says; where the name is no node's, nothing changes
abbrev pub Adjudicates : Option Hosting → List ℕ → List ℕ → List ℕ → Said → Option Hosting → Type 0
Adjudicates old from packet advice (Ok made) new = IsSome (node_in from) × Serves old (adjudicate_line from packet advice) (Ok made) new
Adjudicates old from packet advice (Err why) new = ((why ≡ Name) × ((node_in from ≡ None) × (new ≡ old))) ⊎ Serves old (adjudicate_line from packet advice) (Err why) new

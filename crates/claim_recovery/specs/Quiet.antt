-- A pharmacy whose entries all have their answers is quiet.
use Rattle.std.specs.Prelude.{◌≡◌, ℕ, List, [], ⊤, Some}
use Rattle.std.specs.List.{AllByRecursion}
use Rattle.claim_model.specs.Context.{Context}
use Rattle.claim_model.specs.Numbered.{numbered}
use Rattle.claim_model.specs.Journal.{Journal, JournalAtRest, Kept, stopped}
use Rattle.claim_model.specs.Node.{Node, Pharmacy, Switch, Payer, Power, Up, Done}
use Rattle.claim_model.specs.World.{World, Event, Submission, Ticking, Delivery, Stopping, Starting, Revising, Adjudication, step, run}
use Rattle.claim_model.specs.Held.{journal_in}

pub record HasAnswer (k : Kept) : Type 0 where
  pub answer : List ℕ
  pub is : k.answer ≡ Some answer

-- every entry of a journal has its answer
abbrev pub AllSettled : JournalAtRest → Type 0
AllSettled j = AllByRecursion HasAnswer j.entries

abbrev pub IsOther : ℕ → Node → Type 0
IsOther n (Pharmacy m) = m ≡ n → ⊥
IsOther n (Switch m) = ⊤
IsOther n (Payer m) = ⊤

-- any event but a submission, a stop, a start or another rule of this pharmacy
abbrev pub Spares : ℕ → Event → Type 0
Spares n (Submission m text) = m ≡ n → ⊥
Spares n (Ticking m) = ⊤
Spares n (Delivery k) = ⊤
Spares n (Stopping node) = IsOther n node
Spares n (Starting node) = IsOther n node
Spares n (Revising node revision) = IsOther n node
Spares n (Adjudication k advice) = ⊤

-- a tick of such a pharmacy sends nothing and changes nothing at all
abbrev pub TicksInVain : Context → World → ℕ → Type 0
TicksInVain ctx w n = (j : Journal) → numbered w.pharmacies n ≡ Some (Up j) → AllSettled (stopped j) → step ctx w (Ticking n) ≡ Done w []

-- no list of such events changes the pharmacy
abbrev pub StaysSettled : Context → World → ℕ → Type 0
StaysSettled ctx w n = (s : Power Journal JournalAtRest) (events : List Event) → numbered w.pharmacies n ≡ Some s → AllSettled (journal_in s) → AllByRecursion (Spares n) events → numbered (run ctx w events).pharmacies n ≡ Some s

-- The first cause for which a text is not submitted.
use Rattle.std.specs.Prelude.{◌≡◌, ℕ, List, Option, Some, None}
use Rattle.claim_model.specs.declared.refusal.Refusal.{Refusal}
use Rattle.claim_model.specs.declared.refusal.Fault.{Fault}
use Rattle.claim_model.specs.Refusal.{refusal_of}
use Rattle.claim_model.specs.Journal.{Journal, submit_fault}
use Rattle.pharmacy_journal.specs.Reading.{header_of}

-- this is the first cause, unless memory ran out
abbrev pub IsCause : Option Refusal → Option Refusal → Type 0
IsCause None first = Unit {0}
IsCause (Some why) first = first ≡ Some why

-- the fault is the first for which a text is refused
abbrev pub IsFirstFault : Journal → List ℕ → Fault → Type 0
IsFirstFault journal text fault = IsCause (refusal_of fault) (submit_fault journal text (header_of text))

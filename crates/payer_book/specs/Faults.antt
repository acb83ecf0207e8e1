-- What a fault is where a row is made.
use Rattle.std.specs.Prelude.{◌≡◌, ◌⊎◌, Bool, false, Result, IfErr}
use Rattle.claim_model.specs.declared.refusal.Fault.{Fault}
use Rattle.claim_model.specs.declared.refusal.Refusal.TheVariants.{SerialsUsedUp}
use Rattle.claim_model.specs.declared.refusal.Fault.TheVariants.{OutOfMemory, Refused}
use Rattle.payer_book.specs.declared.fault.RowFault.{RowFault}
use Rattle.payer_book.specs.declared.fault.RowFault.TheVariants as row

-- no ruling is made for want of memory, or where not each payment has a serial that there is
abbrev pub LacksSerial : {A : Type 0} → Bool → Result A Fault → Type 0
LacksSerial fit result = IfErr result (λ e. (e ≡ OutOfMemory) ⊎ ((e ≡ Refused SerialsUsedUp) × (fit ≡ false)))

-- what each fault is of a kept row: want of memory, or a row that cannot stand
abbrev pub row_fault : Fault → RowFault
row_fault OutOfMemory = row.OutOfMemory
row_fault (Refused why) = row.BadRow

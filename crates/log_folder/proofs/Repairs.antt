-- What is told of a log that was mended, in the words of the clauses.
use Rattle.std.proofs.Common.{◌≡◌, ℕ, List, Option, Result, Ok, Err, IfOk}
use Rattle.claim_model.specs.Node.{Node}
use Rattle.log_turning.specs.Files.{part_in}
use Rattle.log_folder.specs.declared.fault.RepairFault.{RepairFault}
use Rattle.log_folder.specs.declared.mending.Mended.{Mended}
use Rattle.log_folder.specs.declared.repairing.Repaired.{Repaired}
use Rattle.log_folder.specs.Deeds.{Deed}
use Rattle.log_folder.specs.Mending.{IsMended}
use Rattle.log_folder.specs.Repairing.{IsRepaired, TellsOf, ends_so}

pub repaired : (text : List ℕ) (node : Node) (typed : Option ℕ) (mended : Mended) (old new : List Deed) (r : Result Repaired RepairFault) → IsMended text node typed mended old new
    → IfOk r (λ one. TellsOf (part_in mended.bytes.items).log mended.condition mended.cut one.told.items) → IfOk r (λ one. one.ended ≡ ends_so mended.condition mended.cut)
    → IfOk r (λ one. IsRepaired text node typed one old new)
repaired text node typed mended old new (Ok one) is told ended = record { mended = mended; is = is; told = told; ended = ended }
repaired text node typed mended old new (Err why) is told ended = tt

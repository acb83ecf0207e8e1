-- The names of the causes for which no run is found, as a report prints them.
use Rattle.std.specs.Prelude.{ℕ, List, codes}
use Rattle.node_logged.specs.declared.judging.finish_fault.FinishFault.{FinishFault}
use Rattle.node_logged.specs.declared.judging.finish_fault.FinishFault.TheVariants as fault

abbrev pub finish_name : FinishFault → List ℕ
finish_name fault.OutOfMemory = codes "OutOfMemory"
finish_name (fault.TillMissing pharmacy logs) = codes "TillMissing"
finish_name (fault.ReceiptMissing logs) = codes "ReceiptMissing"
finish_name (fault.HeardDiffers logs) = codes "HeardDiffers"
finish_name (fault.Tangled logs) = codes "Tangled"

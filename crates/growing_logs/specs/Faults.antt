-- Why logs are not taken over, as faults of files.
use Rattle.replaced_files.specs.declared.fault.TakeFault.{TakeFault}
use Rattle.replaced_files.specs.declared.fault.TakeFault.TheVariants as take
use Rattle.replaced_files.specs.declared.fault.ReplaceFault.{ReplaceFault}
use Rattle.replaced_files.specs.declared.fault.ReplaceFault.TheVariants as replace
use Rattle.growing_logs.specs.declared.fault.GrowFault.{GrowFault}
use Rattle.growing_logs.specs.declared.fault.GrowFault.TheVariants.{Busy, File, SomeStay}

abbrev pub untaken : TakeFault → GrowFault
untaken (take.Io place error) = File place error
untaken (take.Busy place) = Busy place

abbrev pub unreplaced : ReplaceFault → GrowFault
unreplaced (replace.Io place error) = File place error
unreplaced replace.SomeStay = SomeStay

-- Which refusal of a handle a fault is, and the place that is told with it.
use Rattle.std.specs.Prelude.{ℕ, ◌+◌}
use Rattle.kept_logs.specs.declared.fault.LogFault.{LogFault}
use Rattle.kept_logs.specs.declared.fault.LogFault.TheVariants as log_fault
use Rattle.message_making.specs.declared.judging.FieldFault.{FieldFault}
use Rattle.message_making.specs.declared.judging.FieldFault.TheVariants as field_fault
use Rattle.node_service.specs.declared.fault.ServiceFault.{ServiceFault}
use Rattle.node_service.specs.declared.fault.ServiceFault.TheVariants as service
use Rattle.node_handle.specs.declared.refusal.Refusal.{Refusal}
use Rattle.node_handle.specs.declared.refusal.Refusal.TheVariants as refusal

-- the refusal of a log
abbrev pub refusal_of_log : LogFault → Refusal
refusal_of_log log_fault.OutOfMemory = refusal.OutOfMemory
refusal_of_log log_fault.Short = refusal.NotALog
refusal_of_log log_fault.NotALog = refusal.NotALog
refusal_of_log log_fault.Version = refusal.LogVersion
refusal_of_log log_fault.DamagedHead = refusal.DamagedHead
refusal_of_log log_fault.NoNode = refusal.NoKind
refusal_of_log log_fault.OtherSettings = refusal.OtherSettings
refusal_of_log (log_fault.Damaged place) = refusal.Damaged
refusal_of_log (log_fault.BadRecord place) = refusal.BadRecord

-- the refusal of a field of a message
abbrev pub refusal_of_field : FieldFault → Refusal
refusal_of_field field_fault.Empty = refusal.FieldEmpty
refusal_of_field field_fault.TooLong = refusal.FieldTooLong
refusal_of_field field_fault.Separator = refusal.FieldSeparator
refusal_of_field field_fault.TrailingSpace = refusal.FieldSpace
refusal_of_field field_fault.NotDigits = refusal.FieldDigits
refusal_of_field field_fault.NoDay = refusal.FieldDay

-- the refusal of a node that is not opened
abbrev pub refusal_of : ServiceFault → Refusal
refusal_of service.OutOfMemory = refusal.OutOfMemory
refusal_of service.Settings = refusal.Settings
refusal_of service.NoSuchNode = refusal.NoSuchNode
refusal_of service.Rest = refusal.NotARest
refusal_of (service.Log fault) = refusal_of_log fault
refusal_of service.OtherNode = refusal.OtherNode
refusal_of (service.NotMade place) = refusal.BadRecord

-- the place of the record that a log's fault is about, in a file with this many bytes before the log; or what was there before
abbrev pub place_in_log : LogFault → ℕ → ℕ → ℕ
place_in_log log_fault.OutOfMemory first before = before
place_in_log log_fault.Short first before = before
place_in_log log_fault.NotALog first before = before
place_in_log log_fault.Version first before = before
place_in_log log_fault.DamagedHead first before = before
place_in_log log_fault.NoNode first before = before
place_in_log log_fault.OtherSettings first before = before
place_in_log (log_fault.Damaged place) first before = first + place
place_in_log (log_fault.BadRecord place) first before = first + place

-- the same of a node that is not opened
abbrev pub place_in : ServiceFault → ℕ → ℕ → ℕ
place_in service.OutOfMemory first before = before
place_in service.Settings first before = before
place_in service.NoSuchNode first before = before
place_in service.Rest first before = before
place_in (service.Log fault) first before = place_in_log fault first before
place_in service.OtherNode first before = before
place_in (service.NotMade place) first before = first + place

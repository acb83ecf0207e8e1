-- Which settings a switch takes.
use Rattle.std.specs.Prelude.{ℕ, ◌==◌, nat_le, ◌&&◌, Result, Ok, Err, if◌then◌else◌}
use Rattle.claim_model.specs.Limits.{Limits, stated, most_entries}
use Rattle.switch_node.specs.declared.fault.SettingFault.{SettingFault}
use Rattle.switch_node.specs.declared.fault.SettingFault.TheVariants.{BadSetting}

-- the settings of a cap, which is 1 to the most that the limits allow
abbrev pub settings_within : Limits → ℕ → Result ℕ SettingFault
settings_within limits cap = if nat_le 1 cap && nat_le cap limits.entries then Ok cap else Err BadSetting

-- the same within the stated limits, 65,536 slots
abbrev pub settings_of : ℕ → Result ℕ SettingFault
settings_of cap = settings_within stated cap

-- the cap that is nearest to a number, 1 to 16,777,216
abbrev pub nearest : ℕ → ℕ
nearest number = if number == 0 then 1 else if nat_le number most_entries then number else most_entries

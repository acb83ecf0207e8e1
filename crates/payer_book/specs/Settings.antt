-- The settings of a book.
use Rattle.std.specs.Prelude.{ℕ, ◌≤◌, Bool, ◌&&◌, false, nat_le, Result, Ok, Err, if◌then◌else◌}
use Rattle.claim_model.specs.Rows.{BookSettings}
use Rattle.claim_model.specs.Limits.{Limits, stated, most_entries}
use Rattle.claim_profile.specs.Authorization.{largest_serial}
use Rattle.payer_book.specs.declared.fault.SettingFault.{SettingFault}
use Rattle.payer_book.specs.declared.fault.SettingFault.TheVariants.{BadSetting}

-- the first serial has one to twelve digits, and there is room for 1 to 16,777,216 rows
pub record IsSettings (first most : ℕ) : Type 0 where
  pub serial : 1 ≤ first
  pub serial_fits : first ≤ largest_serial
  pub cap : 1 ≤ most
  pub cap_fits : most ≤ most_entries

-- the same within limits, as a test
abbrev pub are_settings : Limits → ℕ → ℕ → Bool
are_settings limits serial cap = nat_le 1 serial && (nat_le serial largest_serial && (nat_le 1 cap && nat_le cap limits.entries))

-- settings of these numbers, within limits
abbrev pub settings_within : Limits → ℕ → ℕ → Result BookSettings SettingFault
settings_within limits serial cap = if are_settings limits serial cap then Ok (record { serial = serial; cap = cap; asks = false; reversals = false; carries = false }) else Err BadSetting

-- the same within the stated limits, 65,536 rows
abbrev pub settings_of : ℕ → ℕ → Result BookSettings SettingFault
settings_of serial cap = settings_within stated serial cap

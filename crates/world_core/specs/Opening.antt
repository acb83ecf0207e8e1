-- What the settings of nodes keep.
use Rattle.std.specs.Prelude.{◌<◌, length}
use Rattle.claim_model.specs.Journal.{PharmacySettings, opening_rule}
use Rattle.claim_recovery.specs.Help.{IsTimely}
use Rattle.world_setup.specs.declared.settings.PayerSettings.{PayerSettings}

-- a pharmacy has some switch to send to
abbrev pub HasSwitches : PharmacySettings → Type 0
HasSwitches s = 0 < length s.nodes

-- a pharmacy opens with a rule that waits and tries once at least
abbrev pub OpensTimely : PharmacySettings → Type 0
OpensTimely s = IsTimely (opening_rule s)

-- the first serial number of a payer is not zero
abbrev pub HasSerial : PayerSettings → Type 0
HasSerial s = 0 < s.book.serial

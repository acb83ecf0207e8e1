-- What logs of days promise, whatever days led to what they begin with.
use Rattle.std.specs.Prelude.{ℕ, ◌<◌, List, Option}
use Rattle.std.specs.Global.{Vec}
use Rattle.claim_model.specs.Bytes.{bytes_with}
use Rattle.claim_model.specs.Context.{Context}
use Rattle.claim_model.specs.Logs.{NodeLog}
use Rattle.claim_model.specs.Settings.{Accepts}
use Rattle.claim_model.specs.World.{World}
use Rattle.world_setup.specs.Seen.{settings_seen}
use Rattle.world_setup.specs.declared.settings.PayerSettings.{PayerSettings}
use Rattle.world_setup.specs.declared.settings.WorldSettings.{WorldSettings}
use Rattle.vouched_runs.specs.Parties.{world_of}
use Rattle.days_audit.specs.Begun.{HasDays}
use Rattle.world_setup.specs.Taken.{routes_in}

-- the reading of bytes under the routes of these settings
abbrev pub reading_of : WorldSettings → Context
reading_of s = bytes_with (routes_in s)

-- this is true of the nodes with which logs of days begin, and of those with which the days end. The premise: settings that a world takes
abbrev pub KeptByDays : (Context → World → Type 0) → Type 0
KeptByDays promise =
    (s : WorldSettings) (rests : List (Option (Vec ℕ))) (logs : List NodeLog) (calls : ℕ) (days : HasDays s rests logs calls) → Accepts (reading_of s) (settings_seen s)
    → promise (reading_of s) (world_of days.parties) × promise (reading_of s) (world_of days.are.after)

-- and this between the two
abbrev pub KeptOverDays : (Context → World → World → Type 0) → Type 0
KeptOverDays promise =
    (s : WorldSettings) (rests : List (Option (Vec ℕ))) (logs : List NodeLog) (calls : ℕ) (days : HasDays s rests logs calls) → Accepts (reading_of s) (settings_seen s)
    → promise (reading_of s) (world_of days.parties) (world_of days.are.after)

-- the first serial number of a payer is not zero
abbrev pub HasSerial : PayerSettings → Type 0
HasSerial s = 0 < s.book.serial

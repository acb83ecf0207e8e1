-- Logs of days begin with states that are kept, and agree: from there vouched calls keep all promises.
use Rattle.std.proofs.Common.{ℕ, List, [], Option, refl}
use Rattle.std.specs.Global.{Vec}
use Rattle.bin_routes.specs.Table.{RouteMaps}
use Rattle.claim_model.specs.Bytes.{bytes_with}
use Rattle.claim_model.specs.Context.{Context}
use Rattle.claim_model.specs.Laws.{Laws}
use Rattle.claim_model.specs.Logs.{NodeLog}
use Rattle.claim_model.specs.Settings.{Accepts}
use Rattle.claim_model.specs.World.{World}
use Rattle.world_setup.specs.Seen.{settings_seen}
use Rattle.world_setup.specs.declared.settings.WorldSettings.{WorldSettings}
use Rattle.crash_safety.specs.Explained.{Turn}
use Rattle.vouched_runs.specs.Parties.{Parties}
use Rattle.vouched_runs.specs.Vouched.{Leads}
use Rattle.vouched_runs.specs.Agreeing.{Agree, Agreeing, AlwaysFromAgreeing, LaterFromAgreeing}
use Rattle.days_audit.specs.Begun.{HasDays}
use Rattle.days_audit.specs.Promised.{reading_of, KeptByDays, KeptOverDays}
use Rattle.days_audit.proofs.ReadStates.{OnlyStanding}
use Rattle.days_audit.proofs.BegunStates.{begun_kept}
use Rattle.world_setup.specs.Taken.{routes_in}

module _ (only : OnlyStanding) (laws : (routes : RouteMaps) → Laws (bytes_with routes)) where
  days_agree : (s : WorldSettings) (rests : List (Option (Vec ℕ))) (logs : List NodeLog) (calls : ℕ) (days : HasDays s rests logs calls) → Accepts (reading_of s) (settings_seen s) → Agreeing (reading_of s) (settings_seen s) days.parties
  days_agree s rests logs calls days accepts =
      let routes : RouteMaps = routes_in s in
      record { laws = laws routes; accepts = accepts; kept = begun_kept s rests logs days.parties days.begin days.are.one only routes (laws routes) accepts; agree = days.agree }

  pub kept_by_days : (promise : Context → World → Type 0) → AlwaysFromAgreeing promise → KeptByDays promise
  kept_by_days promise always = λ s rests logs calls days accepts.
      let a : Agreeing (reading_of s) (settings_seen s) days.parties = days_agree s rests logs calls days accepts in
      (always (reading_of s) (settings_seen s) days.parties days.parties [] a refl, always (reading_of s) (settings_seen s) days.parties days.are.after days.turns a days.are.leads)

  pub kept_over_days : (promise : Context → World → World → Type 0) → LaterFromAgreeing promise → KeptOverDays promise
  kept_over_days promise later = λ s rests logs calls days accepts.
      later (reading_of s) (settings_seen s) days.parties days.are.after days.turns (days_agree s rests logs calls days accepts) days.are.leads

  -- so the days after these may begin where these end
  pub ends_agree : ((s : WorldSettings) (p q : Parties) (turns : List Turn) → Agreeing (reading_of s) (settings_seen s) p → Leads (reading_of s) p turns q → Agreeing (reading_of s) (settings_seen s) q)
      → (s : WorldSettings) (rests : List (Option (Vec ℕ))) (logs : List NodeLog) (calls : ℕ) (days : HasDays s rests logs calls) → Accepts (reading_of s) (settings_seen s) → Agree (reading_of s) days.are.after
  ends_agree on s rests logs calls days accepts = (on s days.parties days.are.after days.turns (days_agree s rests logs calls days accepts) days.are.leads).agree

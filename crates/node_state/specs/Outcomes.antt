-- How a call on a node ends, beside what the rule of the node says.
use Rattle.std.specs.Prelude.{◌≡◌, ℕ, map, Result, IfOk, IfErr}
use Rattle.std.specs.Global.{Vec}
use Rattle.bin_routes.specs.Table.{RouteMaps}
use Rattle.claim_model.specs.Bytes.{bytes_with}
use Rattle.claim_model.specs.Rows.{Book}
use Rattle.claim_model.specs.Journal.{Journal, JournalAtRest}
use Rattle.claim_model.specs.Table.{Table}
use Rattle.claim_model.specs.Node.{Power, Call, Outcome, Done, pharmacy_step, switch_step, payer_step}
use Rattle.world_setup.specs.declared.call.Sent.{Sent}
use Rattle.claim_model.specs.Refused.{RefusedAs}
use Rattle.claim_model.specs.declared.refusal.Fault.{Fault}
use Rattle.claim_model.specs.Refusal.{refusal_of}
use Rattle.world_setup.specs.Seen.{sent_seen}

-- a call that is made leaves what the rule leaves, and sends what the rule sends
abbrev pub Makes : {A : Type 0} → Outcome A → A → Result (Vec Sent) Fault → Type 0
Makes outcome new result = IfOk result (λ sent. outcome ≡ Done new (map sent_seen sent.items))

-- a call is refused for the cause for which the rule refuses it; want of memory says nothing of it
abbrev pub Refuses : {A : Type 0} → {B : Type 0} → Outcome A → Result B Fault → Type 0
Refuses outcome result = IfErr result (λ fault. RefusedAs (refusal_of fault) outcome)

-- the same of a pharmacy: its rule asks no route, so under all of them
abbrev pub PharmacyMakes : Power Journal JournalAtRest → Call → Power Journal JournalAtRest → Result (Vec Sent) Fault → Type 0
PharmacyMakes old call new result = (routes : RouteMaps) → Makes (pharmacy_step (bytes_with routes) old call) new result

abbrev pub PharmacyRefuses : Power Journal JournalAtRest → Call → Result (Vec Sent) Fault → Type 0
PharmacyRefuses old call result = (routes : RouteMaps) → Refuses (pharmacy_step (bytes_with routes) old call) result

-- of a switch, under these routes
abbrev pub SwitchMakes : RouteMaps → Power Table ℕ → Call → Power Table ℕ → Result (Vec Sent) Fault → Type 0
SwitchMakes routes old call new result = Makes (switch_step (bytes_with routes) old call) new result

abbrev pub SwitchRefuses : RouteMaps → Power Table ℕ → Call → Result (Vec Sent) Fault → Type 0
SwitchRefuses routes old call result = Refuses (switch_step (bytes_with routes) old call) result

-- of a payer, under these routes
abbrev pub PayerMakes : RouteMaps → Power Book Book → Call → Power Book Book → Result (Vec Sent) Fault → Type 0
PayerMakes routes old call new result = Makes (payer_step (bytes_with routes) old call) new result

abbrev pub PayerRefuses : RouteMaps → Power Book Book → Call → Result (Vec Sent) Fault → Type 0
PayerRefuses routes old call result = Refuses (payer_step (bytes_with routes) old call) result

use Rattle.std.proofs.Common.{◌≡◌, ◌<◌, ◌≤◌, ℕ, length, sym, ap, subst, ◌∙◌, arith}
use Rattle.std.proofs.lemmas.List.{length-map}
use Rattle.claim_model.specs.Limits.{most_pharmacies, most_switches, most_payers}
use Rattle.claim_model.specs.Node.{Node}
use Rattle.claim_model.proofs.Given.{passed}
use Rattle.world_setup.specs.Seen.{node_seen, payer_seen, settings_seen}
use Rattle.run_merge.specs.Naming.{name_at, has_log}
use Rattle.node_log.specs.LogSeen.{logs_seen}
use Rattle.run_merge.proofs.Covering.{count_of, name_in, have_all, have_not}
use Rattle.run_merge.proofs.history.have_logs.Goals as goal

pub name_at-requires-clause-pharmacies : goal.name_at-requires-clause-pharmacies
name_at-requires-clause-pharmacies c =
    let most : length c.args.settings.now.pharmacies.items ≤ most_pharmacies = (passed (settings_seen c.args.settings.now) c.requires).pharmacies in
    omega (arith, most)

pub name_at-requires-clause-switches : goal.name_at-requires-clause-switches
name_at-requires-clause-switches c =
    let most : length c.args.settings.now.switches.items ≤ most_switches = (passed (settings_seen c.args.settings.now) c.requires).switches in
    omega (arith, most)

pub name_at-requires-clause-place : goal.name_at-requires-clause-place
name_at-requires-clause-place c =
    let most : length c.args.settings.now.payers.items ≤ most_payers =
    subst (λ (n : ℕ). n ≤ most_payers) (length-map c.args.settings.now.payers.items payer_seen) (passed (settings_seen c.args.settings.now) c.requires).payers in
    omega (arith, most)

pub returns-then-not-has_log : goal.returns-then-not-has_log
returns-then-not-has_log c =
    let a : c.len-pharmacies.result ≡ length c.args.settings.now.pharmacies.items = omega arith in
    let b : c.len-switches.result ≡ length c.args.settings.now.switches.items = omega arith in
    let named : node_seen c.name_at.result ≡ name_in c.args.settings.now c.loop-place.place = c.name_at.ensures ∙ (λ i. name_at (a i) (b i) c.loop-place.place) in
    let within : c.loop-place.place < count_of c.args.settings.now = omega arith in
    have_not c.args.settings.now (logs_seen c.args.logs.now) c.loop-place.place within
    (ap (λ (node : Node). has_log node (logs_seen c.args.logs.now)) (sym named) ∙ (sym c.has_log.ensures ∙ c.if-not-has_log.true))

pub returns : goal.returns
returns c =
    let all : count_of c.args.settings.now ≡ c.loop-place.place = omega arith in
    have_all c.args.settings.now (logs_seen c.args.logs.now) c.loop-place.place all c.loop-place.invariant

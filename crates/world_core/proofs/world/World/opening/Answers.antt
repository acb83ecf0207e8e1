use Rattle.std.proofs.Common.{ℕ, ◌≤◌, length, sym, subst}
use Rattle.std.proofs.lemmas.Bool.{not-false}
use Rattle.std.proofs.lemmas.List.{length-map}
use Rattle.claim_model.specs.Limits.{most_payers}
use Rattle.claim_model.specs.World.{World}
use Rattle.claim_model.proofs.Given.{passed}
use Rattle.world_setup.specs.Seen.{payer_seen, settings_seen}
use Rattle.world_core.specs.Parts.{IsReached}
use Rattle.world_core.proofs.Opened.{all_have_switches, opened}
use Rattle.world_core.proofs.world.World.opening.Goals as goal

pub opening-requires-clause-pharmacies : goal.opening-requires-clause-pharmacies
opening-requires-clause-pharmacies c = rw c.into_parts-settings.ensures.kept (passed (settings_seen c.args.settings) c.into_parts-settings.ensures.nodes).pharmacies

pub opening-requires-clause-payers : goal.opening-requires-clause-payers
opening-requires-clause-payers c =
    rw c.into_parts-settings.ensures.kept
    (subst (λ (n : ℕ). n ≤ most_payers) (length-map c.args.settings.payers.items payer_seen) (passed (settings_seen c.args.settings) c.into_parts-settings.ensures.nodes).payers)

pub opening-requires-clause-nodes : goal.opening-requires-clause-nodes
opening-requires-clause-nodes c =
    rw c.into_parts-settings.ensures.kept
    (all_have_switches (length c.args.settings.switches.items) c.args.settings.pharmacies.items (not-false _ (passed (settings_seen c.args.settings) c.into_parts-settings.ensures.nodes).nodes))

pub invariant_of-result : goal.invariant_of-result
invariant_of-result c =
    let kept = c.into_parts-settings.ensures.kept in
    let routes = c.into_parts-settings.result.1 in
    subst (λ (w : World). IsReached routes w) (sym (rw kept at c.in_ok-parts.ensures.opened))
    (opened c.args.settings routes c.into_parts-settings.ensures.routes c.into_parts-settings.ensures.nodes c.into_parts-settings.ensures.rows (rw kept at c.in_ok-parts.ensures.sized) (rw kept at c.in_ok-parts.ensures.serials) (rw kept at c.in_ok-parts.ensures.timely) c.bytes_keep_laws.ensures c.routes_lead_to_payers.ensures c.number_laws.ensures.among)

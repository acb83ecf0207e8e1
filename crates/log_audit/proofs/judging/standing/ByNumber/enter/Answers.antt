use Rattle.std.proofs.Common.{◌∙◌, sym, ap}
use Rattle.std.specs.BTreeMap.{get}
use Rattle.std.specs.Ordering.{nat_cmp}
use Rattle.claim_model.specs.Node.{Pharmacy, Switch, Payer}
use Rattle.node_state.specs.Any.{any_seen}
use Rattle.node_state.specs.Nodes.{OfPharmacy, OfSwitch, OfPayer}
use Rattle.world_setup.specs.Seen.{node_seen}
use Rattle.log_audit.proofs.Ends.{kind_enters, stands_as, when_true}
use Rattle.log_audit.proofs.judging.standing.ByNumber.enter.Goals as goal

pub returns-in-Pharmacy-name : goal.returns-in-Pharmacy-name
returns-in-Pharmacy-name c =
    let number = c.in-Pharmacy-name.number in
    let node = c.in-Pharmacy.node in
    when_true _ _ c.enter.result
    (λ enters s logs stands each. record {
      pharmacies = kind_enters s logs Pharmacy OfPharmacy (get nat_cmp c.args.self.now.pharmacies) (get nat_cmp c.enter.new.nodes) number node enters
          (stands_as s logs (node_seen c.args.name) (Pharmacy number) c.args.node (OfPharmacy node) (ap node_seen c.in-Pharmacy-name.is) (sym c.into_kind.ensures ∙ ap any_seen c.in-Pharmacy.is) stands) each.pharmacies;
      switches = each.switches;
      payers = each.payers;
    })
    c.enter.ensures

pub returns-in-Switch-name : goal.returns-in-Switch-name
returns-in-Switch-name c =
    let number = c.in-Switch-name.number in
    let node = c.in-Switch.node in
    when_true _ _ c.enter-in-Switch-name.result
    (λ enters s logs stands each. record {
      pharmacies = each.pharmacies;
      switches = kind_enters s logs Switch OfSwitch (get nat_cmp c.args.self.now.switches) (get nat_cmp c.enter-in-Switch-name.new.nodes) number node enters
          (stands_as s logs (node_seen c.args.name) (Switch number) c.args.node (OfSwitch node) (ap node_seen c.in-Switch-name.is) (sym c.into_kind.ensures ∙ ap any_seen c.in-Switch.is) stands) each.switches;
      payers = each.payers;
    })
    c.enter-in-Switch-name.ensures

pub returns-in-Payer-name : goal.returns-in-Payer-name
returns-in-Payer-name c =
    let number = c.in-Payer-name.number in
    let node = c.in-Payer.node in
    when_true _ _ c.enter-in-Payer-name.result
    (λ enters s logs stands each. record {
      pharmacies = each.pharmacies;
      switches = each.switches;
      payers = kind_enters s logs Payer OfPayer (get nat_cmp c.args.self.now.payers) (get nat_cmp c.enter-in-Payer-name.new.nodes) number node enters
          (stands_as s logs (node_seen c.args.name) (Payer number) c.args.node (OfPayer node) (ap node_seen c.in-Payer-name.is) (sym c.into_kind.ensures ∙ ap any_seen c.in-Payer.is) stands) each.payers;
    })
    c.enter-in-Payer-name.ensures

use Rattle.std.proofs.Common.{◌≡◌, length, ◌∙◌}
use Rattle.std.specs.Arc.{arc_value}
use Rattle.node_log.proofs.Opens.{pharmacy_there, switch_there, payer_there}
use Rattle.node_threads.proofs.hall.Hall.station.Goals as goal

pub returns-in-Pharmacy : goal.returns-in-Pharmacy
returns-in-Pharmacy c =
    let s = arc_value c.self.inside.shared in
    let count : length c.as_slice.result.now ≡ length s.pharmacies.items = c.as_slice.ensures.len ∙ (c.self.invariant.pharmacies ∙ s.pharmacies.ok.0) in
    rw (c.in-Pharmacy.is, ← c.self.view_is, c.numbered.ensures) (pharmacy_there s.pharmacies.items (length c.as_slice.result.now) c.in-Pharmacy.number count)

pub returns-in-Switch : goal.returns-in-Switch
returns-in-Switch c =
    let s = arc_value c.self.inside.shared in
    let count : length c.as_slice-in-Switch.result.now ≡ length s.switches.items = c.as_slice-in-Switch.ensures.len ∙ (c.self.invariant.switches ∙ s.switches.ok.0) in
    rw (c.in-Switch.is, ← c.self.view_is, c.numbered-in-Switch.ensures) (switch_there s.switches.items (length c.as_slice-in-Switch.result.now) c.in-Switch.number count)

pub returns-in-Payer : goal.returns-in-Payer
returns-in-Payer c =
    let s = arc_value c.self.inside.shared in
    let count : length c.as_slice-in-Payer.result.now ≡ length s.payers.items = c.as_slice-in-Payer.ensures.len ∙ (c.self.invariant.payers ∙ s.payers.ok.0) in
    rw (c.in-Payer.is, ← c.self.view_is, c.numbered-in-Payer.ensures) (payer_there s.payers.items (length c.as_slice-in-Payer.result.now) c.in-Payer.number count)

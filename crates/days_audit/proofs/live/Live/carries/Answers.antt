use Rattle.std.proofs.Common.{List, ℕ, subst, sym, ap, ◌∙◌}
use Rattle.envelope.specs.Envelope.{IsTextOf}
use Rattle.claim_model.specs.Bytes.{bytes_with, envelope_in}
use Rattle.vouched_runs.specs.Parties.{world_of}
use Rattle.switch_node.proofs.Steps.{IfOk-map}
use Rattle.days_audit.proofs.Carrying.{carries_told}
use Rattle.days_audit.proofs.live.Live.carries.Goals as goal

pub returns-in-Ok : goal.returns-in-Ok
returns-in-Ok c =
    IfOk-map c.says.result _ _
    (carries_told c.args.routes.now (world_of c.args.self.now) c.as_slice.result.ref_ptr c.args.packet.now c.in-Ok.envelope (c.bytes_keep_laws.ensures c.args.routes.now)
    (subst (λ (bytes : List ℕ). IsTextOf c.as_slice.result.ref_ptr bytes c.in-Ok.envelope) c.as_slice.ensures c.in-Ok.ensures.found)
    (ap (bytes_with c.args.routes.now).read_envelope (sym c.as_slice.ensures)
    ∙ (c.envelopes_know_no_place.ensures.read c.args.routes.now c.as_slice.result.ref_ptr c.as_slice.result.now ∙ ap envelope_in (sym c.in-Ok.ensures.exact))))
    c.says.ensures

use Rattle.std.proofs.Common.{Some, ap, ◌∙◌}
use Rattle.bin_routes.specs.Table.{payer_under}
use Rattle.claim_model.specs.Bytes.{bytes_with}
use Rattle.claim_model.specs.Held.{decided_by}
use Rattle.vouched_runs.specs.Parties.{world_of}
use Rattle.days_audit.proofs.live.Live.decided_by.Goals as goal

pub returns-in_ok-rejection-in-None : goal.returns-in_ok-rejection-in-None
returns-in_ok-rejection-in-None c =
    ap Some (c.from_vec.ensures ∙ c.in_ok-rejection-in-None.ensures.text c.args.routes.now)
    ∙ ap (decided_by (bytes_with c.args.routes.now) (world_of c.args.self.now) c.args.id c.args.header.now)
    (c.in-None.ensures ∙ (λ i. payer_under c.args.routes.now (c.number.ensures.value i) (c.key_of.ensures i)))

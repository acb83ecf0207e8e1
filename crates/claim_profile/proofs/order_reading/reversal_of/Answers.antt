use Rattle.std.proofs.Common.{◌≡◌, None, ap, ◌∙◌}
use Rattle.claim_profile.specs.Order.{reversal_fields, or_rejected}
use Rattle.claim_profile.specs.OrderTally.{order_seen}
use Rattle.claim_profile.proofs.OrderLemmas.{reversal_fields_are, reversal_order_ok, reversal_order_rejected}
use Rattle.claim_profile.proofs.order_reading.reversal_of.Goals as goal

pub returns-in-Some : goal.returns-in-Some
returns-in-Some c = λ shared group seen.
    let f = c.of-fields.result in
    let e : f ≡ reversal_fields c.args.header.now group = reversal_fields_are c.args.header.now shared group (order_seen c.args.values.now) f c.of-fields.ensures seen in
    reversal_order_ok c.args.header.now group f c.in-Some.reversal e c.in-Some.ensures

pub returns-in-None : goal.returns-in-None
returns-in-None c = λ shared group seen.
    let f = c.of-fields.result in
    let e : f ≡ reversal_fields c.args.header.now group = reversal_fields_are c.args.header.now shared group (order_seen c.args.values.now) f c.of-fields.ensures seen in
    ap (or_rejected None) c.rejects.ensures ∙ reversal_order_rejected c.args.header.now group f e c.in-None.ensures

use Rattle.std.proofs.Common.{[], ap, sym, ◌∙◌}
use Rattle.std.specs.Prelude.{slice_index_or}
use Rattle.d0_segments.specs.Pieces.{groups_of}
use Rattle.claim_profile.specs.declared.order_values.Level.TheVariants.{Shared, Group}
use Rattle.claim_profile.specs.Order.{reversal_order}
use Rattle.claim_profile.specs.OrderTally.{nothing_seen, segments_counted}
use Rattle.claim_profile.proofs.OrderCounting.{segments_counted-none}
use Rattle.claim_profile.proofs.order_reading.reversal_at.Goals as goal

pub returns : goal.returns
returns c =
    let group = slice_index_or (groups_of c.args.framed.now.body.bytes.now) c.args.place [] in
    c.reversal_of.ensures [] group (c.in_reversal.ensures ∙ ap (λ t. segments_counted Group t group) (sym (segments_counted-none Shared nothing_seen))) ∙ ap (λ h. reversal_order h group) c.header.ensures

use Rattle.std.proofs.Common.{Some}
use Rattle.claim_model.specs.Bytes.{orders_in}
use Rattle.d0_segments.specs.FramedParts.{framed_parts}
use Rattle.payer_book.specs.Drafts.{pricing}
use Rattle.payer_book.proofs.Places.{SoFar}
use Rattle.payer_book.proofs.ruling.drafting.rule_all.Given as goal

abbrev pub invariant-loop-place : goal.invariant-loop-place
invariant-loop-place l = SoFar l.payments (pricing l.prices) (orders_in (Some (framed_parts l.framed))) l.place l.draft.rulings.items l.draft.changes.items l.draft.advised

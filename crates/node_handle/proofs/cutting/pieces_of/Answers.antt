use Rattle.std.proofs.Common.{ℕ, [], Vec, Global, ◌∙◌}
use Rattle.std.proofs.lemmas.List.{get_or_default}
use Rattle.node_handle.specs.Audits.{cut_at}
use Rattle.node_handle.proofs.Pieces.{cuts_on, cuts_end, cuts_all}
use Rattle.node_handle.proofs.cutting.pieces_of.Goals as goal

pub loop-size-preserved : goal.loop-size-preserved
loop-size-preserved c =
    cuts_on (λ (piece : Vec ℕ Global). piece.items) c.args.sizes.now c.loop-size.size-index _ c.loop-size.pieces.items c.push.new.self.items c.in_ok-from_slice.field-0 c.loop-size.rest.now c.in-Some.more.now _
    c.loop-size-test.true (get_or_default c.args.sizes.now c.loop-size.size-index 0 _ c.loop-size-test.true) c.in-Some.ensures.0 (c.in_ok-from_slice.ensures.items ∙ c.in-Some.ensures.1.0) c.in-Some.ensures.1.1 c.in_ok-push.ensures.items c.loop-size.invariant

pub returns : goal.returns
returns c =
    cuts_all (λ (piece : Vec ℕ Global). piece.items) (λ (pieces : Vec (Vec ℕ Global) Global). pieces.items) c.all_of.result c.loop-size.pieces (cut_at [] c.loop-size.rest.now) _
    (cuts_end (λ (piece : Vec ℕ Global). piece.items) c.args.sizes.now c.loop-size.size-index c.loop-size.pieces.items c.loop-size.rest.now _ c.loop-size-test.false c.loop-size.invariant) c.all_of.ensures

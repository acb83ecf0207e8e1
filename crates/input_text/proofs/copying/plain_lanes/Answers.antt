use Rattle.std.proofs.Common.{ℕ, ltb, cond, bit_or, refl, sym, ◌∙◌, arith}
use Rattle.std.proofs.lemmas.Simd.{zip2_splat, zip2_splat_left, zip2_of_maps}
use Rattle.input_text.specs.Printing.{stands_for_itself}
use Rattle.input_text.proofs.Lanes.{runs_through, stops_at}
use Rattle.input_text.proofs.copying.plain_lanes.Goals as goal

pub returns-then-mask-eq0 : goal.returns-then-mask-eq0
returns-then-mask-eq0 c =
    let v = c.args.lanes in
    let long = c.fits-lanes.0 in
    sym long ∙ runs_through stands_for_itself _ v _ (omega arith) c.fits-lanes.1
    (zip2_of_maps bit_or _ _ v (zip2_of_maps bit_or _ _ v (zip2_splat _ v 16 32 long) (zip2_splat _ v 16 92 long)) (zip2_splat_left {X = ℕ} (λ a b. cond (ltb a b) 255 0) 126 16 v long)) refl c.if-mask-eq0.true

pub returns-else-mask-eq0 : goal.returns-else-mask-eq0
returns-else-mask-eq0 c =
    let v = c.args.lanes in
    let long = c.fits-lanes.0 in
    stops_at stands_for_itself _ v _ (omega arith) c.fits-lanes.1
    (zip2_of_maps bit_or _ _ v (zip2_of_maps bit_or _ _ v (zip2_splat _ v 16 32 long) (zip2_splat _ v 16 92 long)) (zip2_splat_left {X = ℕ} (λ a b. cond (ltb a b) 255 0) 126 16 v long)) refl (omega (arith, c.if-mask-eq0.false))

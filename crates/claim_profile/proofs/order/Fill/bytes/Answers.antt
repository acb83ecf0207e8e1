use Rattle.std.proofs.Common.{◌≡◌, [], ◌∷◌, take, sym, ap, ◌∙◌, arith}
use Rattle.std.proofs.lemmas.List.{take_all}
use Rattle.claim_profile.specs.FillBytes.{joined, fill_bytes}
use Rattle.claim_profile.proofs.order.Fill.bytes.Goals as goal
use Rattle.d0_header.proofs.Cutting.{put_first, put_behind}

pub returns : goal.returns
unfolding fill_bytes
returns c =
    let f = c.args.self.now in
    let whole : take c.put-end.result c.put-end.new.bytes ≡ c.put-end.new.bytes = take_all c.put-end.result c.put-end.new.bytes (omega arith) in
    sym whole
    ∙ (put_behind _ _ _ _ _ _ c.put-end.ensures.end c.put-end.ensures.front
    (put_behind _ _ _ _ _ _ c.put-place-5.ensures.end c.put-place-5.ensures.front
    (put_behind _ _ _ _ _ _ c.put-place-4.ensures.end c.put-place-4.ensures.front
    (put_behind _ _ _ _ _ _ c.put-place-3.ensures.end c.put-place-3.ensures.front
    (put_behind _ _ _ _ _ _ c.put-place-2.ensures.end c.put-place-2.ensures.front
    (put_first _ _ _ c.put-place.ensures.end c.put-place.ensures.front)))))
    ∙ ap (joined f.pcn f.bin f.provider (f.fill ∷ []) f.qualifier) c.to_le_bytes.ensures)

use Rattle.std.proofs.Common.{◌≡◌, ℕ, List, [], ◌∷◌, take, refl, sym, ◌∙◌, arith, codes}
use Rattle.std.proofs.lemmas.List.{take_all}
use Rattle.std.specs.List.{concat}
use Rattle.d0_header.specs.Request.{request_text}
use Rattle.d0_header.proofs.Cutting.{put_first, put_behind, nine_joined}
use Rattle.message_making.specs.PlainFields.{header_said}
use Rattle.message_making.proofs.Built.{header_right}
use Rattle.message_making.proofs.header.header_bytes.Goals as goal

pub exact-bin-requires : goal.exact-bin-requires
exact-bin-requires c = (omega arith, rw c.text_in.ensures ((header_right c.args.fields.now c.requires.sound).bin.width))

pub padded-pcn-requires : goal.padded-pcn-requires
padded-pcn-requires c = (omega arith, rw c.text_in-2.ensures ((header_right c.args.fields.now c.requires.sound).pcn.0))

pub padded-qualifier-requires : goal.padded-qualifier-requires
padded-qualifier-requires c = (omega arith, rw c.text_in-3.ensures ((header_right c.args.fields.now c.requires.sound).qualifier.0))

pub padded-provider-requires : goal.padded-provider-requires
padded-provider-requires c = (omega arith, rw c.text_in-4.ensures ((header_right c.args.fields.now c.requires.sound).provider.0))

pub exact-date-requires : goal.exact-date-requires
exact-date-requires c = (omega arith, rw c.text_in-5.ensures ((header_right c.args.fields.now c.requires.sound).date.width))

pub padded-vendor-requires : goal.padded-vendor-requires
padded-vendor-requires c = (omega arith, rw c.text_in-6.ensures ((header_right c.args.fields.now c.requires.sound).vendor.0))

pub returns : goal.returns
unfolding request_text header_said
returns c =
    let whole : take c.put-end.result c.put-end.new.text ≡ c.put-end.new.text = take_all c.put-end.result c.put-end.new.text (omega arith) in
    let fields : List (List ℕ) = c.exact-bin.result ∷ codes "D0" ∷ c.args.code ∷ c.padded-pcn.result ∷ codes "1" ∷ c.padded-qualifier.result ∷ c.padded-provider.result ∷ c.exact-date.result ∷ c.padded-vendor.result ∷ [] in
    let said : concat fields ≡ request_text (header_said c.args.code c.args.fields.now) =
    rw (c.exact-bin.ensures, c.padded-pcn.ensures, c.padded-qualifier.ensures, c.padded-provider.ensures, c.exact-date.ensures, c.padded-vendor.ensures, c.text_in.ensures, c.text_in-2.ensures, c.text_in-3.ensures, c.text_in-4.ensures, c.text_in-5.ensures, c.text_in-6.ensures) refl in
    sym whole
    ∙ ((put_behind _ _ _ _ _ _ c.put-end.ensures.end c.put-end.ensures.front (put_behind _ _ _ _ _ _ c.put-place-8.ensures.end c.put-place-8.ensures.front (put_behind _ _ _ _ _ _ c.put-place-7.ensures.end c.put-place-7.ensures.front (put_behind _ _ _ _ _ _ c.put-place-6.ensures.end c.put-place-6.ensures.front (put_behind _ _ _ _ _ _ c.put-place-5.ensures.end c.put-place-5.ensures.front (put_behind _ _ _ _ _ _ c.put-place-4.ensures.end c.put-place-4.ensures.front (put_behind _ _ _ _ _ _ c.put-place-3.ensures.end c.put-place-3.ensures.front (put_behind _ _ _ _ _ _ c.put-place-2.ensures.end c.put-place-2.ensures.front (put_first _ _ _ c.put-place.ensures.end c.put-place.ensures.front)))))))))
    ∙ nine_joined c.exact-bin.result (codes "D0") c.args.code c.padded-pcn.result (codes "1") c.padded-qualifier.result c.padded-provider.result c.exact-date.result c.padded-vendor.result)
    ∙ said

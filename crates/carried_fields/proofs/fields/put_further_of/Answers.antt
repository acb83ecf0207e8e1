use Rattle.std.proofs.Common.{◌≡◌, true, false, [], ◌∷◌, ◌++◌, sym, ap, ◌∙◌}
use Rattle.std.specs.Str.{bytes_eq}
use Rattle.std.proofs.lemmas.List.{append-nil}
use Rattle.d0_segments.specs.Texts.{fields_text}
use Rattle.d0_segments.specs.Cursors.{segment_at}
use Rattle.d0_segments.specs.Inside.{fields_left}
use Rattle.claim_profile.proofs.Counting.{fields_of-here, fields_of-elsewhere}
use Rattle.claim_profile.proofs.AnswerTexts.{on_ok_also}
use Rattle.carried_fields.specs.Merging.{further_fields}
use Rattle.carried_fields.proofs.Appended.{further_in}
use Rattle.carried_fields.proofs.fields.put_further_of.Goals as goal

pub returns-then-is_same : goal.returns-then-is_same
returns-then-is_same c =
    let s = segment_at c.args.segment.now in
    let old = c.args.text.now.items in
    let here : bytes_eq s.id c.args.id ≡ true = ap (λ x. bytes_eq x c.args.id) (sym c.id.ensures) ∙ sym c.is_same.ensures ∙ c.if-is_same.true in
    on_ok_also c.put_further_from.result c.put_further_from.new.text.items (old ++ fields_text (further_fields c.args.id (fields_left c.fields.result.bytes.now))) (old ++ further_in c.args.id (s ∷ [])) c.put_further_from.ensures
    (ap (λ f. old ++ fields_text (further_fields c.args.id (fields_left f.bytes.now))) c.fields.ensures ∙ ap (λ fs. old ++ fields_text (further_fields c.args.id fs)) (sym (fields_of-here c.args.id s here)))

pub returns : goal.returns
returns c =
    let s = segment_at c.args.segment.now in
    let old = c.args.text.now.items in
    let elsewhere : bytes_eq s.id c.args.id ≡ false = ap (λ x. bytes_eq x c.args.id) (sym c.id.ensures) ∙ sym c.is_same.ensures ∙ c.if-is_same.false in
    sym (append-nil old) ∙ ap (λ fs. old ++ fields_text (further_fields c.args.id fs)) (sym (fields_of-elsewhere c.args.id s elsewhere))

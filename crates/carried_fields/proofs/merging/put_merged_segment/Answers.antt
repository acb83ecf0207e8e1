use Rattle.std.proofs.Common.{◌∷◌, ◌++◌, ap, ◌∙◌}
use Rattle.d0_segments.specs.Texts.{fields_text, segment_text}
use Rattle.d0_segments.specs.Cursors.{segment_at}
use Rattle.d0_segments.specs.Pieces.{shared_of}
use Rattle.d0_segments.specs.Inside.{fields_left}
use Rattle.claim_profile.specs.Fields.{fields_of}
use Rattle.claim_profile.proofs.AnswerTexts.{on_ok_also}
use Rattle.carried_fields.specs.Occurrences.{behind_codes_in, beside}
use Rattle.carried_fields.specs.Merging.{further_fields, merged_segment}
use Rattle.carried_fields.proofs.Appended.{segment_written}
use Rattle.carried_fields.proofs.merging.put_merged_segment.Goals as goal

pub returns : goal.returns
returns c =
    let s = segment_at c.args.segment.now in
    let said = shared_of c.args.said.bytes.now in
    let old = c.args.text.now.items in
    let own = beside (behind_codes_in s.id said) s.fields in
    let further = further_fields s.id (fields_of s.id said) in
    on_ok_also c.put_further_fields.result c.put_further_fields.new.text.items (c.put_own_fields.new.text.items ++ fields_text (further_fields c.id-3.result (fields_of c.id-3.result said))) (old ++ segment_text (merged_segment said s)) c.put_further_fields.ensures
    (ap (λ id. c.put_own_fields.new.text.items ++ fields_text (further_fields id (fields_of id said))) c.id-3.ensures
    ∙ ap (λ before. before ++ fields_text further) c.in_ok-put_own_fields.ensures
    ∙ (λ i. (c.put_name.new.text.items ++ fields_text (beside (behind_codes_in (c.id-2.ensures i) said) (fields_left (c.fields.ensures i).bytes.now))) ++ fields_text further)
    ∙ ap (λ before. (before ++ fields_text own) ++ fields_text further) c.in_ok-put_name.ensures
    ∙ ap (λ id. ((old ++ (30 ∷ 28 ∷ 65 ∷ 77 ∷ id)) ++ fields_text own) ++ fields_text further) c.id.ensures
    ∙ segment_written old s said)

use Rattle.std.proofs.Common.{◌++◌, ap, ◌∙◌}
use Rattle.d0_segments.specs.Texts.{segments_text}
use Rattle.d0_segments.specs.Pieces.{shared_of}
use Rattle.claim_profile.proofs.AnswerTexts.{on_ok_also}
use Rattle.carried_fields.specs.Merging.{further_segments, merged}
use Rattle.carried_fields.proofs.Appended.{merged_written}
use Rattle.carried_fields.proofs.merging.put_merged.Goals as goal

pub returns : goal.returns
returns c =
    let own = shared_of c.args.own.bytes.now in
    let said = shared_of c.args.said.bytes.now in
    let old = c.args.text.now.items in
    let begun = c.put_own_segments.new.text.items in
    on_ok_also c.put_further_segments.result c.put_further_segments.new.text.items (begun ++ segments_text (further_segments own said)) (old ++ segments_text (merged own said)) c.put_further_segments.ensures
    (ap (λ before. before ++ segments_text (further_segments own said)) c.in_ok-put_own_segments.ensures ∙ merged_written old own said)

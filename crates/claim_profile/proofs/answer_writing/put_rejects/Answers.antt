use Rattle.std.proofs.Common.{◌+◌, [], ◌∷◌, ◌++◌, length, map, take, get_or, ap, sym, ◌∙◌}
use Rattle.d0_segments.specs.Texts.{fields_text}
use Rattle.claim_profile.specs.declared.reject.Code.{Code}
use Rattle.claim_profile.specs.Reject.{code_text}
use Rattle.claim_profile.specs.Answer.{code_field}
use Rattle.claim_profile.proofs.Counting.{map-take_at}
use Rattle.claim_profile.proofs.AnswerTexts.{code_written}
use Rattle.claim_profile.proofs.answer_writing.put_rejects.Goals as goal

pub loop-code-preserved : goal.loop-code-preserved
loop-code-preserved c =
    let codes = c.as_slice-codes.result.now in
    let i = c.loop-code.code-index in
    let begun = (c.args.text.now.items ++ (29 ∷ 30 ∷ 28 ∷ 65 ∷ 77 ∷ 50 ∷ 49 ∷ 28 ∷ 65 ∷ 78 ∷ 82 ∷ 28 ∷ 70 ∷ 65 ∷ [])) ++ (48 + length codes) ∷ [] in
    rw (c.in_ok-extend_from_slice-3.ensures.items, c.in_ok-extend_from_slice-2.ensures.items, c.loop-code.invariant, c.text.ensures)
    (ap (λ (x : Code). ((begun ++ fields_text (map code_field (take i codes))) ++ (28 ∷ 70 ∷ 66 ∷ [])) ++ code_text x) c.code-item.is
    ∙ code_written begun (map code_field (take i codes)) (get_or codes i c.code-item.result)
    ∙ ap (λ fs. begun ++ fields_text fs) (sym (map-take_at code_field codes i c.code-item.result c.loop-code-test.true)))

use Rattle.std.proofs.Common.{◌≤◌, length, replicate, subst, sym, ap, ◌∙◌, refl}
use Rattle.claim_profile.specs.declared.ruling.HeaderStatus.TheVariants.{Rejected}
use Rattle.claim_profile.specs.Answer.{answer_text}
use Rattle.switch_node.proofs.Steps.{IfOk-map}
use Rattle.switch_node.proofs.Rejections.{rejected, length-rejection, four-rejected}
use Rattle.switch_node.proofs.packets.rejection.Goals as goal

pub returns-clause-text : goal.returns-clause-text
returns-clause-text c =
    let h = c.args.header.now in
    let are = four-rejected c.one.result c.count-count.result h.count c.one.ensures c.count-count.ensures.value c.count-count.ensures.valid.most in
    IfOk-map c.write_answer.result _ _ (λ answer is routes. is ∙ (ap (answer_text h Rejected) are ∙ sym (c.carrying_laws.ensures.plain h Rejected (replicate h.count rejected)))) c.write_answer.ensures.text

pub returns-clause-short : goal.returns-clause-short
returns-clause-short c =
    let h = c.args.header.now in
    let are = four-rejected c.one.result c.count-count.result h.count c.one.ensures c.count-count.ensures.value c.count-count.ensures.valid.most in
    let short = length-rejection h h.count (c.response_text_laws.ensures.width _ (c.response_text_laws.ensures.answers h 82 c.count-count.ensures.valid refl)) c.count-count.ensures.valid.most in
    IfOk-map c.write_answer.result _ _ (λ answer is. subst (λ n. n ≤ 32768) (sym (ap length (is ∙ ap (answer_text h Rejected) are))) short) c.write_answer.ensures.text

use Rattle.std.proofs.Common.{◌≡◌, Option, Some, List, length, sym, ap, ◌∙◌}
use Rattle.d0_header.specs.Response.{Response}
use Rattle.d0_segments.specs.Parts.{TransmissionParts}
use Rattle.d0_segments.specs.Framing.{response_kind, transmission_of}
use Rattle.d0_segments.specs.FramedParts.{framed_parts}
use Rattle.std.specs.Result.{result_ok}
use Rattle.claim_profile.specs.declared.ruling.Ruling.{Ruling}
use Rattle.claim_profile.specs.Ruling.{advice_of}
use Rattle.carried_fields.specs.Carrying.{carried_answer}
use Rattle.carried_fields.proofs.CarriedTexts.{nothing_carried}
use Rattle.carried_fields.proofs.Counted.{no_parts, advice_there, advice_counted, groups_of_rulings}
use Rattle.carried_fields.proofs.carrying.carried_answer.Goals as goal

pub returns-in-Err : goal.returns-in-Err
returns-in-Err c = record {
  text = sym (ap (λ (o : Option (TransmissionParts Response)). carried_answer c.args.rulings.now (transmission_of response_kind c.args.plain.now) o (advice_of c.args.said.now)) (no_parts c.args.said.now c.in-Err.field-0 c.in-Err.ensures.fault)
      ∙ nothing_carried c.args.rulings.now (transmission_of response_kind c.args.plain.now) (advice_of c.args.said.now));
}

pub returns-in-Err-check_response : goal.returns-in-Err-check_response
returns-in-Err-check_response c = record {
  text = sym (ap (λ (o : Option (TransmissionParts Response)). carried_answer c.args.rulings.now o (transmission_of response_kind c.args.said.now) (advice_of c.args.said.now))
      (no_parts c.args.plain.now c.in-Err-check_response.field-0 c.in-Err-check_response.ensures.fault));
}

pub carried_text-requires-clause-rulings : goal.carried_text-requires-clause-rulings
carried_text-requires-clause-rulings c =
    let own = framed_parts c.in-Ok-check_response.own in
    let said = framed_parts c.in-Ok.framed in
    let advice = c.in-Some.advice in
    let there : Some advice ≡ result_ok (advice_of c.args.said.now) = sym c.in-Some.is ∙ c.in_ok-advice.ensures in
    let count = advice_counted c.args.said.now said advice c.in-Ok.ensures.parts (advice_there (advice_of c.args.said.now) advice there) in
    let groups = groups_of_rulings c.args.rulings.now own said (sym c.have_groups.ensures ∙ c.if-have_groups.true) in
    ap (λ (rs : List Ruling). length rs) c.rulings.ensures ∙ count ∙ groups.1

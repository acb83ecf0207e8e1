use Rattle.std.proofs.Common.{◌++◌, sym, ap, ◌∙◌}
use Rattle.std.proofs.lemmas.List.{append-nil}
use Rattle.d0_segments.specs.Texts.{segments_text}
use Rattle.carried_fields.proofs.RepeatedPlaces.{nothing_shared}
use Rattle.carried_fields.proofs.repeating.put_shared_of.Goals as goal

pub returns-in-Err : goal.returns-in-Err
returns-in-Err c =
    sym (ap (λ ss. c.args.text.now.items ++ segments_text ss) (nothing_shared c.args.answer.now c.in-Err.field-0 c.in-Err.ensures.fault) ∙ append-nil c.args.text.now.items)

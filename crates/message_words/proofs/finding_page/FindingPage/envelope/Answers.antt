use Rattle.std.proofs.Common.{[], ◌∷◌, ap, sym, subst, ◌∙◌}
use Rattle.message_words.specs.FaultWords.{carries_said, envelope_said, opened_said}
use Rattle.message_words.specs.Sayings.{Finds, Said}
use Rattle.message_words.proofs.Envelopes.{anywhere}
use Rattle.message_words.proofs.finding_page.FindingPage.envelope.Goals as goal

pub returns-in-Ok : goal.returns-in-Ok
unfolding envelope_said
returns-in-Ok c =
    subst (λ (s : Said). Finds (s ∷ []) c.args.self.now c.opened.new.self)
    ((λ i. carries_said (c.kind.ensures i) (c.id.ensures i)) ∙ ap opened_said (sym c.in-Ok.is ∙ c.read.ensures.exact)
    ∙ anywhere c.args.bytes.ref_ptr (0, 0) c.args.bytes.now)
    c.opened.ensures

pub returns-in-Err : goal.returns-in-Err
unfolding envelope_said
returns-in-Err c =
    subst (λ (s : Said). Finds (s ∷ []) c.args.self.now c.envelope_fault.new.self)
    (ap opened_said (sym c.in-Err.is ∙ c.read.ensures.exact) ∙ anywhere c.args.bytes.ref_ptr (0, 0) c.args.bytes.now) c.envelope_fault.ensures

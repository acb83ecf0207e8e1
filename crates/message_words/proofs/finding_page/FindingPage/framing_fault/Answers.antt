use Rattle.std.proofs.Common.{[], ◌∷◌, sym, subst, ◌∙◌}
use Rattle.message_words.specs.declared.sentences.TheConstants.{NOT_FRAMED, NOT_FRAMED_AT}
use Rattle.message_words.specs.Facts.{of_row}
use Rattle.message_words.specs.FaultWords.{fault_said}
use Rattle.message_words.specs.Sayings.{Finds, Said}
use Rattle.message_words.proofs.Faults.{other_fault}
use Rattle.message_words.proofs.finding_page.FindingPage.framing_fault.Goals as goal

pub returns-in_default : goal.returns-in_default
returns-in_default c =
    subst (λ (s : Said). Finds (s ∷ []) c.args.self.now c.fault.new.self)
    ((λ i. fault_said (of_row NOT_FRAMED) (of_row NOT_FRAMED_AT) c.args.place c.args.bytes.now (c.framing_told.ensures i)) ∙ sym (other_fault c.args.place c.args.bytes.now c.args.fault c.in_default.not-CountMismatch))
    c.fault.ensures

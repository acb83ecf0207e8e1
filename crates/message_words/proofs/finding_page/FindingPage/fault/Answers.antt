use Rattle.std.proofs.Common.{ℕ, [], ◌∷◌, Option, sym, subst}
use Rattle.message_words.specs.Facts.{sentence_of}
use Rattle.message_words.specs.FaultWords.{fault_said_at, told_seen}
use Rattle.message_words.specs.Sayings.{Finds}
use Rattle.message_words.proofs.finding_page.FindingPage.fault.Goals as goal

pub returns-in-Some : goal.returns-in-Some
unfolding fault_said_at
returns-in-Some c =
    subst (λ (o : Option ℕ). Finds (fault_said_at (sentence_of c.args.anywhere.0.now c.args.anywhere.1.now c.args.anywhere.2.now) (sentence_of c.args.somewhere.0.now c.args.somewhere.1.now c.args.somewhere.2.now) c.args.place c.args.bytes.now (told_seen c.args.told) o ∷ []) c.args.self.now c.fault_at.new.self)
    (sym c.in-Some.is) c.fault_at.ensures

pub returns-in-None : goal.returns-in-None
unfolding fault_said_at
returns-in-None c =
    subst (λ (o : Option ℕ). Finds (fault_said_at (sentence_of c.args.anywhere.0.now c.args.anywhere.1.now c.args.anywhere.2.now) (sentence_of c.args.somewhere.0.now c.args.somewhere.1.now c.args.somewhere.2.now) c.args.place c.args.bytes.now (told_seen c.args.told) o ∷ []) c.args.self.now c.fault_anywhere.new.self)
    (sym c.in-None.is) c.fault_anywhere.ensures

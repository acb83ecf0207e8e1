use Rattle.std.proofs.Common.{◌≡◌, ℕ, Some, sym, ap, ◌∙◌}
use Rattle.std.specs.Prelude.{option_and_then}
use Rattle.std.proofs.lemmas.Result.{IfOk-weaker}
use Rattle.claim_model.specs.Numbered.{numbered}
use Rattle.claim_model.specs.Held.{journal_at}
use Rattle.world_core.specs.Parts.{context_of}
use Rattle.world_core.proofs.Holding.{other_holds, pharmacy_holds, no_pharmacy_holds}
use Rattle.world_core.proofs.world.World.held_by_pharmacy.Goals as goal

pub returns-then-number-pharmacy : goal.returns-then-number-pharmacy
returns-then-number-pharmacy c = sym (other_holds (context_of c.args.self.now) c.args.self.now.world c.args.number c.args.id (λ own. c.if-number-pharmacy.true (own ∙ sym c.pharmacy.ensures.value)))

pub returns-in-Some : goal.returns-in-Some
returns-in-Some c =
    let there : journal_at c.args.self.now.world c.args.number ≡ Some c.in-Some.journal = sym c.in_ok-journal.ensures ∙ c.in-Some.is in
    let at = ap (λ (n : ℕ). option_and_then (λ k. k.answer) (numbered c.in-Some.journal.entries n)) c.number.ensures.value in
    IfOk-weaker c.copied.result _ _ (λ found h. h ∙ (c.held.ensures ∙ (at ∙ sym (pharmacy_holds (context_of c.args.self.now) c.args.self.now.world c.args.number c.args.id c.in-Some.journal (c.if-number-pharmacy.false ∙ c.pharmacy.ensures.value) there)))) c.copied.ensures

pub returns-in-None : goal.returns-in-None
returns-in-None c =
    sym (no_pharmacy_holds (context_of c.args.self.now) c.args.self.now.world c.args.number c.args.id (c.if-number-pharmacy.false ∙ c.pharmacy.ensures.value) (sym c.in_ok-journal.ensures ∙ c.in-None.is))

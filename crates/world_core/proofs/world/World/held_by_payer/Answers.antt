use Rattle.std.proofs.Common.{◌≡◌, Some, sym, ap, ◌∙◌}
use Rattle.std.specs.Prelude.{option_and_then}
use Rattle.std.proofs.lemmas.Result.{IfOk-weaker}
use Rattle.claim_model.specs.Rows.{Book}
use Rattle.claim_model.specs.Book.{row_of}
use Rattle.claim_model.specs.Held.{book_at, row_answer}
use Rattle.world_core.specs.Parts.{context_of}
use Rattle.world_core.proofs.Holding.{payer_holds, no_payer_holds}
use Rattle.world_core.proofs.world.World.held_by_payer.Goals as goal

pub returns-in-Some : goal.returns-in-Some
returns-in-Some c =
    let there : book_at c.args.self.now.world c.args.number ≡ Some c.in-Some.reading = sym c.in_ok-reading.ensures ∙ c.in-Some.is in
    let lent = ap (λ (b : Book). option_and_then (row_answer (context_of c.args.self.now)) (row_of c.args.id b.rows)) c.book.ensures in
    IfOk-weaker c.copied.result _ _ (λ found h. h ∙ (c.held.ensures c.args.self.now.routes ∙ (lent ∙ sym (payer_holds (context_of c.args.self.now) c.args.self.now.world c.args.number c.args.id c.in-Some.reading there)))) c.copied.ensures

pub returns-in-None : goal.returns-in-None
returns-in-None c =
    sym (no_payer_holds (context_of c.args.self.now) c.args.self.now.world c.args.number c.args.id (sym c.in_ok-reading.ensures ∙ c.in-None.is))

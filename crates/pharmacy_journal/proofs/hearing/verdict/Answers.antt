use Rattle.std.proofs.Common.{◌≡◌, ℕ, List, Ok, sym, subst, ◌∙◌}
use Rattle.std.specs.Prelude.{OnOk, IfErr}
use Rattle.std.proofs.lemmas.Bool.{OnTrue_at}
use Rattle.claim_model.specs.Refusal.{refusal_of, IsRefused}
use Rattle.claim_model.specs.Journal.{Has}
use Rattle.pharmacy_journal.specs.Entries.{entry_of, kept_of}
use Rattle.pharmacy_journal.specs.Hearing.{state_by}
use Rattle.pharmacy_journal.proofs.Hearings.{state_after-answer, state_after-request}
use Rattle.pharmacy_journal.proofs.hearing.verdict.Goals as goal

pub known_verdict-requires : goal.known_verdict-requires
known_verdict-requires c = OnTrue_at c.if-known.true c.requires

pub returns-in-Request-clause-fault : goal.returns-in-Request-clause-fault
returns-in-Request-clause-fault c = λ phase. state_after-request _ _ c.args.envelope.now (sym c.kind.ensures ∙ c.in-Request.is)

pub returns-in-Answer-clause-ok : goal.returns-in-Answer-clause-ok
returns-in-Answer-clause-ok c = λ phase.
    let request = (kept_of c.args.slot.now).request in
    let state = (entry_of c.args.slot.now phase).state in
    rw (state_after-answer request state c.args.envelope.now (sym c.kind.ensures ∙ c.in-Answer.is))
    (subst (λ (a : List ℕ). OnOk c.verdict_on.result (state_by request state a ≡ Ok (Has a))) c.payload.ensures.value (c.verdict_on.ensures.ok phase))

pub returns-in-Answer-clause-fault : goal.returns-in-Answer-clause-fault
returns-in-Answer-clause-fault c = λ phase.
    let request = (kept_of c.args.slot.now).request in
    let state = (entry_of c.args.slot.now phase).state in
    rw (state_after-answer request state c.args.envelope.now (sym c.kind.ensures ∙ c.in-Answer.is))
    (subst (λ (a : List ℕ). IfErr c.verdict_on.result (λ e. IsRefused (refusal_of e) (state_by request state a))) c.payload.ensures.value (c.verdict_on.ensures.fault phase))

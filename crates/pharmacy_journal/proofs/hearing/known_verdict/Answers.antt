use Rattle.std.proofs.Common.{◌≡◌, ℕ, Bool, List, cond, Ok, Err, sym, subst}
use Rattle.std.specs.Prelude.{OnOk, IfErr}
use Rattle.claim_model.specs.Journal.{Has, settle_by}
use Rattle.claim_model.specs.declared.refusal.Refusal.TheVariants.{Unreadable}
use Rattle.claim_model.specs.Refusal.{refusal_of, IsRefused}
use Rattle.pharmacy_journal.specs.Entries.{entry_of}
use Rattle.pharmacy_journal.proofs.hearing.known_verdict.Goals as goal

pub returns-clause-ok : goal.returns-clause-ok
returns-clause-ok c = λ phase.
    let payload = c.args.envelope.now.payload in
    let state = (entry_of c.args.slot.now phase).state in
    subst (λ (b : Bool). OnOk c.beside.result (cond b (settle_by payload state) (Err Unreadable) ≡ Ok (Has payload))) (sym c.requires)
    (subst (λ (a : List ℕ). OnOk c.beside.result (settle_by a state ≡ Ok (Has a))) c.payload.ensures.value (c.beside.ensures.ok phase))

pub returns-clause-fault : goal.returns-clause-fault
returns-clause-fault c = λ phase.
    let payload = c.args.envelope.now.payload in
    let state = (entry_of c.args.slot.now phase).state in
    subst (λ (b : Bool). IfErr c.beside.result (λ e. IsRefused (refusal_of e) (cond b (settle_by payload state) (Err Unreadable)))) (sym c.requires)
    (subst (λ (a : List ℕ). IfErr c.beside.result (λ e. IsRefused (refusal_of e) (settle_by a state))) c.payload.ensures.value (c.beside.ensures.fault phase))

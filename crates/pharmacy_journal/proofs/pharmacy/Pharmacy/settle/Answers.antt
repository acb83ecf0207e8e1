use Rattle.std.proofs.Common.{◌≡◌, ℕ, ◌<◌, length, sym, ap, ◌∙◌, arith, refl, subst, List}
use Rattle.std.specs.Prelude.{◌≢◌, [], true, Err}
use Rattle.std.proofs.lemmas.Bool.{OnTrue_at, OnTrue_from}
use Rattle.std.proofs.lemmas.Option.{slice_get_read}
use Rattle.std.proofs.lemmas.Result.{err_from_is_err_and}
use Rattle.bin_routes.specs.Table.{routes_of}
use Rattle.claim_model.specs.Words.{TxnId}
use Rattle.claim_model.specs.Bytes.{bytes_with}
use Rattle.claim_model.specs.declared.refusal.Refusal.TheVariants.{Unreadable}
use Rattle.claim_model.specs.Journal.{Journal, heard}
use Rattle.pharmacy_journal.specs.Hearing.{envelope_seen, answers, IsAnsweredBy}
use Rattle.pharmacy_journal.proofs.Entering.{length-entries_of}
use Rattle.pharmacy_journal.proofs.Standing.{IsUp-settled}
use Rattle.pharmacy_journal.proofs.Hearings.{not_mine, no_such_number}
use Rattle.pharmacy_journal.proofs.Answering.{hear_refused, hear_known, hear_settles}
use Rattle.pharmacy_journal.proofs.pharmacy.Pharmacy.settle.Goals as goal

pub returns-then-pharmacy-self-clause-fault : goal.returns-then-pharmacy-self-clause-fault
returns-then-pharmacy-self-clause-fault c = λ routes.
    let number : c.self.inside.number ≡ c.args.self.now.number = ap (λ (j : Journal). j.number) c.self.view_is in
    let id : c.id-id.result.pharmacy ≡ c.args.envelope.now.id.pharmacy = ap (λ (i : TxnId). i.pharmacy) c.id-id.ensures in
    not_mine routes c.args.self.now (envelope_seen c.args.envelope.now) (λ e. omega (arith, e, number, id, c.pharmacy.ensures.value, c.if-pharmacy-self.true))

pub returns-in_default-clause-fault : goal.returns-in_default-clause-fault
returns-in_default-clause-fault c = λ routes.
    let number : c.self.inside.number ≡ c.args.self.now.number = ap (λ (j : Journal). j.number) c.self.view_is in
    let entries : length c.self.inside.slots.items ≡ length c.args.self.now.entries = sym (length-entries_of c.self.inside.slots.items c.self.inside.timetable.phases) ∙ ap (λ (j : Journal). length j.entries) c.self.view_is in
    let id : c.id-id.result.pharmacy ≡ c.args.envelope.now.id.pharmacy = ap (λ (i : TxnId). i.pharmacy) c.id-id.ensures in
    let own : c.id-id.result.number ≡ c.args.envelope.now.id.number = ap (λ (i : TxnId). i.number) c.id-id.ensures in
    no_such_number routes c.args.self.now (envelope_seen c.args.envelope.now) (omega (arith, number, id, c.pharmacy.ensures.value, c.if-pharmacy-self.false))
    (λ h. c.in_default.ensures (omega (arith, h.0, own, c.number.ensures.value), omega (arith, h.1, own, entries, c.number.ensures.value, c.len.ensures)))

pub returns-in_err-verdict-clause-fault : goal.returns-in_err-verdict-clause-fault
returns-in_err-verdict-clause-fault c = λ routes.
    let p = err_from_is_err_and c.from_residual.result c.from_residual.ensures.1 in
    let j = c.self.inside in
    let id : c.id-id.result.pharmacy ≡ c.args.envelope.now.id.pharmacy = ap (λ (i : TxnId). i.pharmacy) c.id-id.ensures in
    let own : c.id-id.result.number ≡ c.args.envelope.now.id.number = ap (λ (i : TxnId). i.number) c.id-id.ensures in
    let within : c.in-Some.place < length j.slots.items = omega (arith, c.in-Some.ensures.0.0, c.in-Some.ensures.0.1, c.in-Some.ensures.1, c.len.ensures) in
    let slot = slice_get_read j.slots.items _ c.in-Some.place c.index.result.now refl within c.index.ensures in
    rw (← c.self.view_is, p.1, p.2)
    (hear_refused routes j.number j.settings j.rule j.timetable j.slots.items (envelope_seen c.args.envelope.now) c.in-Some.place c.index.result.now _ c.self.invariant
    (omega (arith, id, c.pharmacy.ensures.value, c.if-pharmacy-self.false)) (omega (arith, own, c.number.ensures.value, c.in-Some.ensures.0.0)) (omega (arith, own, c.number.ensures.value, c.in-Some.ensures.1)) slot c.in_err-verdict.ensures.fault)

pub verdict-requires : goal.verdict-requires
verdict-requires c =
    let j = c.self.inside in
    let e = envelope_seen c.args.envelope.now in
    let routes = routes_of [] in
    let id : c.id-id.result.pharmacy ≡ c.args.envelope.now.id.pharmacy = ap (λ (i : TxnId). i.pharmacy) c.id-id.ensures in
    let own : c.id-id.result.number ≡ c.args.envelope.now.id.number = ap (λ (i : TxnId). i.number) c.id-id.ensures in
    let within : c.in-Some.place < length j.slots.items = omega (arith, c.in-Some.ensures.0.0, c.in-Some.ensures.0.1, c.in-Some.ensures.1, c.len.ensures) in
    let slot = slice_get_read j.slots.items _ c.in-Some.place c.index.result.now refl within c.index.ensures in
    OnTrue_from c.args.known (answers c.index.result.now c.args.envelope.now ≡ true)
    (λ known. hear_known routes j.number j.settings j.rule j.timetable j.slots.items e c.in-Some.place c.index.result.now c.self.invariant
    (omega (arith, id, c.pharmacy.ensures.value, c.if-pharmacy-self.false)) (omega (arith, own, c.number.ensures.value, c.in-Some.ensures.0.0)) (omega (arith, own, c.number.ensures.value, c.in-Some.ensures.1)) slot
    (subst (λ (w : Journal). heard (bytes_with routes) w e ≢ Err Unreadable) (sym c.self.view_is) (OnTrue_at known c.requires.readable routes)))

pub settle_at-requires-clause-fits : goal.settle_at-requires-clause-fits
settle_at-requires-clause-fits c =
    let j = c.self.inside in
    let within : c.in-Some.place < length j.slots.items = omega (arith, c.in-Some.ensures.0.0, c.in-Some.ensures.0.1, c.in-Some.ensures.1, c.len.ensures) in
    let slot = slice_get_read j.slots.items _ c.in-Some.place c.index.result.now refl within c.index.ensures in
    let same : c.in_ok-answer.answer ≡ c.args.envelope.now.payload = c.in_ok-answer.ensures.value in
    rw slot (subst (λ (a : List ℕ). IsAnsweredBy c.index.result.now a) (sym same) c.in_ok-verdict.ensures.open)

pub invariant_of-self : goal.invariant_of-self
invariant_of-self c =
    let j = c.self.inside in
    let within : c.in-Some.place < length j.slots.items = omega (arith, c.in-Some.ensures.0.0, c.in-Some.ensures.0.1, c.in-Some.ensures.1, c.len.ensures) in
    let slot = slice_get_read j.slots.items _ c.in-Some.place c.index.result.now refl within c.index.ensures in
    let same : c.in_ok-answer.answer ≡ c.args.envelope.now.payload = c.in_ok-answer.ensures.value in
    IsUp-settled j.number j.settings j.rule j.timetable c.settle.new.self j.slots.items c.settle_at.new.slots.items c.in-Some.place c.index.result.now c.in_ok-answer.answer c.self.invariant c.settle.ensures c.settle_at.ensures slot
    (subst (λ (a : List ℕ). IsAnsweredBy c.index.result.now a) (sym same) c.in_ok-verdict.ensures.open) c.in_ok-answer.ensures.short

pub returns-clause-ok : goal.returns-clause-ok
returns-clause-ok c = λ routes.
    let j = c.self.inside in
    let id : c.id-id.result.pharmacy ≡ c.args.envelope.now.id.pharmacy = ap (λ (i : TxnId). i.pharmacy) c.id-id.ensures in
    let own : c.id-id.result.number ≡ c.args.envelope.now.id.number = ap (λ (i : TxnId). i.number) c.id-id.ensures in
    let within : c.in-Some.place < length j.slots.items = omega (arith, c.in-Some.ensures.0.0, c.in-Some.ensures.0.1, c.in-Some.ensures.1, c.len.ensures) in
    let slot = slice_get_read j.slots.items _ c.in-Some.place c.index.result.now refl within c.index.ensures in
    let same : c.in_ok-answer.answer ≡ c.args.envelope.now.payload = c.in_ok-answer.ensures.value in
    rw (← c.self.view_is)
    (hear_settles routes j.number j.settings j.rule j.timetable c.settle.new.self j.slots.items c.settle_at.new.slots.items (envelope_seen c.args.envelope.now) c.in-Some.place c.index.result.now c.in_ok-answer.answer c.self.invariant
    (omega (arith, id, c.pharmacy.ensures.value, c.if-pharmacy-self.false)) (omega (arith, own, c.number.ensures.value, c.in-Some.ensures.0.0)) (omega (arith, own, c.number.ensures.value, c.in-Some.ensures.1)) slot
    c.settle.ensures c.settle_at.ensures (subst (λ (a : List ℕ). IsAnsweredBy c.index.result.now a) (sym same) c.in_ok-verdict.ensures.open) same c.in_ok-verdict.ensures.ok)

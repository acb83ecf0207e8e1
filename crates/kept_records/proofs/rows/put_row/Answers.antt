use Rattle.std.proofs.Common.{◌≡◌, ℕ, ◌<◌, ◌≤◌, ◌^◌, ◌∙◌, ap, sym, subst, length, List, arith}
use Rattle.std.proofs.lemmas.Result.{on_ok_weaker}
use Rattle.envelope.specs.Txn.{Txn, IsTxn}
use Rattle.kept_records.proofs.AddedEntries.{readable_short}
use Rattle.kept_records.proofs.rows.put_row.Goals as goal

pub put_text-requires : goal.put_text-requires
put_text-requires c =
    let is = c.answer-answer.ensures.kept in
    subst (λ (t : List ℕ). length t ≤ 32768) (sym c.request.ensures) (readable_short c.args.row.now.request is.header is.reads)

txn_from : (id : Txn) (p n : ℕ) → p ≡ id.pharmacy → n ≡ id.number → 0 < p → 0 < n → p < 2 ^ 16 → n < 2 ^ 64 → IsTxn id
txn_from id p n is is' some some' fits fits' = record { some_pharmacy = omega arith; some_number = omega arith; pharmacy_fits = omega arith; number_fits = omega arith }

pub returns-clause-kept : goal.returns-clause-kept
returns-clause-kept c =
    let row = c.args.row.now in
    let is = c.answer-answer.ensures.kept in
    let id : IsTxn row.id = txn_from row.id c.pharmacy.result c.number.result (c.pharmacy.ensures.value ∙ ap (λ (i : Txn). i.pharmacy) c.id-id.ensures) (c.number.ensures.value ∙ ap (λ (i : Txn). i.number) c.id-id.ensures)
    c.pharmacy.ensures.above_zero c.number.ensures.above_zero (omega (arith, c.pharmacy.type_inv)) (omega (arith, c.number.type_inv)) in
    on_ok_weaker c.put_text-2.result (λ e. record {
      id = id;
      request = readable_short row.request is.header is.reads;
      answer = subst (λ (t : List ℕ). length t ≤ 32768) c.answer-answer.ensures.text c.answer-answer.ensures.short;
    }) c.put_text-2.ensures

use Rattle.std.proofs.Common.{ℕ, ◌∙◌}
use Rattle.std.specs.Prelude.{codes}
use Rattle.std.specs.Global.{Vec}
use Rattle.table_text.specs.Members.{Text}
use Rattle.claim_reports.proofs.Dated.{summed_is, sums_are}
use Rattle.claim_reports.proofs.Telling.{refuses_same}
use Rattle.claim_reports.proofs.by_days.daily_sums.Goals as goal

pub returns-clause-made : goal.returns-clause-made
returns-clause-made c =
    let payers = c.as_slice-4.ensures.value ∙ c.in_ok-payers.ensures in
    summed_is (λ (text : Vec ℕ). text.items) c.sums_text.result c.args.rows.now c.args.asked.now c.in_ok-rulings.rulings.items c.in_ok-kept.kept.items c.in_ok-before.before.items c.in_ok-moves.moves.items _ c.in_ok-rulings.ensures.read
    (rw c.as_slice.ensures.value at c.in_ok-before.ensures) (rw c.as_slice-2.ensures.value at c.in_ok-kept.ensures) (rw c.as_slice-3.ensures.value at c.in_ok-moves.ensures)
    (λ i. record {
      whose = (c.text-2.ensures ∙ (λ j. record { name = codes "payers"; value = Text (payers j) })) i;
      pharmacy = c.args.asked.now.pharmacy;
      first = c.number_or_nothing.ensures i;
      last = c.number_or_nothing-2.ensures i;
    }) (rw (c.as_slice-5.ensures.value, c.as_slice-6.ensures.value) at c.sums_text.ensures.made)

pub returns-clause-refuses : goal.returns-clause-refuses
returns-clause-refuses c =
    refuses_same c.sums_text.result _ _
    (sums_are c.args.rows.now c.args.asked.now c.in_ok-rulings.rulings.items c.in_ok-kept.kept.items c.in_ok-before.before.items c.in_ok-moves.moves.items
    c.in_ok-rulings.ensures.all c.in_ok-rulings.ensures.refuses (rw c.as_slice.ensures.value at c.in_ok-before.ensures) (rw c.as_slice-2.ensures.value at c.in_ok-kept.ensures) (rw c.as_slice-3.ensures.value at c.in_ok-moves.ensures)) (rw (c.as_slice-5.ensures.value, c.as_slice-6.ensures.value) at c.sums_text.ensures.refuses)

use Rattle.std.proofs.Common.{◌≡◌, ◌≤◌, ◌-◌, None, length, sym, ◌∙◌, subst, arith}
use Rattle.std.proofs.lemmas.Option.{slice_get_past}
use Rattle.payer_book.specs.Ledger.{Ledger, payment_with}
use Rattle.payer_book.proofs.Numbering.{payment_at}
use Rattle.payer_book.proofs.book.payments.Payments.place_of.Goals as goal

pub returns-else-place-len : goal.returns-else-place-len
returns-else-place-len c =
    let ps = c.self.inside.list.items in
    let k = c.serial-serial.result - c.self.inside.first in
    let long : length ps ≤ k = omega (arith, c.len.ensures, c.self.inside.list.ok.0) in
    let at = payment_at c.self.inside.payer c.self.inside.first ps c.args.auth k c.self.invariant.numbered (sym c.payer.ensures.value ∙ c.if-payer-get.false ∙ c.get.ensures.value) (omega (arith, c.serial-serial.ensures.value)) in
    subst (λ (l : Ledger). payment_with c.args.auth l.payments ≡ None) c.self.view_is (sym at ∙ slice_get_past ps k long)

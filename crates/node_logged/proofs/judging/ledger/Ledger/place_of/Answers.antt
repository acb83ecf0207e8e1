use Rattle.std.proofs.Common.{sym, ◌∙◌, ap, nat_eq}
use Rattle.std.specs.Option.{option_copied}
use Rattle.std.specs.Cmp.Lexicographic.{pointwise}
use Rattle.node_logged.proofs.Ledgers.{entry_of}
use Rattle.node_logged.proofs.judging.ledger.Ledger.place_of.Goals as goal

pub returns-then-eq : goal.returns-then-eq
returns-then-eq c =
    entry_of c.args.self.now.entries c.args.receipt.now c.number-number.result (record { request = c.in_ok-entry.entry.request.now; answer = option_copied c.in_ok-entry.entry.answer })
    c.in_ok-entry.ensures c.number-number.ensures
    (ap (pointwise nat_eq c.in_ok-entry.entry.request.now) (sym c.request.ensures) ∙ (sym c.eq.ensures ∙ c.if-eq.true))

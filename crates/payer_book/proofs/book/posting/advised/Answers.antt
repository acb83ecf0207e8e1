use Rattle.std.proofs.Common.{[], sym, ap, subst}
use Rattle.bin_routes.specs.Table.{routes_of}
use Rattle.claim_model.specs.Laws.{AdvisesWell}
use Rattle.claim_model.specs.Bytes.{answer_in}
use Rattle.payer_book.proofs.book.posting.advised.Goals as goal

pub returns-in-Ok-clause-well : goal.returns-in-Ok-clause-well
returns-in-Ok-clause-well c =
    subst AdvisesWell (sym c.into_rulings.ensures)
    ((c.bytes_keep_laws.ensures (routes_of [])).advices c.args.advice.now (record { header = c.in-Ok.answer.header; rulings = c.in-Ok.answer.rulings }) (ap answer_in c.in-Ok.ensures.read))

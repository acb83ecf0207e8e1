use Rattle.std.proofs.Common.{Some, sym, ap, ◌∙◌}
use Rattle.std.proofs.lemmas.Bool.{ltb-true, and_parts}
use Rattle.claim_model.specs.Words.{TxnId}
use Rattle.claim_model.specs.Rows.{Book}
use Rattle.claim_model.specs.Book.{row_of}
use Rattle.payer_book.proofs.KeptRows.{nothing_there}
use Rattle.payer_book.proofs.book.Book.add_new.Goals as goal

pub enter-requires-clause-room : goal.enter-requires-clause-room
enter-requires-clause-room c = ltb-true _ _ (and_parts _ _ c.requires).0

pub enter-requires-clause-fresh : goal.enter-requires-clause-fresh
enter-requires-clause-fresh c = ap (λ (id : TxnId). row_of id c.args.self.now.rows) c.in_ok-row.ensures.id ∙ nothing_there _ (and_parts _ _ c.requires).1

pub returns-clause-ok : goal.returns-clause-ok
returns-clause-ok c = c.in_ok-row.ensures.row ∙ ap (λ (b : Book). Some b) (sym c.in_ok-enter.ensures.book)

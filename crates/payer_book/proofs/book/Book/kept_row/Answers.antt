use Rattle.payer_book.proofs.KeptRows.{unreadable_kept}
use Rattle.payer_book.proofs.book.Book.kept_row.Goals as goal

pub returns-in-None-clause-fault : goal.returns-in-None-clause-fault
returns-in-None-clause-fault c = λ _. unreadable_kept c.args.self.now c.args.id c.args.request.now c.args.answer.now c.in-None.ensures.readable

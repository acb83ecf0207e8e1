use Rattle.kept_records.proofs.BooksApart.{books_apart}
use Rattle.kept_records.proofs.book_laws.books_share_no_text.Goals as goal

pub returns : goal.returns
returns c = books_apart

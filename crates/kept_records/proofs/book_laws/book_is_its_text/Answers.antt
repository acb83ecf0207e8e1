use Rattle.kept_records.proofs.BookTexts.{is_text}
use Rattle.kept_records.proofs.book_laws.book_is_its_text.Goals as goal

pub returns : goal.returns
returns c = λ payer settings bytes b are read. is_text c.added_rows_are_kept.ensures.all payer settings bytes b (record { below = are }) read

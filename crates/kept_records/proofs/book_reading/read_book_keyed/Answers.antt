use Rattle.std.proofs.Common.{ℕ, ◌<◌, get_or, arith}
use Rattle.std.proofs.lemmas.Result.{IfOk-weaker}
use Rattle.kept_records.proofs.book_reading.read_book_keyed.Goals as goal

pub returns-clause-found : goal.returns-clause-found
returns-clause-found c =
    let are : (i : ℕ) → get_or c.args.bytes.now i 0 < 256 = λ i. omega (arith, c.type_inv.bytes i) in
    IfOk-weaker c.read_parts.result _ _ (λ b read. c.book_is_its_text.ensures c.args.payer c.args.settings c.args.bytes.now b are read) c.read_parts.ensures.ok

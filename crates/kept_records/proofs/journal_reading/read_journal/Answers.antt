use Rattle.std.proofs.Common.{ℕ, ◌<◌, slice_index, arith}
use Rattle.std.proofs.lemmas.Result.{IfOk-weaker}
use Rattle.kept_records.proofs.journal_reading.read_journal.Goals as goal

pub returns-clause-found : goal.returns-clause-found
returns-clause-found c =
    let are : (i : ℕ) → slice_index c.args.bytes.now i < 256 = λ i. omega (arith, c.type_inv.bytes i) in
    IfOk-weaker c.read_parts.result _ _ (λ j read. c.journal_is_its_text.ensures c.args.number c.args.settings c.args.bytes.now j are read) c.read_parts.ensures.ok

use Rattle.std.proofs.Common.{ap}
use Rattle.bin_routes.specs.Table.{routes_of}
use Rattle.std.specs.Prelude.{[]}
use Rattle.claim_model.specs.Bytes.{answer_in}
use Rattle.payer_book.proofs.book.adding.said.Goals as goal

pub returns-in-Ok-clause-says : goal.returns-in-Ok-clause-says
returns-in-Ok-clause-says c = (c.bytes_keep_laws.ensures (routes_of [])).sayings c.args.answer.now (record { header = c.in-Ok.answer.header; rulings = c.in-Ok.answer.rulings }) (ap answer_in c.in-Ok.ensures.read)

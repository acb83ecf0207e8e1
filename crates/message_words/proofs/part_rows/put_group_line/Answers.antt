use Rattle.std.proofs.Common.{[], codes}
use Rattle.std.specs.Fmt.{decimal}
use Rattle.message_words.specs.Rows.{columns_text}
use Rattle.message_words.proofs.Rows.{both_as}
use Rattle.message_words.proofs.part_rows.put_group_line.Goals as goal

pub returns : goal.returns
returns c =
    both_as (columns_text c.args.place [] (codes "transaction")) (decimal c.args.count) c.columns.result c.args.out.now c.bytes.new.self c.number.new.self
    c.columns.ensures c.bytes.ensures c.number.ensures

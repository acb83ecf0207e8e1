use Rattle.std.proofs.Common.{refl}
use Rattle.overpunch.specs.Number.{number_text}
use Rattle.message_words.proofs.Rows.{columns_are}
use Rattle.message_words.proofs.page.columns.Goals as goal

pub returns : goal.returns
returns c =
    columns_are (number_text c.args.place) c.args.number.now c.args.name.now _ c.put_place.new.line c.put_column.new.line c.put_column-2.new.line refl
    c.put_place.ensures c.put_column.ensures c.put_column-2.ensures

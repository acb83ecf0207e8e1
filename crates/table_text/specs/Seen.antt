-- Fields with their texts as lists of bytes.
use Rattle.table_text.specs.Members as seen
use Rattle.table_text.specs.declared.fields.Cell.{Cell}
use Rattle.table_text.specs.declared.fields.Cell.TheVariants.{Number, Text, Word, Named, Flag, Nothing}
use Rattle.table_text.specs.declared.fields.Field.{Field}

abbrev pub cell_seen : Cell → seen.Value
cell_seen (Number number) = seen.Number number
cell_seen (Text bytes) = seen.Text bytes.now
cell_seen (Word word) = seen.Text word.now
cell_seen (Named letters number) = seen.Named letters.now number
cell_seen (Flag holds) = seen.Flag holds
cell_seen Nothing = seen.Nothing

abbrev pub field_seen : Field → seen.Member
field_seen f = record { name = f.name.now; value = cell_seen f.cell }

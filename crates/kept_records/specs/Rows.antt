-- The rows of a book.
use Rattle.std.specs.Prelude.{ℕ, List}
use Rattle.std.specs.List.{flat_map}
use Rattle.payer_book.specs.Added.{KeptRow}
use Rattle.codec.specs.Codecs.{Codec, u16, u64, both, of_parts}
use Rattle.kept_records.specs.declared.rows.RowText.{RowText}
use Rattle.kept_records.specs.Fields.{text_codec}

-- a row: pharmacy, number, request and answer
unfoldable pub row_codec : Codec KeptRow
row_codec = of_parts (both (both u16 u64) (both text_codec text_codec))
    (λ p. record { id = record { pharmacy = p.0.0; number = p.0.1 }; request = p.1.0; answer = p.1.1 }) (λ k. ((k.id.pharmacy, k.id.number), (k.request, k.answer)))

-- rows, one after the other
abbrev pub rows_text : List KeptRow → List ℕ
rows_text rows = flat_map row_codec.text rows

-- a row that was taken
abbrev pub row_taken : RowText → KeptRow
row_taken row = record { id = record { pharmacy = row.pharmacy; number = row.number }; request = row.request.now; answer = row.answer.now }

-- The heads of records.
use Rattle.std.specs.Prelude.{ℕ}
use Rattle.codec.specs.Codecs.{Codec, u16, u32, u64, both, of_parts}
use Rattle.kept_records.specs.declared.book_head.BookHead.{BookHead}
use Rattle.kept_records.specs.declared.journal_parts.JournalHead.{JournalHead}
use Rattle.kept_records.specs.Versions.{version_codec}

-- the two bytes PJ that begin a journal, and PB that begin a book
abbrev pub journal_name : ℕ
journal_name = 0x504a

abbrev pub book_name : ℕ
book_name = 0x5042

-- the head of a journal, 9 bytes: its name, the version, the pharmacy, and how many entries there are
unfoldable pub journal_head_codec : Codec JournalHead
journal_head_codec = of_parts (both u16 (both version_codec (both u16 u32)))
    (λ p. record { mark = p.0; version = p.1.0; number = p.1.1.0; count = p.1.1.1 }) (λ h. (h.mark, (h.version, (h.number, h.count))))

-- what the head of a book begins with: its name, the version, the payer and the first serial
abbrev pub identity_codec : Codec (ℕ × (ℕ × (ℕ × ℕ)))
identity_codec = both u16 (both version_codec (both u16 u64))

-- what it ends with: the fee, the copay, how many products and how many rows there are
abbrev pub counts_codec : Codec (ℕ × (ℕ × (ℕ × ℕ)))
counts_codec = both u32 (both u32 (both u32 u32))

-- the head of a book, 29 bytes
unfoldable pub book_head_codec : Codec BookHead
book_head_codec = of_parts (both identity_codec counts_codec)
    (λ p. record { name = p.0.0; version = p.0.1.0; payer = p.0.1.1.0; serial = p.0.1.1.1; fee = p.1.0; copay = p.1.1.0; products = p.1.1.1.0; rows = p.1.1.1.1 })
    (λ h. ((h.name, (h.version, (h.payer, h.serial))), (h.fee, (h.copay, (h.products, h.rows)))))

-- The entries of a journal at rest.
use Rattle.std.specs.Prelude.{ℕ, zero, suc, ◌+◌, List, [], ◌∷◌, ◌++◌, Option, Some, None}
use Rattle.std.specs.Option.{option_copied}
use Rattle.claim_model.specs.Journal.{Kept}
use Rattle.codec.specs.Codecs.{Codec, u64, both, of_parts, empty, Spelled, spelled, made_at, tagged}
use Rattle.kept_records.specs.declared.journal_parts.JournalEntry.{JournalEntry}
use Rattle.kept_records.specs.Fields.{text_codec}

-- an answer after its flag: 0 where there is none, 1 and the answer where there is one
abbrev pub answer_spelled : Option (List ℕ) → Spelled
answer_spelled None = spelled 0 empty tt
answer_spelled (Some answer) = spelled 1 text_codec answer

abbrev pub answer_of : ℕ → List ℕ → Option (Option (List ℕ) × List ℕ)
answer_of zero = made_at empty (λ u. None)
answer_of (suc zero) = made_at text_codec Some
answer_of (suc (suc flag)) = λ bytes. None

unfoldable pub answer_codec : Codec (Option (List ℕ))
answer_codec = tagged answer_spelled answer_of

-- a request and its answer
abbrev pub kept_codec : Codec Kept
kept_codec = of_parts (both text_codec answer_codec) (λ p. record { request = p.0; answer = p.1 }) (λ kept. (kept.request, kept.answer))

-- an entry after its number
unfoldable pub entry_codec : Codec (ℕ × Kept)
entry_codec = both u64 kept_codec

-- entries, numbered from here on
unfoldable pub entries_text : ℕ → List Kept → List ℕ
entries_text number [] = []
entries_text number (kept ∷ entries) = entry_codec.text (number, kept) ++ entries_text (number + 1) entries

-- an entry that was taken
abbrev pub entry_taken : JournalEntry → ℕ × Kept
entry_taken e = (e.number, record { request = e.request.now; answer = option_copied e.answer })

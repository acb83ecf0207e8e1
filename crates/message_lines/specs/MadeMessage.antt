-- The message that a description tells.
use Rattle.std.specs.Prelude.{◌≡◌, ◌++◌, ◌∷◌, ℕ, Bool, false, List, [], codes, Some, is_some, if◌then◌else◌}
use Rattle.serde_json.specs.Data.{Data}
use Rattle.serde_json.specs.Read.{read}
use Rattle.message_encoding.specs.Parts.{DescribesAlike, message_of, parts_in, text_at}
use Rattle.message_words.specs.declared.page.Style.TheVariants.{Json}
use Rattle.message_words.specs.Described.{description}
use Rattle.message_lines.specs.declared.making.Made.{Made}
use Rattle.message_lines.specs.Lines.{kind_in, kind_worded}

-- these bytes, described anew in JSON, are told part for part as the description tells them
pub record ReadsBack (d : Data) (bytes : List ℕ) : Type 0 where
  pub again : Data
  pub read : read (description Json (false, false) 1 (kind_in (kind_worded (text_at (codes "kind") d)) bytes) bytes) ≡ Some again
  pub alike : DescribesAlike (parts_in d) (parts_in again)

-- whether the description says that bytes around its message were dropped: before it, and behind it
abbrev pub around_told : Data → Bool × Bool
around_told d = (is_some (text_at (codes "dropped_before") d), is_some (text_at (codes "dropped_behind") d))

-- it is the message of the description: the bytes of all its parts, which read back
pub record IsOf (d : Data) (made : Made) : Type 0 where
  pub bytes : message_of d ≡ Some made.bytes.items
  pub back : ReadsBack d made.bytes.items
  pub around : made.around ≡ around_told d

-- the text is JSON, and that is a description of the message
pub record IsMade (json : List ℕ) (made : Made) : Type 0 where
  pub described : Data
  pub read : read json ≡ Some described
  pub is : IsOf described made

-- its bytes, with 0x02 before them and 0x03 behind them where those stood there
abbrev pub whole : Made → List ℕ
whole made = (if made.around.0 then 2 ∷ [] else []) ++ made.bytes.items ++ (if made.around.1 then 3 ∷ [] else [])

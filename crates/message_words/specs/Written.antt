-- What is written on a page.
use Rattle.std.specs.Prelude.{◌≡◌, ℕ, false, List, ◌++◌, codes}
use Rattle.std.specs.Fmt.{decimal}
use Rattle.message_words.specs.declared.page.Style.{Style}
use Rattle.message_words.specs.declared.page.Style.TheVariants as style
use Rattle.message_words.specs.declared.text.Text.{Text}

-- these bytes are appended, unless memory was refused, now or before
abbrev pub Takes : List ℕ → (old new : Text) → Type 0
Takes words old new = new.refused ≡ false → (old.refused ≡ false) × (new.bytes.items ≡ old.bytes.items ++ words)

-- what is said of a line that spells no message: for people, and as an object of JSON
abbrev pub unspelled_line : (line place : ℕ) → List ℕ
unspelled_line line place = codes "line " ++ decimal line ++ codes ": no message: no byte is spelled at place " ++ decimal place ++ codes "\n\n"

abbrev pub unspelled_object : (line place : ℕ) → List ℕ
unspelled_object line place = codes "{\"line\":" ++ decimal line ++ codes ",\"kind\":\"none\",\"place\":" ++ decimal place ++ codes "}\n"

abbrev pub unspelled_words : Style → (line place : ℕ) → List ℕ
unspelled_words style.Lines line place = unspelled_line line place
unspelled_words style.Json line place = unspelled_object line place

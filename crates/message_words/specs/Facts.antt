-- Facts, and sentences that are filled with them.
use Rattle.std.specs.Prelude.{ℕ, pos, ◌-◌, Bool, true, false, ◌==◌, List, [], ◌∷◌, ◌++◌, codes, slice_get, Option, None, Some, if◌then◌else◌}
use Rattle.std.specs.Borrow.{Bor}
use Rattle.std.specs.Fmt.{decimal}
use Rattle.input_text.specs.Printing.{printed}
use Rattle.claim_profile.specs.declared.reject.Code.{Code}
use Rattle.claim_profile.specs.Reject.{code_text}
use Rattle.message_words.specs.declared.facts.Fact.{Fact as Given}
use Rattle.message_words.specs.declared.facts.Fact.TheVariants as given
use Rattle.message_words.specs.declared.page.Style.{Style}
use Rattle.message_words.specs.declared.page.Style.TheVariants.{Lines, Json}
use Rattle.claim_profile.specs.CodeNames.{code_name}
use Rattle.message_words.specs.Encoded.{json_string}
use Rattle.message_words.specs.Figures.{dollars, units}
use Rattle.message_words.specs.Sayings.{Said, says}

-- a fact
pub data Fact : Type 0 where
  Number : ℕ → Fact
  Dollars : ℕ → Fact
  Units : ℕ → Fact
  Words : List ℕ → Fact
  Printed : List ℕ → Fact
  Codes : List Code → Fact
  Either : (members words : List ℕ) → Fact

-- one of the code, without its place in memory
abbrev pub fact_seen : Given → Fact
fact_seen (given.Number number) = Number number
fact_seen (given.Dollars cents) = Dollars cents
fact_seen (given.Units thousandths) = Units thousandths
fact_seen (given.Words words) = Words words.now
fact_seen (given.Printed bytes) = Printed bytes.now
fact_seen (given.Codes rejects) = Codes rejects.now
fact_seen (given.Either members words) = Either members.now words.now

-- codes one after the other, each with its name after these words, and then after others
unfoldable pub named_code : (front : List ℕ) → Code → List ℕ
named_code front code = front ++ (code_text code ++ codes " " ++ code_name code)

abbrev pub named_codes : (front : List ℕ) → List Code → List ℕ
named_codes front [] = []
named_codes front (code ∷ more) = named_code front code ++ named_codes (codes "; ") more

-- the codes alone, between spaces
abbrev pub plain_codes : (front : List ℕ) → List Code → List ℕ
plain_codes front [] = []
plain_codes front (code ∷ more) = (front ++ code_text code) ++ plain_codes (codes " ") more

-- a fact for people, and as a value of JSON
abbrev pub in_words : Fact → List ℕ
in_words (Number number) = decimal number
in_words (Dollars cents) = dollars (pos cents)
in_words (Units thousandths) = units thousandths
in_words (Words words) = words
in_words (Printed bytes) = printed bytes
in_words (Codes rejects) = named_codes (codes ": ") rejects
in_words (Either members words) = words

abbrev pub in_json : Fact → List ℕ
in_json (Number number) = decimal number
in_json (Dollars cents) = decimal cents
in_json (Units thousandths) = decimal thousandths
in_json (Words words) = json_string words
in_json (Printed bytes) = json_string (printed bytes)
in_json (Codes rejects) = json_string (plain_codes [] rejects)
in_json (Either members words) = members

abbrev pub fact_in : Style → Fact → List ℕ
fact_in Lines fact = in_words fact
fact_in Json fact = in_json fact

abbrev pub fact_at : Style → Option Fact → List ℕ
fact_at style (Some fact) = fact_in style fact
fact_at style None = []

-- the fact whose number a text begins with
abbrev pub fact_of : Style → List Fact → List ℕ → List ℕ
fact_of style facts [] = []
fact_of style facts (byte ∷ more) = fact_at style (slice_get facts (byte - 48))

-- a byte of a text, or the fact whose number it is, where it stands after a mark
abbrev pub step : Style → List Fact → (marked : Bool) → ℕ → List ℕ
step style facts true byte = fact_at style (slice_get facts (byte - 48))
step style facts false byte = if byte == 36 then [] else byte ∷ []

abbrev pub is_mark : (marked : Bool) → ℕ → Bool
is_mark true byte = false
is_mark false byte = byte == 36

-- a text with facts in the places of their numbers
abbrev pub filled : Style → List Fact → (marked : Bool) → List ℕ → List ℕ
filled style facts marked [] = []
filled style facts marked (byte ∷ more) = step style facts marked byte ++ filled style facts (is_mark marked byte) more

-- a sentence: the name of its finding, its members and its words
pub record Sentence : Type 0 where
  pub name : List ℕ
  pub json : List ℕ
  pub words : List ℕ

abbrev pub sentence_of : (name json words : List ℕ) → Sentence
sentence_of name json words = record { name = name; json = json; words = words }

-- a line of the code's table
abbrev pub of_row : record { now : List ℕ } × record { now : List ℕ } × record { now : List ℕ } → Sentence
of_row row = sentence_of row.0.now row.1.now row.2.now

-- one that is handed on
abbrev pub given_row : Bor (List ℕ) × Bor (List ℕ) × Bor (List ℕ) → Sentence
given_row row = sentence_of row.0.now row.1.now row.2.now

-- a sentence with these facts
unfoldable pub says_of : Sentence → List Fact → Said
says_of s facts = says s.name (filled Json facts false s.json) (filled Lines facts false s.words)

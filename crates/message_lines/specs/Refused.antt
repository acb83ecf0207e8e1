-- Why a description gives no message, and the words for it.
use Rattle.std.specs.Prelude.{◌≡◌, ◌++◌, ◌∷◌, ℕ, List, [], codes, Option, None, Some, IsUtf8}
use Rattle.std.specs.Fmt.{decimal}
use Rattle.std.specs.Option.{option_map}
use Rattle.input_text.specs.Printing.{printed}
use Rattle.serde_json.specs.Data.{Data}
use Rattle.serde_json.specs.Read.{read}
use Rattle.message_encoding.specs.declared.described.Described.{Described}
use Rattle.message_encoding.specs.declared.fault.Misfit.{Misfit}
use Rattle.message_encoding.specs.declared.fault.Misfit.TheVariants as misfit
use Rattle.message_encoding.specs.declared.fault.PartFault.TheVariants as part
use Rattle.message_encoding.specs.Parts.{message_of, seen, text_in_part}
use Rattle.message_encoding.specs.Refused.{MisfitFor}
use Rattle.message_lines.specs.declared.fault.Fault.{Fault}
use Rattle.message_lines.specs.declared.fault.Fault.TheVariants as fault
use Rattle.message_lines.specs.declared.fault.Lack.{Lack}
use Rattle.message_lines.specs.declared.fault.Lack.TheVariants as lack
use Rattle.message_lines.specs.declared.fault.Misread.{Misread}
use Rattle.message_lines.specs.declared.fault.Misread.TheVariants as misread
use Rattle.message_lines.specs.declared.fault.Refusal.{Refusal}
use Rattle.message_lines.specs.declared.fault.Unmade.{Unmade}
use Rattle.message_lines.specs.declared.fault.Unmade.TheVariants as unmade

-- what lacks where a description fits no message
abbrev pub lack_of : Misfit → Lack
lack_of misfit.OutOfMemory = lack.OutOfMemory
lack_of misfit.NoParts = lack.Fault fault.NoParts
lack_of (misfit.Part place part.OutOfMemory) = lack.OutOfMemory
lack_of (misfit.Part place part.NoName) = lack.Fault (fault.Part place misread.NoName)
lack_of (misfit.Part place part.NotField) = lack.Fault (fault.Part place misread.NotField)
lack_of (misfit.Part place part.NotValue) = lack.Fault (fault.Part place misread.NotValue)

-- a description gives no message: it tells none, for this cause; or its bytes are described otherwise
abbrev pub IsWrong : Fault → Data → Type 0
IsWrong fault.NotJson d = ⊥
IsWrong fault.NoParts d = MisfitFor misfit.NoParts d
IsWrong (fault.Part place misread.NoName) d = MisfitFor (misfit.Part place part.NoName) d
IsWrong (fault.Part place misread.NotField) d = MisfitFor (misfit.Part place part.NotField) d
IsWrong (fault.Part place misread.NotValue) d = MisfitFor (misfit.Part place part.NotValue) d
IsWrong (fault.Part place misread.ReadsOtherwise) d = (bytes : List ℕ) × (message_of d ≡ Some bytes)
IsWrong fault.NoBytes d = ⊥

-- the same of one that was read; nothing is said where memory was refused
abbrev pub IsRefused : Lack → Data → Type 0
IsRefused lack.OutOfMemory d = Unit {0}
IsRefused (lack.Fault why) d = IsWrong why d

-- the text gives no message: it is no JSON, or a description that is wrong
abbrev pub IsRefusal : List ℕ → Fault → Option Described → Type 0
IsRefusal json why None = (why ≡ fault.NotJson) × (IsUtf8 json → read json ≡ None)
IsRefusal json why (Some described) = (read json ≡ Some (seen described)) × IsWrong why (seen described)

abbrev pub IsUnmade : List ℕ → Unmade → Type 0
IsUnmade json unmade.OutOfMemory = Unit {0}
IsUnmade json (unmade.Refused refusal) = IsRefusal json refusal.fault refusal.described

-- ---- in words

-- where in a part something is wrong, and what
abbrev pub member_of : Misread → List ℕ
member_of misread.NoName = codes "/name"
member_of misread.NotField = codes "/field"
member_of misread.NotValue = codes "/value"
member_of misread.ReadsOtherwise = []

abbrev pub misread_words : Misread → List ℕ
misread_words misread.NoName = codes "a text is wanted"
misread_words misread.NotField = codes "a field's number, as 302-C2, or its two letters are wanted"
misread_words misread.NotValue = codes "a text in printed bytes is wanted"
misread_words misread.ReadsOtherwise = codes "the message does not read back with this part"

-- a text after a space, where it is there
abbrev pub after_space : Option (List ℕ) → List ℕ
after_space None = []
after_space (Some text) = 32 ∷ printed text

-- the field and the name of the part at a place
abbrev pub part_names : ℕ → Option Data → List ℕ
part_names place None = []
part_names place (Some d) = after_space (text_in_part place (codes "field") d) ++ after_space (text_in_part place (codes "name") d)

abbrev pub part_words : ℕ → Misread → Option Data → List ℕ
part_words place why d = codes "/parts/" ++ decimal place ++ member_of why ++ part_names place d ++ codes ": " ++ misread_words why

abbrev pub fault_words : Fault → Option Data → List ℕ
fault_words fault.NotJson d = codes "it is no JSON"
fault_words fault.NoParts d = codes "/parts is no list"
fault_words (fault.Part place why) d = part_words place why d
fault_words fault.NoBytes d = codes "no line spells one without bytes"

abbrev pub refusal_words : Refusal → List ℕ
refusal_words refusal = codes "no message: " ++ fault_words refusal.fault (option_map seen refusal.described) ++ codes "\n"

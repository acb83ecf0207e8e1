-- The line that spells the message which a line describes.
use Rattle.std.specs.Prelude.{◌≡◌, ◌++◌, ◌∷◌, ◌/◌, ◌%◌, ◌==◌, ℕ, Bool, true, false, List, [], codes, if◌then◌else◌}
use Rattle.std.specs.Fmt.{decimal}
use Rattle.std.specs.List.{flat_map}
use Rattle.input_text.specs.Printing.{hex_digit, printed}
use Rattle.message_words.specs.declared.spelling.Spelling.{Spelling}
use Rattle.message_words.specs.declared.spelling.Spelling.TheVariants as spelling
use Rattle.message_lines.specs.declared.fault.Fault.TheVariants.{NoBytes}
use Rattle.message_lines.specs.declared.fault.Refusal.{Refusal}
use Rattle.message_lines.specs.declared.making.Made.{Made}
use Rattle.message_lines.specs.MadeMessage.{IsMade, whole}
use Rattle.message_lines.specs.Refused.{IsRefusal, refusal_words}

-- a byte as two hexadecimal digits
abbrev pub hex_text : List ℕ → List ℕ
hex_text bytes = flat_map (λ byte. hex_digit (byte / 16) ∷ hex_digit (byte % 16) ∷ []) bytes

-- bytes as they are printed; a first `#` is spelled, since a line that begins with one is skipped
abbrev pub printed_line : List ℕ → List ℕ
printed_line [] = []
printed_line (first ∷ rest) = if first == 35 then codes "\\x23" ++ printed rest else printed (first ∷ rest)

abbrev pub spelling_of : Spelling → List ℕ → List ℕ
spelling_of spelling.Hex bytes = hex_text bytes
spelling_of spelling.Printed bytes = printed_line bytes
spelling_of spelling.Raw bytes = printed_line bytes

-- the line describes a message that has bytes, and the line that spells them was appended
pub record IsSpelled (how : Spelling) (line before after : List ℕ) : Type 0 where
  pub made : Made
  pub is : IsMade line made
  pub some : made.bytes.items ≡ [] → ⊥
  pub text : after ≡ before ++ spelling_of how made.bytes.items ++ codes "\n"

-- the line gives no message for this cause: that of its description, or that no line spells a message without bytes
pub record IsOfNoBytes (line : List ℕ) : Type 0 where
  pub made : Made
  pub is : IsMade line made
  pub none : made.bytes.items ≡ []

abbrev pub Lacks : List ℕ → Refusal → Type 0
Lacks line refusal = (refusal.fault ≡ NoBytes → IsOfNoBytes line)
    × ((refusal.fault ≡ NoBytes → ⊥) → IsRefusal line refusal.fault refusal.described)

-- a line that is skipped was appended: the number of the line, and why it gives no message
pub record IsToldWhy (number : ℕ) (line before after : List ℕ) : Type 0 where
  pub refusal : Refusal
  pub why : Lacks line refusal
  pub text : after ≡ before ++ codes "# line " ++ decimal number ++ codes ": " ++ refusal_words refusal

-- what a line is answered with
abbrev pub IsAnswered : Spelling → (number : ℕ) → (line : List ℕ) → Bool → (before after : List ℕ) → Type 0
IsAnswered how number line true before after = IsSpelled how line before after
IsAnswered how number line false before after = IsToldWhy number line before after

-- ---- a whole input that describes a message

pub record IsWhole (input before after : List ℕ) : Type 0 where
  pub made : Made
  pub is : IsMade input made
  pub text : after ≡ before ++ whole made

pub record IsRefusedWhole (input before after : List ℕ) : Type 0 where
  pub refusal : Refusal
  pub why : IsRefusal input refusal.fault refusal.described
  pub text : after ≡ before ++ refusal_words refusal

-- its bytes were appended, or why it gives no message
abbrev pub IsInputAnswered : (input : List ℕ) → Bool → (before after : List ℕ) → Type 0
IsInputAnswered input true before after = IsWhole input before after
IsInputAnswered input false before after = IsRefusedWhole input before after

-- Messages that are made in a buffer of a caller, or told of there.
use Rattle.std.specs.Prelude.{◌≡◌, ◌⊎◌, ℕ, zero, suc, false, List, Ok, Err, Option, Some, None}
use Rattle.message_words.specs.Described.{description}
use Rattle.message_parts.specs.Naming.{kind_of}
use Rattle.message_words.specs.declared.page.Style.{Style}
use Rattle.message_words.specs.declared.page.Style.TheVariants.{Lines, Json}
use Rattle.message_making.specs.declared.judging.WrongField.{WrongField}
use Rattle.node_handle.specs.declared.refusal.Refusal.{Refusal}
use Rattle.node_handle.specs.declared.refusal.Refusal.TheVariants.{OutOfMemory, ShortBuffer}
use Rattle.node_handle.specs.Refusals.{refusal_of_field}
use Rattle.node_handle.specs.Saying.{Said}
use Rattle.node_handle.specs.Calls.{Stands, Lacks, Copies}

-- what is wrong with a field is told, and its number; where none is, that memory was refused
abbrev pub TellsWrong : Option WrongField → Refusal → ℕ → ℕ → Type 0
TellsWrong None why before number = (why ≡ OutOfMemory) × (number ≡ before)
TellsWrong (Some wrong) why before number = (why ≡ refusal_of_field wrong.why) × (number ≡ wrong.number)

-- a message is made of fields of which none is wrong: its text is copied into a buffer. Else the first wrong field is told
abbrev pub Makes : Option WrongField → List ℕ → Said → List ℕ → List ℕ → ℕ → ℕ → ℕ → ℕ → Type 0
Makes wrong text (Ok made) buffer after before size number told = (wrong ≡ None) × (Stands text buffer after size × (told ≡ number))
Makes wrong text (Err why) buffer after before size number told =
    ((why ≡ ShortBuffer) × ((wrong ≡ None) × (Lacks text buffer after size × (told ≡ number))))
    ⊎ (((after ≡ buffer) × (size ≡ before)) × TellsWrong wrong why number told)

-- the style that a number asks for
abbrev pub style_of : ℕ → Style
style_of zero = Lines
style_of (suc json) = Json

-- the description of a message is copied into a buffer, as it stands on the first line of an input and no byte around it was dropped
abbrev pub Describes : Style → List ℕ → Said → List ℕ → List ℕ → ℕ → ℕ → Type 0
Describes style message said buffer after before size =
    ((said ≡ Err OutOfMemory) × ((after ≡ buffer) × (size ≡ before)))
    ⊎ Copies (Some (description style (false, false) 1 (kind_of message) message)) said buffer after before size

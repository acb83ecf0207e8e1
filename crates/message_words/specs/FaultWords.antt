-- What is said of a transmission that is not framed, and of an envelope.
use Rattle.std.specs.Prelude.{ℕ, ◌+◌, ◌-◌, ◌^◌, min, false, List, [], ◌∷◌, ◌++◌, length, take, drop, codes, Option, None, Some, Result, Ok, Err}
use Rattle.input_text.specs.Printing.{printed}
use Rattle.d0_header.specs.declared.fault.HeaderFault.{HeaderFault}
use Rattle.d0_header.specs.declared.fault.HeaderFault.TheVariants as header
use Rattle.d0_segments.specs.declared.fault.FramingFault.{FramingFault}
use Rattle.d0_segments.specs.declared.fault.FramingFault.TheVariants as framing
use Rattle.envelope.specs.declared.opening.Kind.{Kind}
use Rattle.envelope.specs.declared.opening.Kind.TheVariants as carries
use Rattle.envelope.specs.declared.opening.EnvelopeFault.{EnvelopeFault}
use Rattle.envelope.specs.declared.opening.EnvelopeFault.TheVariants as envelope
use Rattle.envelope.specs.Envelope.{Opened}
use Rattle.envelope.specs.Opening.{envelope_of}
use Rattle.envelope.specs.Txn.{Txn}
use Rattle.message_words.specs.declared.fault_lines.Told.{Told}
use Rattle.message_words.specs.declared.page.Style.TheVariants.{Lines, Json}
use Rattle.message_words.specs.declared.sentences.TheConstants.{CARRIES_ANSWER, CARRIES_REQUEST, NOT_FRAMED, NOT_FRAMED_AT, NO_ENVELOPE, OTHER_COUNT, OTHER_LENGTH}
use Rattle.message_words.specs.Encoded.{spaces}
use Rattle.message_words.specs.Facts.{Fact, Number, Words, filled, of_row, says_of, Sentence}
use Rattle.message_words.specs.Sayings.{Said}

-- ---- the bytes around a place

-- as many of them as are shown on each side, as they are printed
abbrev pub shown_before : ℕ → List ℕ → List ℕ
shown_before at bytes = printed (drop (length (take at bytes) - 24) (take at bytes))

abbrev pub shown_behind : ℕ → List ℕ → List ℕ
shown_behind at bytes = printed (take 24 (drop at bytes))

abbrev pub shown_around : ℕ → List ℕ → List ℕ
shown_around at bytes = shown_before at bytes ++ shown_behind at bytes

-- the same in a line, and below it a caret in front of which this many letters stand
abbrev pub caret_below : (around : List ℕ) → ℕ → List ℕ
caret_below around caret = codes "\n    " ++ around ++ (codes "\n    " ++ spaces (min caret 128) ++ codes "^")

-- a place of a transmission, which itself stands at a place, as far as 64 bits reach
abbrev pub place_in : (at place : ℕ) → ℕ
place_in at place = min (at + place) (2 ^ 64 - 1)

-- ---- faults by their name and in words

-- a fault: how it is called, what is wrong, and at which place of a transmission, where it has one
pub record FaultTold : Type 0 where
  pub name : List ℕ
  pub words : List ℕ
  pub at : Option ℕ

abbrev pub told_at : (name words : List ℕ) → ℕ → FaultTold
told_at name words at = record { name = name; words = words; at = Some at }

abbrev pub told_of : (name words : List ℕ) → FaultTold
told_of name words = record { name = name; words = words; at = None }

-- one of the code, without the places of its words in memory
abbrev pub told_seen : Told → FaultTold
told_seen t = record { name = t.name.now; words = t.words.now; at = t.at }

abbrev pub header_told : HeaderFault → FaultTold
header_told header.Short = told_of (codes "Short") (codes "the header is cut off")
header_told header.BadBin = told_of (codes "BadBin") (codes "the BIN number (101-A1) is not six digits")
header_told header.BadCount = told_of (codes "BadCount") (codes "the transaction count (109-A9) is not 1 to 4")
header_told header.DateNotDigits = told_of (codes "DateNotDigits") (codes "the date of service (401-D1) is not eight digits")
header_told (header.Separator at) = told_at (codes "Separator") (codes "a separator stands in the header") at

-- but for that of the count, which has words of its own; no transmission has the last one
abbrev pub framing_told : FramingFault → FaultTold
framing_told (framing.Header fault) = header_told fault
framing_told (framing.NoSegmentStart at) = told_at (codes "NoSegmentStart") (codes "no segment starts") at
framing_told (framing.NoSegmentId at) =
    told_at (codes "NoSegmentId") (codes "a segment has no identification (111-AM) of two bytes") at
framing_told (framing.BadFieldId at) = told_at (codes "BadFieldId") (codes "a field has no identifier of two bytes") at
framing_told (framing.EmptyGroup at) = told_at (codes "EmptyGroup") (codes "a transaction has no segment") at
framing_told _ = told_of (codes "OutOfMemory") (codes "out of memory")

-- what is known of a fault at a place
abbrev pub fault_facts : FaultTold → ℕ → (around : List ℕ) → (caret : ℕ) → List Fact
fault_facts f here around caret = Words f.name ∷ Words f.words ∷ Number here ∷ Words around ∷ Number caret ∷ []

abbrev pub fault_at_said : Sentence → ℕ → List ℕ → FaultTold → ℕ → Said
fault_at_said s place bytes f at =
    let facts = fault_facts f (place_in at place) (shown_around at bytes) (length (shown_before at bytes)) in record {
      name = s.name;
      members = filled Json facts false s.json;
      words = filled Lines facts false s.words;
      below = caret_below (shown_around at bytes) (length (shown_before at bytes));
    }

-- a fault in bytes that stand at a place: in one sentence where it has no place, else in the other
unfoldable pub fault_said_at : (anywhere somewhere : Sentence) → ℕ → List ℕ → FaultTold → Option ℕ → Said
fault_said_at anywhere somewhere place bytes f None = says_of anywhere (Words f.name ∷ Words f.words ∷ [])
fault_said_at anywhere somewhere place bytes f (Some at) = fault_at_said somewhere place bytes f at

abbrev pub fault_said : (anywhere somewhere : Sentence) → ℕ → List ℕ → FaultTold → Said
fault_said anywhere somewhere place bytes f = fault_said_at anywhere somewhere place bytes f f.at

-- a fault of framing in bytes that stand at a place
abbrev pub framing_said : ℕ → List ℕ → FramingFault → Said
framing_said place bytes (framing.CountMismatch said found) = says_of (of_row OTHER_COUNT) (Number said ∷ Number found ∷ [])
framing_said place bytes fault = fault_said (of_row NOT_FRAMED) (of_row NOT_FRAMED_AT) place bytes (framing_told fault)

-- ---- envelopes

abbrev pub envelope_told : EnvelopeFault → FaultTold
envelope_told envelope.Short = told_of (codes "Short") (codes "it is shorter than the 18 bytes of a head")
envelope_told envelope.NotEnvelope = told_of (codes "NotEnvelope") (codes "it does not begin with PS")
envelope_told envelope.Version = told_of (codes "Version") (codes "its version is not 1")
envelope_told envelope.Kind = told_of (codes "Kind") (codes "its kind is neither 1 nor 2")
envelope_told envelope.ZeroNumber = told_of (codes "ZeroNumber") (codes "its pharmacy or its number is zero")
envelope_told _ = told_of (codes "TooLong") (codes "it carries more than 32,768 bytes")

abbrev pub no_envelope : FaultTold → Said
no_envelope f = says_of (of_row NO_ENVELOPE) (Words f.name ∷ Words f.words ∷ [])

-- of another length than is said: both
abbrev pub no_envelope_said : EnvelopeFault → Said
no_envelope_said (envelope.Length said found) = says_of (of_row OTHER_LENGTH) (Number said ∷ Number found ∷ [])
no_envelope_said fault = no_envelope (envelope_told fault)

abbrev pub carries_said : Kind → Txn → Said
carries_said carries.Request id = says_of (of_row CARRIES_REQUEST) (Number id.number ∷ Number id.pharmacy ∷ [])
carries_said carries.Answer id = says_of (of_row CARRIES_ANSWER) (Number id.number ∷ Number id.pharmacy ∷ [])

-- what a message is as an envelope, or why it is none
abbrev pub opened_said : Result Opened EnvelopeFault → Said
opened_said (Ok e) = carries_said e.kind e.id
opened_said (Err fault) = no_envelope_said fault

unfoldable pub envelope_said : List ℕ → Said
envelope_said bytes = opened_said (envelope_of (0, 0) bytes)

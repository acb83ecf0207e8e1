-- Faults of framing, but for that of the count.
use Rattle.std.proofs.Common.{◌≡◌, ℕ, List, refl}
use Rattle.d0_segments.specs.declared.fault.FramingFault.{FramingFault}
use Rattle.d0_segments.specs.declared.fault.FramingFault.TheVariants as framing
use Rattle.message_words.specs.declared.sentences.TheConstants.{NOT_FRAMED, NOT_FRAMED_AT}
use Rattle.message_words.specs.Facts.{of_row}
use Rattle.message_words.specs.FaultWords.{fault_said, framing_said, framing_told}

pub other_fault : (place : ℕ) (bytes : List ℕ) (fault : FramingFault) → ((said found : ℕ) → fault ≡ framing.CountMismatch said found → ⊥)
    → framing_said place bytes fault ≡ fault_said (of_row NOT_FRAMED) (of_row NOT_FRAMED_AT) place bytes (framing_told fault)
other_fault place bytes framing.OutOfMemory other = refl
other_fault place bytes (framing.Header fault) other = refl
other_fault place bytes (framing.NoSegmentStart at) other = refl
other_fault place bytes (framing.NoSegmentId at) other = refl
other_fault place bytes (framing.BadFieldId at) other = refl
other_fault place bytes (framing.EmptyGroup at) other = refl
other_fault place bytes (framing.CountMismatch said found) other = absurd (other said found refl)

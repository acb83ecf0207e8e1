-- Which texts are readable.
use Rattle.std.proofs.Common.{◌≡◌, ℕ, ◌<◌, ◌≤◌, Bool, true, false, List, length, Some, None, refl, cond}
use Rattle.std.specs.Prelude.{nat_le}
use Rattle.std.proofs.lemmas.Bool.{le-leb, lt-leb}
use Rattle.d0_header.specs.Request.{Request}
use Rattle.d0_segments.specs.Parts.{TransmissionParts}
use Rattle.d0_segments.specs.Faults.{Fails}
use Rattle.d0_segments.specs.declared.fault.FramingFault.{FramingFault}
use Rattle.d0_segments.specs.declared.fault.FramingFault.TheVariants as framing
use Rattle.d0_segments.specs.Framing.{request_kind, framing_fault, transmission_of}
use Rattle.claim_profile.specs.Readable.{if_carried, is_carried, framed_header, longest_request, readable_header, RefusesFor, fault_of_framing}

-- a text that is too long
pub long_text : (text : List ℕ) → longest_request < length text → readable_header text ≡ None
unfolding readable_header
long_text text long = rw (lt-leb (length text) longest_request long) refl

-- a text without a transmission
no_transmission : (text : List ℕ) → transmission_of request_kind text ≡ None → readable_header text ≡ None
unfolding readable_header
no_transmission text none = by_test (nat_le (length text) longest_request)
  where
    by_test : (b : Bool) → cond b (Rattle.std.specs.Prelude.option_and_then if_carried (framed_header (transmission_of request_kind text))) None ≡ None
    by_test true = rw none refl
    by_test false = refl

found_none : (text : List ℕ) (fault : FramingFault) → framing_fault request_kind text ≡ Some fault → transmission_of request_kind text ≡ None
unfolding transmission_of
found_none text fault e = rw e refl

pub fault_refuses : (text : List ℕ) (fault : FramingFault) → framing_fault request_kind text ≡ Some fault → readable_header text ≡ None
fault_refuses text fault e = no_transmission text (found_none text fault e)

-- a text whose framing has a fault
pub framing_refuses : (text : List ℕ) (fault : FramingFault) → Fails fault (framing_fault request_kind text) → RefusesFor (fault_of_framing fault) (readable_header text)
framing_refuses text framing.OutOfMemory h = tt
framing_refuses text (framing.Header f) h = no_transmission text (found_none text _ h)
framing_refuses text (framing.NoSegmentStart p) h = no_transmission text (found_none text _ h)
framing_refuses text (framing.NoSegmentId p) h = no_transmission text (found_none text _ h)
framing_refuses text (framing.BadFieldId p) h = no_transmission text (found_none text _ h)
framing_refuses text (framing.EmptyGroup p) h = no_transmission text (found_none text _ h)
framing_refuses text (framing.CountMismatch s f) h = no_transmission text (found_none text _ h)

-- a framed text that is short enough
pub framed_text : (text : List ℕ) (t : TransmissionParts Request) (b : Bool) → length text ≤ longest_request → transmission_of request_kind text ≡ Some t → is_carried t.header ≡ b
    → readable_header text ≡ cond b (Some t.header) None
unfolding readable_header
framed_text text t b short parts is = rw (le-leb (length text) longest_request short) (rw parts (rw is refl))

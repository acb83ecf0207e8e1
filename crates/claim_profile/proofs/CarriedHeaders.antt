-- The headers of readable requests, and what is answered where they are routed nowhere.
use Rattle.std.proofs.Common.{◌≡◌, ℕ, zero, suc, Bool, true, false, cond, List, [], ◌∷◌, ◌++◌, length, drop, replicate, nat_le, Option, Some, None, codes, refl, ap, subst, arith}
use Rattle.std.specs.Prelude.{option_and_then, is_some}
use Rattle.std.specs.List.{AllByRecursion}
use Rattle.std.specs.Str.{bytes_eq}
use Rattle.std.proofs.lemmas.Bool.{and_parts}
use Rattle.std.proofs.lemmas.Slice.Eq.{bytes_eq-Decides}
use Rattle.d0_header.specs.Request.{Request, IsRequest, request_text, request_of, request_fault}
use Rattle.d0_segments.specs.declared.fault.FramingFault.{FramingFault}
use Rattle.d0_segments.specs.Parts.{TransmissionParts}
use Rattle.d0_segments.specs.Framing.{request_kind, framing_fault, unless, transmission_of}
use Rattle.claim_profile.specs.declared.reject.Code.TheVariants.{Bin}
use Rattle.claim_profile.specs.declared.ruling.Ruling.{Ruling}
use Rattle.claim_profile.specs.declared.ruling.Ruling.TheVariants.{Rejected}
use Rattle.claim_profile.specs.declared.ruling.HeaderStatus.TheVariants as header
use Rattle.claim_profile.specs.Answer.{StandsBeside}
use Rattle.claim_profile.specs.Transaction.{transaction_code}
use Rattle.claim_profile.proofs.TransactionLemmas.{only, some_code}
use Rattle.claim_profile.specs.Readable.{is_carried, if_carried, framed_header, longest_request, readable_header}
use Rattle.claim_profile.specs.Answering.{IsConstructible, Answers, unrouted, IsCarried}
use Rattle.claim_profile.proofs.Headers.{no_header_fault}

pub unless_none : {A : Type 0} (o : Option FramingFault) (x t : A) → unless o x ≡ Some t → (o ≡ None) × (x ≡ t)
unless_none (Some f) x t e = absurd cc
unless_none None x t e = (refl, cc)

abbrev pub SoundWhereFaultless : Type 0
SoundWhereFaultless = (bytes : List ℕ) → request_fault bytes ≡ None → IsRequest (request_of bytes) × (bytes ≡ request_text (request_of bytes) ++ drop 56 bytes)

-- the header of a framed request is sound
framed_sound : SoundWhereFaultless → (text : List ℕ) (t : TransmissionParts Request) → transmission_of request_kind text ≡ Some t → IsRequest t.header
unfolding transmission_of framing_fault
framed_sound found text t e =
    let u = unless_none _ _ t e in
    subst (λ (x : TransmissionParts Request). IsRequest x.header) u.1 (found text (no_header_fault _ _ u.0)).0

carried_from : (h : Request) → IsRequest h → is_carried h ≡ true → IsCarried h
carried_from h sound e =
    let p = and_parts (bytes_eq h.version (codes "D0")) (is_some (transaction_code h.code)) e in
    let kind = some_code (transaction_code h.code) p.1 in
    record {
      sound = sound;
      version = (bytes_eq-Decides h.version (codes "D0")).0 p.0;
      code = (kind.0, only h.code kind.0 kind.1);
    }

if_carried_some : (g h : Request) (b : Bool) → cond b (Some g) None ≡ Some h → (b ≡ true) × (g ≡ h)
if_carried_some g h true e = (refl, cc)
if_carried_some g h false e = absurd cc

carried_in : (framed : Option (TransmissionParts Request)) (h : Request) → ((t : TransmissionParts Request) → framed ≡ Some t → IsRequest t.header) → option_and_then if_carried (framed_header framed) ≡ Some h → IsCarried h
carried_in None h sound e = absurd cc
carried_in (Some t) h sound e =
    let p = if_carried_some t.header h (is_carried t.header) e in
    subst IsCarried p.1 (carried_from t.header (sound t refl) p.0)

if_short : {A : Type 0} (b : Bool) (o : Option A) (a : A) → cond b o None ≡ Some a → o ≡ Some a
if_short true o a e = e
if_short false o a e = absurd cc

pub readable_carried : SoundWhereFaultless → (text : List ℕ) (h : Request) → readable_header text ≡ Some h → IsCarried h
unfolding readable_header
readable_carried found text h e =
    carried_in (transmission_of request_kind text) h (framed_sound found text) (if_short (nat_le (length text) longest_request) (option_and_then if_carried (framed_header (transmission_of request_kind text))) h e)

-- code 01 for each transaction can be answered
length-unrouted : (n : ℕ) (r : Ruling) → length (replicate n r) ≡ n
length-unrouted zero r = refl
length-unrouted (suc n) r = ap suc (length-unrouted n r)

unrouted_made : (n : ℕ) → AllByRecursion IsConstructible (replicate n (Rejected (Bin ∷ [])))
unrouted_made zero = tt
unrouted_made (suc n) = ((omega arith, omega arith, (refl, tt)), unrouted_made n)

unrouted_beside : (n : ℕ) → AllByRecursion (StandsBeside header.Rejected) (replicate n (Rejected (Bin ∷ [])))
unrouted_beside zero = tt
unrouted_beside (suc n) = (tt, unrouted_beside n)

pub unrouted_answers : (h : Request) → IsRequest h → Answers h header.Rejected (unrouted h)
unrouted_answers h sound = record { header = sound; count = length-unrouted h.count (Rejected (Bin ∷ [])); made = unrouted_made h.count; beside = unrouted_beside h.count }

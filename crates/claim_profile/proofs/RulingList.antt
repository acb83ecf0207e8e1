-- Reading rulings one after the other, as a loop does.
use Rattle.std.proofs.Common.{◌≡◌, ℕ, List, [], ◌∷◌, ◌++◌, drop, Some, Result, Ok, Err, refl, sym, ap, ◌∙◌, append_assoc}
use Rattle.std.proofs.lemmas.List.{append-nil}
use Rattle.d0_header.specs.Response.{Response}
use Rattle.d0_segments.specs.declared.fault.FramingFault.{FramingFault}
use Rattle.d0_segments.specs.Parts.{SegmentParts, TransmissionParts}
use Rattle.d0_segments.specs.Framing.{response_kind, framing_fault, transmission_of, unless}
use Rattle.d0_segments.specs.Pieces.{shared_of, groups_of}
use Rattle.claim_profile.specs.declared.ruling.Ruling.{Ruling}
use Rattle.claim_profile.specs.declared.answer_reading.Speaker.{Speaker}
use Rattle.claim_profile.specs.declared.answer_reading.AnswerFault.{AnswerFault}
use Rattle.claim_profile.specs.declared.answer_reading.AnswerFault.TheVariants as fault
use Rattle.claim_profile.specs.Ruling.{◌>>=◌, ruling_in, rulings_in, answer_with, said_by, AnswerParts, FailsAs}

-- what was read before, and what is still read
abbrev pub with_front : List Ruling → Result (List Ruling) AnswerFault → Result (List Ruling) AnswerFault
with_front front reading = reading >>= λ rs. Ok (front ++ rs)

pub begins : (reading : Result (List Ruling) AnswerFault) → with_front [] reading ≡ reading
begins (Ok rs) = refl
begins (Err e) = refl

regroup : (front : List Ruling) (r : Ruling) (reading : Result (List Ruling) AnswerFault) → with_front front (reading >>= λ rs. Ok (r ∷ rs)) ≡ with_front (front ++ r ∷ []) reading
regroup front r (Ok rs) = ap (λ (xs : List Ruling). Ok xs) (sym (append_assoc front (r ∷ []) rs))
regroup front r (Err e) = refl

-- the next group is read
pub goes_on : (by : Speaker) (h : Response) (front : List Ruling) (groups later : List (List SegmentParts)) (group : List SegmentParts) (r : Ruling) (total : Result (List Ruling) AnswerFault)
    → groups ≡ group ∷ later → Ok r ≡ ruling_in by h group → with_front front (rulings_in by h groups) ≡ total → with_front (front ++ r ∷ []) (rulings_in by h later) ≡ total
unfolding rulings_in
goes_on by h front groups later group r total next one so_far =
    sym (ap (λ gs. with_front front (rulings_in by h gs)) next
    ∙ ap (λ first. with_front front (first >>= λ x. rulings_in by h later >>= λ others. Ok (x ∷ others))) (sym one)
    ∙ regroup front r (rulings_in by h later))
    ∙ so_far

pub ends : (by : Speaker) (h : Response) (front : List Ruling) (groups later : List (List SegmentParts)) (group : List SegmentParts) (e : AnswerFault) (total : Result (List Ruling) AnswerFault)
    → groups ≡ group ∷ later → Err e ≡ ruling_in by h group → with_front front (rulings_in by h groups) ≡ total → total ≡ Err e
unfolding rulings_in
ends by h front groups later group e total next one so_far =
    sym so_far ∙ ap (λ gs. with_front front (rulings_in by h gs)) next
    ∙ ap (λ first. with_front front (first >>= λ x. rulings_in by h later >>= λ others. Ok (x ∷ others))) (sym one)

-- an error is the fault of what is read, or want of memory
pub fails : {A : Type 0} (e : AnswerFault) (reading : Result A AnswerFault) → reading ≡ Err e → FailsAs e reading
fails fault.OutOfMemory reading is = tt
fails fault.Framing reading is = is
fails fault.NoStatus reading is = is
fails fault.BadStatus reading is = is
fails fault.BadAmount reading is = is
fails fault.BadAuthorization reading is = is
fails fault.BadRejects reading is = is
fails fault.BadClaim reading is = is

pub is_done : (by : Speaker) (h : Response) (front : List Ruling) (groups : List (List SegmentParts)) (total : Result (List Ruling) AnswerFault) → groups ≡ [] → with_front front (rulings_in by h groups) ≡ total → total ≡ Ok front
unfolding rulings_in
is_done by h front groups total none so_far =
    sym so_far ∙ ap (λ gs. with_front front (rulings_in by h gs)) none ∙ ap (λ (rs : List Ruling). Ok rs) (append-nil front)

-- ---- the whole answer

-- bytes that have a framing fault are no answer
pub framing_fails : (by : Speaker) (bytes : List ℕ) (e : FramingFault) → framing_fault response_kind bytes ≡ Some e → said_by by bytes ≡ Err fault.Framing
unfolding said_by transmission_of
framing_fails by bytes e is = ap (λ f. answer_with by (unless f (record { header = response_kind.header_of bytes; shared = shared_of (drop 31 bytes); groups = groups_of (drop 31 bytes) }))) is

-- what the groups say is what the answer says
pub answer_is : (by : Speaker) (bytes : List ℕ) (t : TransmissionParts Response) (rulings : List Ruling) → transmission_of response_kind bytes ≡ Some t → rulings_in by t.header t.groups ≡ Ok rulings
    → said_by by bytes ≡ Ok (record { header = t.header; rulings = rulings })
unfolding said_by
answer_is by bytes t rulings is read = ap (answer_with by) is ∙ ap (λ r. r >>= λ rs. Ok (record { header = t.header; rulings = rs })) read

pub answer_err : (by : Speaker) (bytes : List ℕ) (t : TransmissionParts Response) (e : AnswerFault) → transmission_of response_kind bytes ≡ Some t → rulings_in by t.header t.groups ≡ Err e → said_by by bytes ≡ Err e
unfolding said_by
answer_err by bytes t e is read = ap (answer_with by) is ∙ ap (λ r. r >>= λ rs. Ok (record { header = t.header; rulings = rs })) read

pub answer_fails : (by : Speaker) (bytes : List ℕ) (t : TransmissionParts Response) (e : AnswerFault) → transmission_of response_kind bytes ≡ Some t → FailsAs e (rulings_in by t.header t.groups) → FailsAs e (said_by by bytes)
answer_fails by bytes t fault.OutOfMemory is read = tt
answer_fails by bytes t fault.Framing is read = answer_err by bytes t fault.Framing is read
answer_fails by bytes t fault.NoStatus is read = answer_err by bytes t fault.NoStatus is read
answer_fails by bytes t fault.BadStatus is read = answer_err by bytes t fault.BadStatus is read
answer_fails by bytes t fault.BadAmount is read = answer_err by bytes t fault.BadAmount is read
answer_fails by bytes t fault.BadAuthorization is read = answer_err by bytes t fault.BadAuthorization is read
answer_fails by bytes t fault.BadRejects is read = answer_err by bytes t fault.BadRejects is read
answer_fails by bytes t fault.BadClaim is read = answer_err by bytes t fault.BadClaim is read

-- an answer of these parts
abbrev pub an_answer : Response → List Ruling → Result AnswerParts AnswerFault
an_answer h rulings = Ok (record { header = h; rulings = rulings })

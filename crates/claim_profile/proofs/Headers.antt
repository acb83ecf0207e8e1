-- The header of a readable request is cut from its front.
use Rattle.std.proofs.Common.{◌≡◌, ℕ, Bool, true, false, not, List, length, Option, Some, None, option_map, refl, sym, ap, ◌∙◌, arith}
use Rattle.std.proofs.lemmas.Bool.{ltb-false, leb-true, and_parts}
use Rattle.std.specs.Prelude.{◌≤◌, nat_le, nat_lt, option_and_then, slice_index, if◌then◌else◌, IsSome}
use Rattle.d0_header.specs.Field.{is_count}
use Rattle.d0_header.specs.Request.{Request, request_of, request_fault}
use Rattle.d0_header.specs.declared.fault.HeaderFault.{HeaderFault}
use Rattle.d0_header.specs.declared.fault.HeaderFault.TheVariants.{Short, BadBin, BadCount}
use Rattle.d0_segments.specs.declared.fault.FramingFault.{FramingFault}
use Rattle.d0_segments.specs.Parts.{TransmissionParts}
use Rattle.d0_segments.specs.Framing.{request_kind, transmission_of, framing_fault, after_header, unless}
use Rattle.claim_profile.specs.Readable.{readable_header, is_carried, if_carried, framed_header, longest_request}

is_same : (g h : Request) → if_carried g ≡ Some h → g ≡ h
is_same g h e =
    let P : Bool → Type 0 = λ b. ((if b then Some g else None) ≡ Some h → g ≡ h) in
    let all : (b : Bool) → P b = λ b. elim b as P [ true ↦ (λ e. cc) | false ↦ (λ e. absurd cc) ] in
    all (is_carried g) e

framed : (b : Bool) (o : Option Request) (h : Request) → (if b then option_and_then if_carried o else None) ≡ Some h → o ≡ Some h
framed false o h e = absurd cc
framed true None h e = absurd cc
framed true (Some g) h e = ap (λ (x : Request). Some x) (is_same g h e)

pub no_header_fault : (a : Option HeaderFault) (b : Option FramingFault) → after_header a b ≡ None → a ≡ None
no_header_fault None b e = refl
no_header_fault (Some f) b e = absurd cc

spelled : (o : Option FramingFault) (t : TransmissionParts Request) (h : Request) → option_map (λ (t : TransmissionParts Request). t.header) (unless o t) ≡ Some h → (o ≡ None) × (t.header ≡ h)
spelled None t h e = (refl, cc)
spelled (Some f) t h e = absurd cc

-- the header of a framed text is cut from its front
pub header_cut : (text : List ℕ) (h : Request) → framed_header (transmission_of request_kind text) ≡ Some h → (request_fault text ≡ None) × (request_of text ≡ h)
unfolding transmission_of framing_fault
header_cut text h e =
    let p = spelled (framing_fault request_kind text) _ h e in
    (no_header_fault _ _ p.0, p.1)

-- what a test for something finds
pub found : {A : Type 0} (o : Option A) → IsSome o → (x : A) × (o ≡ Some x)
found None e = absurd cc
found (Some x) e = (x, refl)

-- the front of a readable request is a header, the request's
pub readable_cut : (text : List ℕ) → IsSome (readable_header text) → (request_fault text ≡ None) × (readable_header text ≡ Some (request_of text))
unfolding readable_header
readable_cut text s =
    let f = found (readable_header text) s in
    let cut = header_cut text f.0 (framed (nat_le (length text) longest_request) (framed_header (transmission_of request_kind text)) f.0 f.1) in
    (cut.0, f.1 ∙ ap (λ (h : Request). Some h) (sym cut.1))

pub readable_is : (text : List ℕ) → IsSome (readable_header text) → readable_header text ≡ Some (request_of text)
readable_is text s = (readable_cut text s).1

not_short : (b : Bool) (later : Option HeaderFault) → (if b then Some Short else later) ≡ None → b ≡ false
not_short false later e = refl
not_short true later e = absurd cc

long_enough : (text : List ℕ) → request_fault text ≡ None → 56 ≤ length text
unfolding request_fault
long_enough text e = ltb-false (length text) 56 (not_short (nat_lt (length text) 56) _ e)

-- and it is long enough for one
pub readable_long : (text : List ℕ) → IsSome (readable_header text) → 56 ≤ length text
readable_long text s = long_enough text (readable_cut text s).0

-- the count of a framed header is a digit
counted : (short bin count : Bool) (later : Option HeaderFault) → (if short then Some Short else (if bin then Some BadBin else (if not count then Some BadCount else later))) ≡ None → count ≡ true
counted true bin count later e = absurd cc
counted false true count later e = absurd cc
counted false false true later e = refl
counted false false false later e = absurd cc

some_count : (text : List ℕ) → request_fault text ≡ None → is_count (slice_index text 20) ≡ true
unfolding request_fault
some_count text e = counted (nat_lt (length text) 56) _ (is_count (slice_index text 20)) _ e

-- and its count is the number of a digit
pub readable_count : (text : List ℕ) → IsSome (readable_header text) → 48 ≤ slice_index text 20
readable_count text s =
    let least : 49 ≤ slice_index text 20 = leb-true _ _ (and_parts _ _ (some_count text (readable_cut text s).0)).0 in
    omega (arith, least)

-- Written answers: they are framed, they are short, and they read back.
use Rattle.std.proofs.Common.{◌≡◌, ℕ, pos, ◌+◌, ◌*◌, ◌≤◌, true, List, [], ◌∷◌, ◌++◌, length, map, Some, Ok, IsTrue, codes, refl, ap, sym, ◌∙◌, arith, length-append}
use Rattle.std.specs.List.{AllByRecursion}
use Rattle.std.proofs.lemmas.List.{length-map}
use Rattle.overpunch.specs.Number.{number_text}
use Rattle.overpunch.specs.Amount.{amount_text}
use Rattle.d0_header.specs.Field.{is_plain as is_plain_byte}
use Rattle.d0_header.specs.Request.{Request, IsRequest}
use Rattle.d0_header.specs.Response.{Response, IsResponse, response_text, answer_to}
use Rattle.d0_segments.specs.Parts.{TransmissionParts, are_fields, is_segment, is_group, are_groups}
use Rattle.d0_segments.specs.Texts.{fields_text, segment_text, segments_text, groups_text}
use Rattle.d0_segments.specs.Framing.{response_kind, transmission_text, IsResponseFramed, transmission_of}
use Rattle.claim_profile.specs.declared.reject.Code.{Code}
use Rattle.claim_profile.specs.declared.ruling.Ruling.{Ruling}
use Rattle.claim_profile.specs.declared.ruling.Ruling.TheVariants.{Paid, Duplicate, Reversed, Rejected}
use Rattle.claim_profile.specs.declared.ruling.HeaderStatus.{HeaderStatus}
use Rattle.claim_profile.specs.declared.ruling.HeaderStatus.TheVariants as header
use Rattle.claim_profile.specs.declared.answer_reading.Speaker.TheVariants as speaker
use Rattle.claim_profile.specs.Authorization.{Authorization, authorization_text}
use Rattle.claim_profile.specs.Money.{Money, IsMoney}
use Rattle.claim_profile.specs.Answer.{status_byte_of, status_segment, claim_segment, pricing_segment, code_field, reject_segment, ruling_segments, ruling_groups, answer_parts, answer_text, IsPrescription, StandsBeside}
use Rattle.claim_profile.specs.Reject.{code_text}
use Rattle.claim_profile.specs.Ruling.{IsCode, rulings_in, answer_with, said_by, answer_of}
use Rattle.claim_profile.specs.Answering.{AreRejects, IsConstructible, Answers, answered}
use Rattle.claim_profile.proofs.PaddedNumbers.{length-authorization_text}
use Rattle.claim_profile.proofs.PlainTexts.{number_plain, amount_plain, authorization_plain, number_fits, amount_fits}
use Rattle.claim_profile.proofs.CodeLemmas.{code_parts}
use Rattle.claim_profile.proofs.WrittenGroups.{NumbersReadBack, AmountsReadBack, ruling_read}

-- ---- framing

status_framed : (status : List ℕ) (auth : Authorization) → Rattle.d0_segments.specs.Separators.is_plain status ≡ true → is_segment (status_segment status auth) ≡ true
unfolding status_segment
status_framed status auth plain = rw (plain, authorization_plain auth) refl

claim_framed : (prescription : ℕ) → is_segment (claim_segment prescription) ≡ true
unfolding claim_segment
claim_framed prescription = rw (number_plain prescription) refl

pricing_framed : (m : Money) → is_segment (pricing_segment m) ≡ true
unfolding pricing_segment
pricing_framed m = rw (amount_plain m.copay, amount_plain m.cost, amount_plain m.fee, amount_plain m.total) refl

codes_framed : (rejects : List Code) → AllByRecursion IsCode rejects → are_fields (map code_field rejects) ≡ true
codes_framed [] are = refl
codes_framed (code ∷ rejects) are = rw ((code_parts code are.0).plain, codes_framed rejects are.1) refl

rejects_framed : (rejects : List Code) → AllByRecursion IsCode rejects → is_segment (reject_segment rejects) ≡ true
unfolding reject_segment
rejects_framed rejects are = rw (number_plain (length rejects), codes_framed rejects are) refl

group_framed : (r : Ruling) → IsConstructible r → is_group (ruling_segments r) ≡ true
group_framed (Paid auth prescription m) made = rw (status_framed (codes "P") auth refl, claim_framed prescription, pricing_framed m) refl
group_framed (Duplicate auth prescription m) made = rw (status_framed (codes "D") auth refl, claim_framed prescription, pricing_framed m) refl
group_framed (Reversed auth prescription) made = rw (status_framed (codes "A") auth refl, claim_framed prescription) refl
group_framed (Rejected rejects) made = rw (rejects_framed rejects made.2) refl

groups_framed : (rulings : List Ruling) → AllByRecursion IsConstructible rulings → are_groups (ruling_groups rulings) ≡ true
groups_framed [] made = refl
groups_framed (r ∷ rulings) made = rw (group_framed r made.0, groups_framed rulings made.1) refl

abbrev pub SoundAnswers : Type 0
SoundAnswers = (h : Request) (status : ℕ) → IsRequest h → IsTrue (is_plain_byte status) → IsResponse (answer_to h status)

plain_status : (s : HeaderStatus) → IsTrue (is_plain_byte (status_byte_of s))
plain_status header.Accepted = refl
plain_status header.Rejected = refl

answer_framed : SoundAnswers → (h : Request) (s : HeaderStatus) (rulings : List Ruling) → Answers h s rulings → IsResponseFramed (answer_parts h s rulings)
answer_framed sound h s rulings a =
    record {
      header = sound h (status_byte_of s) a.header (plain_status s);
      shared = refl;
      groups = groups_framed rulings a.made;
      count = sym (length-map rulings ruling_segments ∙ a.count);
    }

-- ---- reading

rulings_read : NumbersReadBack → AmountsReadBack → (h : Request) (s : HeaderStatus) (rulings : List Ruling) → AllByRecursion IsConstructible rulings → AllByRecursion (StandsBeside s) rulings
    → rulings_in speaker.Book (answer_to h (status_byte_of s)) (ruling_groups rulings) ≡ Ok rulings
unfolding rulings_in
rulings_read numbers amounts h s [] made beside = refl
rulings_read numbers amounts h s (r ∷ rulings) made beside =
    rw (ruling_read numbers amounts h s r made.0 beside.0, rulings_read numbers amounts h s rulings made.1 beside.1) refl

abbrev pub ResponsesReadAgain : Type 0
ResponsesReadAgain = (t : TransmissionParts Response) → IsResponseFramed t → transmission_of response_kind (transmission_text response_kind t) ≡ Some t

pub answer_reads : NumbersReadBack → AmountsReadBack → SoundAnswers → ResponsesReadAgain → (h : Request) (s : HeaderStatus) (rulings : List Ruling) → Answers h s rulings → answer_of (answer_text h s rulings) ≡ Ok (answered h s rulings)
unfolding said_by answer_text
answer_reads numbers amounts sound again h s rulings a =
    ap (answer_with speaker.Book) (again (answer_parts h s rulings) (answer_framed sound h s rulings a))
    ∙ rw (rulings_read numbers amounts h s rulings a.made a.beside) refl

-- ---- length

status_lengths : (s a : List ℕ) → length (s ++ (28 ∷ 70 ∷ 51 ∷ (a ++ []))) ≡ length s + length a + 3
status_lengths s a = omega (arith, length-append s (28 ∷ 70 ∷ 51 ∷ (a ++ [])), length-append a [])

length-status : (status : List ℕ) (auth : Authorization) → length (segment_text (status_segment status auth)) ≡ length status + 28
unfolding status_segment
length-status status auth = omega (arith, status_lengths status (authorization_text auth), length-authorization_text auth)

length-claim : NumbersReadBack → (prescription : ℕ) → IsPrescription prescription → length (segment_text (claim_segment prescription)) ≤ 25
unfolding claim_segment
length-claim numbers prescription is =
    let fits = number_fits 12 (number_text prescription) prescription (numbers 12 prescription (omega arith) is) in
    omega (arith, fits.few, length-append (number_text prescription) [])

length-amount : AmountsReadBack → (n : ℕ) → n ≤ 99999999 → length (amount_text (pos n)) ≤ 8
length-amount amounts n few = (amount_fits (amount_text (pos n)) (pos n) (amounts (pos n) (omega arith))).few

pricing_lengths : (a b c d : List ℕ) → length (a ++ (28 ∷ 70 ∷ 54 ∷ (b ++ (28 ∷ 70 ∷ 55 ∷ (c ++ (28 ∷ 70 ∷ 57 ∷ (d ++ []))))))) ≡ length a + length b + length c + length d + 9
pricing_lengths a b c d = omega (arith, length-append {A = ℕ})

length-pricing : AmountsReadBack → (m : Money) → IsMoney m → length (segment_text (pricing_segment m)) ≤ 50
unfolding pricing_segment
length-pricing amounts m is =
    let copay = length-amount amounts m.copay is.copay in
    let cost = length-amount amounts m.cost is.cost in
    let fee = length-amount amounts m.fee is.fee in
    let total = length-amount amounts m.total is.total in
    omega (arith, pricing_lengths (amount_text (pos m.copay)) (amount_text (pos m.cost)) (amount_text (pos m.fee)) (amount_text (pos m.total)))

length-codes : (rejects : List Code) → AllByRecursion IsCode rejects → length (fields_text (map code_field rejects)) ≤ 6 * length rejects
length-codes [] are = omega arith
length-codes (code ∷ rejects) are =
    omega (arith, (code_parts code are.0).short, length-append (code_text code) (fields_text (map code_field rejects)), length-codes rejects are.1)

length-rejects : NumbersReadBack → (rejects : List Code) → AreRejects rejects → length (segment_text (reject_segment rejects)) ≤ 45
unfolding reject_segment
length-rejects numbers rejects are =
    let few : length rejects ≤ 5 = are.1 in
    let fits = number_fits 2 (number_text (length rejects)) (length rejects) (numbers 2 (length rejects) (omega arith) (omega arith)) in
    omega (arith, fits.few, length-append (number_text (length rejects)) (fields_text (map code_field rejects)), length-append (fields_text (map code_field rejects)) [], length-codes rejects are.2)

length-three : (a b c : List ℕ) → length (a ++ (b ++ (c ++ []))) ≡ length a + length b + length c
length-three a b c = omega (arith, length-append {A = ℕ})

length-two : (a b : List ℕ) → length (a ++ (b ++ [])) ≡ length a + length b
length-two a b = omega (arith, length-append {A = ℕ})

length-one : (a : List ℕ) → length (a ++ []) ≡ length a
length-one a = omega (arith, length-append {A = ℕ})

length-payment : NumbersReadBack → AmountsReadBack → (status : ℕ) (auth : Authorization) (prescription : ℕ) (m : Money) → IsPrescription prescription → IsMoney m
    → length (segments_text (status_segment (status ∷ []) auth ∷ claim_segment prescription ∷ pricing_segment m ∷ [])) ≤ 104
length-payment numbers amounts status auth prescription m is money =
    omega (
      arith,
      length-three (segment_text (status_segment (status ∷ []) auth)) (segment_text (claim_segment prescription)) (segment_text (pricing_segment m)),
      length-status (status ∷ []) auth,
      length-claim numbers prescription is,
      length-pricing amounts m money,
    )

length-ruling : NumbersReadBack → AmountsReadBack → (r : Ruling) → IsConstructible r → length (segments_text (ruling_segments r)) ≤ 104
length-ruling numbers amounts (Paid auth prescription m) made = length-payment numbers amounts 80 auth prescription m made.1 made.2
length-ruling numbers amounts (Duplicate auth prescription m) made = length-payment numbers amounts 68 auth prescription m made.1 made.2
length-ruling numbers amounts (Reversed auth prescription) made =
    omega (arith, length-two (segment_text (status_segment (65 ∷ []) auth)) (segment_text (claim_segment prescription)), length-status (65 ∷ []) auth, length-claim numbers prescription made.1)
length-ruling numbers amounts (Rejected rejects) made = omega (arith, length-one (segment_text (reject_segment rejects)), length-rejects numbers rejects made)

length-rulings : NumbersReadBack → AmountsReadBack → (rulings : List Ruling) → AllByRecursion IsConstructible rulings → length (groups_text (ruling_groups rulings)) ≤ 105 * length rulings
length-rulings numbers amounts [] made = omega arith
length-rulings numbers amounts (r ∷ rulings) made =
    omega (arith, length-append (segments_text (ruling_segments r)) (groups_text (ruling_groups rulings)), length-ruling numbers amounts r made.0, length-rulings numbers amounts rulings made.1)

abbrev pub ResponsesAreAsLong : Type 0
ResponsesAreAsLong = (h : Response) → IsResponse h → length (response_text h) ≡ 31

pub answer_short : NumbersReadBack → AmountsReadBack → SoundAnswers → ResponsesAreAsLong → (h : Request) (s : HeaderStatus) (rulings : List Ruling) → Answers h s rulings → length (answer_text h s rulings) ≤ 32768
unfolding answer_text
answer_short numbers amounts sound width h s rulings a =
    let head = response_text (answer_to h (status_byte_of s)) in
    let wide : length head ≡ 31 = width (answer_to h (status_byte_of s)) (sound h (status_byte_of s) a.header (plain_status s)) in
    omega (arith, length-append head (groups_text (ruling_groups rulings)), length-rulings numbers amounts rulings a.made, a.count, a.header.most)

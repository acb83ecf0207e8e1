-- Answers that carry: they are framed, they are short, they read back, and they are carried again as they are.
use Rattle.std.proofs.Common.{◌≡◌, ℕ, ◌<◌, ◌≤◌, Bool, true, false, cond, List, [], length, map, nat_le, Option, Some, None, Result, Ok, Err, refl, sym, ap, subst, ◌∙◌, ◌⊎◌, inl, inr, eq-eqb}
use Rattle.std.specs.List.{list_all}
use Rattle.std.specs.Str.{bytes_eq}
use Rattle.std.proofs.lemmas.List.{length-map}
use Rattle.std.proofs.lemmas.Bool.{cases_lt, le-leb, lt-leb}
use Rattle.d0_header.specs.Request.{Request}
use Rattle.d0_header.specs.Response.{Response, response_fault, answer_to}
use Rattle.d0_segments.specs.Parts.{SegmentParts, TransmissionParts, are_segments}
use Rattle.d0_segments.specs.Framing.{response_kind, transmission_text, IsResponseFramed, framing_fault, transmission_of}
use Rattle.claim_profile.specs.declared.ruling.Ruling.{Ruling}
use Rattle.claim_profile.specs.declared.ruling.HeaderStatus.{HeaderStatus}
use Rattle.claim_profile.specs.declared.answer_reading.AnswerFault.{AnswerFault}
use Rattle.claim_profile.specs.Readable.{longest_request}
use Rattle.claim_profile.specs.Answer.{status_byte_of, ruling_segments, ruling_groups, answer_parts, answer_text}
use Rattle.claim_profile.specs.Ruling.{◌>>=◌, AnswerParts, answer_with, said_by, answer_of, advice_of}
use Rattle.claim_profile.specs.Unnamed.{unnamed, unnamed_parts}
use Rattle.claim_profile.specs.Answering.{Answers, answered}
use Rattle.claim_profile.proofs.WrittenAnswers.{SoundAnswers, ResponsesReadAgain}
use Rattle.carried_fields.specs.Agreeing.{agreed}
use Rattle.carried_fields.specs.Carrying.{carried_text, carried_shared, carried_parts, have_groups, carried_answer, or_plain, carrying_text, kept_text}
use Rattle.carried_fields.proofs.WellFramed.{HasParts, framed_has_parts}
use Rattle.carried_fields.proofs.Further.{bytes_same}
use Rattle.carried_fields.proofs.SameRulings.{rulings_same}
use Rattle.carried_fields.proofs.MergedAgain.{all_agreed, groups_again, length-carried}
use Rattle.carried_fields.proofs.MergedFramed.{groups_carried}
use Rattle.carried_fields.proofs.OwnFramed.{groups_framed, plain_status}

-- ---- without an advice

no_transmission : transmission_of response_kind [] ≡ None
unfolding transmission_of framing_fault response_fault
no_transmission = refl

pub nothing_carried : (rulings : List Ruling) (own : Option (TransmissionParts Response)) (advice : Result AnswerParts AnswerFault) → carried_answer rulings own None advice ≡ None
nothing_carried rulings None advice = refl
nothing_carried rulings (Some own) advice = refl

pub plain_without : (h : Request) (s : HeaderStatus) (rulings : List Ruling) → carrying_text h s rulings [] ≡ answer_text h s rulings
unfolding carrying_text
plain_without h s rulings =
    let plain = answer_text h s rulings in
    ap (or_plain plain)
    (ap (λ (o : Option (TransmissionParts Response)). carried_answer rulings (transmission_of response_kind plain) o (advice_of [])) no_transmission
    ∙ nothing_carried rulings (transmission_of response_kind plain) (advice_of []))

-- ---- what carries

-- the text of a book's answer that carries some of these parts
abbrev text_of : Request → HeaderStatus → List Ruling → List Bool → TransmissionParts Response → List ℕ
text_of h s rulings bs said = transmission_text response_kind (carried_parts bs (answer_parts h s rulings) said)

-- a text that is a book's answer which carries some parts, and that an envelope takes
pub record Carries (h : Request) (s : HeaderStatus) (rulings : List Ruling) (text : List ℕ) : Type 0 where
  pub agreeing : List Bool
  pub said : TransmissionParts Response
  pub parts : HasParts said
  pub short : length text ≤ longest_request
  pub is : text ≡ text_of h s rulings agreeing said

shared_carried : (b : Bool) (shared : List SegmentParts) → are_segments shared ≡ true → are_segments (cond b shared []) ≡ true
shared_carried true shared e = e
shared_carried false shared e = refl

some_taken : (plain text : List ℕ) (b : Bool) → b ≡ true → (let t : List ℕ = cond b text plain in t) ≡ text
some_taken plain text b e = ap (λ c. cond c text plain) e

plain_is : (h : Request) (s : HeaderStatus) (rulings : List Ruling) → answer_text h s rulings ≡ transmission_text response_kind (answer_parts h s rulings)
unfolding answer_text
plain_is h s rulings = refl

module _ (again : ResponsesReadAgain) (sound : SoundAnswers) (short_answer : (h : Request) (s : HeaderStatus) (rulings : List Ruling) → Answers h s rulings → length (answer_text h s rulings) ≤ longest_request)
    (reads : (h : Request) (s : HeaderStatus) (rulings : List Ruling) → Answers h s rulings → answer_of (answer_text h s rulings) ≡ Ok (answered h s rulings))
    (advised : (bytes : List ℕ) (a : AnswerParts) → answer_of bytes ≡ Ok a → advice_of bytes ≡ Ok (unnamed_parts a)) where
  framed : (h : Request) (s : HeaderStatus) (rulings : List Ruling) (bs : List Bool) (said : TransmissionParts Response) → Answers h s rulings → HasParts said → IsResponseFramed (carried_parts bs (answer_parts h s rulings) said)
  framed h s rulings bs said a parts = record {
    header = sound h (status_byte_of s) a.header (plain_status s);
    shared = shared_carried (list_all (λ (b : Bool). b) bs) said.shared parts.shared;
    groups = groups_carried bs (ruling_groups rulings) said.groups (groups_framed rulings a.made) parts.groups;
    count = sym (length-carried bs (ruling_groups rulings) said.groups ∙ length-map rulings ruling_segments ∙ a.count);
  }

  own_parts : (h : Request) (s : HeaderStatus) (rulings : List Ruling) → Answers h s rulings → HasParts (answer_parts h s rulings)
  own_parts h s rulings a = record { shared = refl; groups = groups_framed rulings a.made }

  -- the plain answer carries nothing
  plain_carries : (h : Request) (s : HeaderStatus) (rulings : List Ruling) → Answers h s rulings → Carries h s rulings (answer_text h s rulings)
  plain_carries h s rulings a = record {
    agreeing = [];
    said = answer_parts h s rulings;
    parts = own_parts h s rulings a;
    short = short_answer h s rulings a;
    is = plain_is h s rulings;
  }

  plain_read : (h : Request) (s : HeaderStatus) (rulings : List Ruling) → Answers h s rulings → transmission_of response_kind (answer_text h s rulings) ≡ Some (answer_parts h s rulings)
  plain_read h s rulings a = ap (transmission_of response_kind) (plain_is h s rulings) ∙ again (answer_parts h s rulings) (framed h s rulings [] (answer_parts h s rulings) a (own_parts h s rulings a))

  -- what carries, carries whatever the advice is
  shape : (h : Request) (s : HeaderStatus) (rulings : List Ruling) (said : List ℕ) → Answers h s rulings → Carries h s rulings (carrying_text h s rulings said)
  unfolding carrying_text
  shape h s rulings said a =
      let plain = answer_text h s rulings in
      let own = answer_parts h s rulings in
      subst (λ (o : Option (TransmissionParts Response)). Carries h s rulings (or_plain plain (carried_answer rulings o (transmission_of response_kind said) (advice_of said)))) (sym (plain_read h s rulings a))
      (by_parts (transmission_of response_kind said) (advice_of said) refl)
    where
      by_length : (bs : List Bool) (t : TransmissionParts Response) → HasParts t → (longest_request < length (text_of h s rulings bs t)) ⊎ (length (text_of h s rulings bs t) ≤ longest_request)
          → Carries h s rulings (or_plain (answer_text h s rulings) (Some (text_of h s rulings bs t)))
      by_length bs t parts (inl long) =
          subst (Carries h s rulings) (sym (ap (λ (c : Bool). cond c (text_of h s rulings bs t) (answer_text h s rulings)) (lt-leb (length (text_of h s rulings bs t)) longest_request long))) (plain_carries h s rulings a)
      by_length bs t parts (inr few) =
          subst (Carries h s rulings) (sym (some_taken (answer_text h s rulings) (text_of h s rulings bs t) (nat_le (length (text_of h s rulings bs t)) longest_request) (le-leb (length (text_of h s rulings bs t)) longest_request few)))
          (record { agreeing = bs; said = t; parts = parts; short = few; is = refl })

      by_count : (bs : List Bool) (t : TransmissionParts Response) (b : Bool) → HasParts t → Carries h s rulings (or_plain (answer_text h s rulings) (cond b (Some (text_of h s rulings bs t)) None))
      by_count bs t true parts = by_length bs t parts (cases_lt longest_request (length (text_of h s rulings bs t)))
      by_count bs t false parts = plain_carries h s rulings a

      by_parts : (o : Option (TransmissionParts Response)) (advice : Result AnswerParts AnswerFault) → transmission_of response_kind said ≡ o
          → Carries h s rulings (or_plain (answer_text h s rulings) (carried_answer rulings (Some (answer_parts h s rulings)) o advice))
      by_parts None advice is = plain_carries h s rulings a
      by_parts (Some t) (Err e) is = plain_carries h s rulings a
      by_parts (Some t) (Ok advice) is = by_count (agreed rulings advice.rulings) t (have_groups rulings (answer_parts h s rulings) t) (framed_has_parts said t is)

  -- ---- reading

  read_as : (by : _) (h : Request) (s : HeaderStatus) (rulings : List Ruling) (bs : List Bool) (said : TransmissionParts Response) → Answers h s rulings → HasParts said
      → said_by by (text_of h s rulings bs said) ≡ said_by by (answer_text h s rulings)
  unfolding said_by
  read_as by h s rulings bs said a parts =
      ap (answer_with by) (again (carried_parts bs (answer_parts h s rulings) said) (framed h s rulings bs said a parts))
      ∙ ap (λ (r : Result (List Ruling) AnswerFault). r >>= λ rs. Ok (record { header = answer_to h (status_byte_of s); rulings = rs })) (rulings_same by (answer_to h (status_byte_of s)) bs rulings said.groups)
      ∙ ap (answer_with by) (sym (plain_read h s rulings a))

  carrying_read : (h : Request) (s : HeaderStatus) (rulings : List Ruling) (text : List ℕ) → Answers h s rulings → Carries h s rulings text → answer_of text ≡ Ok (answered h s rulings)
  carrying_read h s rulings text a c = ap answer_of c.is ∙ read_as _ h s rulings c.agreeing c.said a c.parts ∙ reads h s rulings a

  -- ---- carrying again

  groups_there : (h : Request) (s : HeaderStatus) (rulings : List Ruling) (said : TransmissionParts Response) → length said.groups ≡ length rulings → have_groups rulings (answer_parts h s rulings) said ≡ true
  groups_there h s rulings said count =
      rw (eq-eqb (length (ruling_groups rulings)) (length rulings) (length-map rulings ruling_segments), eq-eqb (length said.groups) (length rulings) count) refl

  parts_again : (h : Request) (s : HeaderStatus) (rulings : List Ruling) (bs : List Bool) (said : TransmissionParts Response)
      → carried_parts (agreed rulings (map unnamed rulings)) (answer_parts h s rulings) (carried_parts bs (answer_parts h s rulings) said) ≡ carried_parts bs (answer_parts h s rulings) said
  parts_again h s rulings bs said = λ i. record {
    header = answer_to h (status_byte_of s);
    shared = ap (λ (b : Bool). cond b (carried_shared bs said.shared) []) (all_agreed rulings) i;
    groups = groups_again rulings bs said.groups i;
  }

  carried_again : (h : Request) (s : HeaderStatus) (rulings : List Ruling) (text : List ℕ) → Answers h s rulings → Carries h s rulings text → carrying_text h s rulings text ≡ text
  unfolding carrying_text
  carried_again h s rulings text a c =
      let plain = answer_text h s rulings in
      let own = answer_parts h s rulings in
      let carries = carried_parts c.agreeing own c.said in
      let read : transmission_of response_kind text ≡ Some carries = ap (transmission_of response_kind) c.is ∙ again carries (framed h s rulings c.agreeing c.said a c.parts) in
      let rules = advised text (answered h s rulings) (carrying_read h s rulings text a c) in
      (λ i. or_plain plain (carried_answer rulings (plain_read h s rulings a i) (read i) (rules i)))
      ∙ ap (λ (b : Bool). or_plain plain (cond b (Some (transmission_text response_kind (carried_parts (agreed rulings (map unnamed rulings)) own carries))) None)) (groups_there h s rulings carries (length-carried c.agreeing (ruling_groups rulings) c.said.groups ∙ length-map rulings ruling_segments))
      ∙ ap (λ (t : TransmissionParts Response). or_plain plain (Some (transmission_text response_kind t))) (parts_again h s rulings c.agreeing c.said)
      ∙ ap (λ (t : List ℕ). or_plain plain (Some t)) (sym c.is)
      ∙ some_taken plain text (nat_le (length text) longest_request) (le-leb (length text) longest_request c.short)

  -- ---- the laws

  pub carrying_short : (h : Request) (s : HeaderStatus) (rulings : List Ruling) (said : List ℕ) → Answers h s rulings → length (carrying_text h s rulings said) ≤ longest_request
  carrying_short h s rulings said a = (shape h s rulings said a).short

  pub carrying_reads : (h : Request) (s : HeaderStatus) (rulings : List Ruling) (said : List ℕ) → Answers h s rulings → answer_of (carrying_text h s rulings said) ≡ Ok (answered h s rulings)
  carrying_reads h s rulings said a = carrying_read h s rulings (carrying_text h s rulings said) a (shape h s rulings said a)

  pub carrying_again : (h : Request) (s : HeaderStatus) (rulings : List Ruling) (said : List ℕ) → Answers h s rulings → carrying_text h s rulings (carrying_text h s rulings said) ≡ carrying_text h s rulings said
  carrying_again h s rulings said a = carried_again h s rulings (carrying_text h s rulings said) a (shape h s rulings said a)

  pub carrying_carried : (h : Request) (s : HeaderStatus) (rulings : List Ruling) (said : List ℕ) (t : TransmissionParts Response) (advice : AnswerParts) → Answers h s rulings
      → transmission_of response_kind said ≡ Some t → advice_of said ≡ Ok advice → length t.groups ≡ length rulings → length (carried_text h s rulings t advice.rulings) ≤ longest_request
      → carrying_text h s rulings said ≡ carried_text h s rulings t advice.rulings
  unfolding carrying_text
  carrying_carried h s rulings said t advice a read rules count few =
      let plain = answer_text h s rulings in
      let text = carried_text h s rulings t advice.rulings in
      (λ i. or_plain plain (carried_answer rulings (plain_read h s rulings a i) (read i) (rules i)))
      ∙ ap (λ (b : Bool). or_plain plain (cond b (Some text) None)) (groups_there h s rulings t count)
      ∙ some_taken plain text (nat_le (length text) longest_request) (le-leb (length text) longest_request few)

  kept_of : (h : Request) (s : HeaderStatus) (rulings : List Ruling) (text : List ℕ) (b : Bool) → bytes_eq text (answer_text h s rulings) ≡ b → carrying_text h s rulings text ≡ text
      → carrying_text h s rulings (cond b [] text) ≡ text
  kept_of h s rulings text true same is = plain_without h s rulings ∙ sym (bytes_same text (answer_text h s rulings) same)
  kept_of h s rulings text false same is = is

  pub carrying_kept : (h : Request) (s : HeaderStatus) (rulings : List Ruling) (said : List ℕ) → Answers h s rulings → carrying_text h s rulings (kept_text h s rulings said) ≡ carrying_text h s rulings said
  unfolding kept_text
  carrying_kept h s rulings said a =
      kept_of h s rulings (carrying_text h s rulings said) (bytes_eq (carrying_text h s rulings said) (answer_text h s rulings)) refl (carrying_again h s rulings said a)

-- What is known of a readable request, and of an answer beside it.
use Rattle.std.proofs.Common.{◌≡◌, ℕ, ◌≤◌, ◌<◌, Bool, true, false, ◌&&◌, List, length, Option, Some, None, Ok, Err, refl, sym, ap, ◌∙◌}
use Rattle.std.specs.Prelude.{nat_le, nat_lt, option_and_then, if◌then◌else◌, bytes_eq, ◌==◌, IsSome}
use Rattle.std.proofs.lemmas.Bool.{leb-true}
use Rattle.d0_header.specs.Request.{Request}
use Rattle.d0_segments.specs.declared.fault.FramingFault.{FramingFault}
use Rattle.d0_segments.specs.Framing.{request_kind, transmission_of, framing_fault}
use Rattle.claim_profile.specs.Readable.{readable_header, is_carried, if_carried, framed_header, longest_request}
use Rattle.claim_profile.specs.Ruling.{AnswerParts, answer_of}
use Rattle.claim_profile.specs.declared.answer_reading.AnswerFault.{AnswerFault}
use Rattle.claim_profile.proofs.Headers.{found}
use Rattle.claim_model.specs.Readable.{fits, has_version, has_code, longest}
use Rattle.std.proofs.Common.{cond, not}
use Rattle.claim_model.specs.declared.refusal.Refusal.{Refusal}
use Rattle.claim_model.specs.declared.refusal.Refusal.TheVariants.{Unreadable, Version, CodeNotCarried, NotOwnProvider, TooLong, JournalFull}
use Rattle.claim_model.specs.Journal.{Journal, submit_fault, is_own}
use Rattle.pharmacy_journal.specs.Reading.{header_of, settles_with, is_own_request}

-- what a readable request is
pub record IsReadable (text : List ℕ) (h : Request) : Type 0 where
  pub short : length text ≤ 32768
  pub framed : header_of text ≡ Some h
  pub carried : is_carried h ≡ true

carried_parts : (g h : Request) → if_carried g ≡ Some h → (g ≡ h) × (is_carried h ≡ true)
carried_parts g h e =
    let P : Bool → Type 0 = λ b. (b ≡ is_carried g → (if b then Some g else None) ≡ Some h → (g ≡ h) × (is_carried h ≡ true)) in
    let all : (b : Bool) → P b = λ b. elim b as P [ true ↦ (λ c e. let same : g ≡ h = cc in (same, ap is_carried (sym same) ∙ sym c)) | false ↦ (λ c e. absurd cc) ] in
    all (is_carried g) refl e

short_parts : (b : Bool) (o : Option Request) (h : Request) → (if b then option_and_then if_carried o else None) ≡ Some h → (b ≡ true) × (o ≡ Some h) × (is_carried h ≡ true)
short_parts false o h e = absurd cc
short_parts true None h e = absurd cc
short_parts true (Some g) h e = let p = carried_parts g h e in (refl, ap (λ (x : Request). Some x) p.0, p.1)

pub IsReadable-from : (text : List ℕ) (h : Request) → readable_header text ≡ Some h → IsReadable text h
unfolding readable_header
IsReadable-from text h e =
    let p = short_parts (nat_le (length text) longest_request) (framed_header (transmission_of request_kind text)) h e in
    record { short = leb-true _ _ p.0; framed = p.1; carried = p.2 }

-- and the other way
pub readable_from : (text : List ℕ) (h : Request) → IsReadable text h → readable_header text ≡ Some h
unfolding readable_header
readable_from text h r =
    let s : nat_le (length text) longest_request ≡ true = Rattle.std.proofs.lemmas.Bool.le-leb _ _ r.short in
    rw (s, r.framed, r.carried) refl

-- whether an answer settles a readable request
pub settles_at : (request answer : List ℕ) (h : Request) (a : AnswerParts) → readable_header request ≡ Some h → answer_of answer ≡ Ok a → settles_with request answer ≡ (bytes_eq a.header.code h.code && (a.header.count == h.count))
settles_at request answer h a e f = rw ((IsReadable-from request h e).framed, f) refl

none_fits : (h : Option Request) → fits h None ≡ false
none_fits None = refl
none_fits (Some h) = refl

pub settles_none : (request answer : List ℕ) (fault : AnswerFault) → answer_of answer ≡ Err fault → settles_with request answer ≡ false
settles_none request answer fault f = rw f (none_fits (header_of request))

pub readable_short : (text : List ℕ) → IsSome (readable_header text) → length text ≤ 32768
readable_short text s = let f = found (readable_header text) s in (IsReadable-from text f.0 f.1).short

found_none : (text : List ℕ) (fault : FramingFault) → framing_fault request_kind text ≡ Some fault → header_of text ≡ None
unfolding transmission_of
found_none text fault e = rw e refl

-- a text whose framing is refused
pub unframed : (j : Journal) (text : List ℕ) (fault : FramingFault) → framing_fault request_kind text ≡ Some fault → submit_fault j text (header_of text) ≡ Some Unreadable
unframed j text fault e = ap (submit_fault j text) (found_none text fault e)

-- a framed text that may be submitted is a readable request of the pharmacy
first_none : (b : Bool) (fault : Refusal) (o : Option Refusal) → cond b (Some fault) o ≡ None → (b ≡ false) × (o ≡ None)
first_none true fault o e = absurd cc
first_none false fault o e = (refl, e)

pub record IsAdmitted (j : Journal) (text : List ℕ) : Type 0 where
  pub readable : IsSome (readable_header text)
  pub own : is_own_request j.settings text ≡ true
  pub room : length j.entries < j.settings.cap

not_false : (b : Bool) → not b ≡ false → b ≡ true
not_false true e = refl
not_false false e = absurd cc

admitted_at : (j : Journal) (text : List ℕ) (h : Option Request) → header_of text ≡ h → submit_fault j text h ≡ None → IsAdmitted j text
admitted_at j text None is e = absurd cc
admitted_at j text (Some h) is e =
    let version = first_none (not (has_version h)) Version _ e in
    let code = first_none (not (has_code h)) CodeNotCarried _ version.1 in
    let own = first_none (not (is_own j.settings h)) NotOwnProvider _ code.1 in
    let short = first_none (not (nat_le (length text) longest)) TooLong _ own.1 in
    let room = first_none (not (nat_lt (length j.entries) j.settings.cap)) JournalFull None short.1 in
    let readable : readable_header text ≡ Some h = readable_from text h (record {
      short = leb-true _ _ (not_false _ short.0);
      framed = is;
      carried = Rattle.std.proofs.lemmas.Bool.and_from _ _ (not_false (has_version h) version.0) (not_false (has_code h) code.0);
    }) in
    record {
      readable = rw readable refl;
      own = rw readable (not_false _ own.0);
      room = Rattle.std.proofs.lemmas.Bool.ltb-true _ _ (not_false _ room.0);
    }

pub IsAdmitted-from : (j : Journal) (text : List ℕ) → submit_fault j text (header_of text) ≡ None → IsAdmitted j text
IsAdmitted-from j text e = admitted_at j text (header_of text) refl e

-- The parts after a header, one more.
use Rattle.std.proofs.Common.{◌≡◌, ◌≤◌, ◌<◌, ℕ, ◌+◌, ◌-◌, List, [], ◌∷◌, ◌++◌, length, take, drop, inl, inr, Result, Ok, Err, refl, ap, subst, sym, ◌∙◌, arith}
use Rattle.std.specs.Prelude.{OnOk}
use Rattle.std.specs.declared.alloc.AllocError.{AllocError}
use Rattle.std.proofs.lemmas.List.{append_assoc, append-nil, drop_all, length-take}
use Rattle.message_parts.specs.declared.layout.Form.{Form}
use Rattle.message_parts.specs.declared.layout.Within.{Within}
use Rattle.message_parts.specs.declared.part.PartKind.{PartKind}
use Rattle.message_parts.specs.Parts.{PartSeen, Cut}
use Rattle.message_parts.specs.Steps.{part_at, part_size, part_kind, within_behind, at_first, AreBody, header_rows, head_parts, width_of}
use Rattle.message_parts.specs.Added.{next_bytes, next_part, IsCutUpTo, AddsBody, AddsTransmission}
use Rattle.message_parts.proofs.Bytes.{either, take_front, front_behind}

-- nothing is cut yet
pub begun : (form : Form) (c : Cut) (size : ℕ) → IsCutUpTo form c.place (next_bytes c size) c.parts at_first c.place (next_bytes c size) c.parts
begun form c size = record { added = []; are = sym (append-nil c.parts); goes_on = λ rest r. r }

-- one part more
more : (form : Form) (first : ℕ) (all : List ℕ) (old : List PartSeen) (within : Within) (place : ℕ) (left : List ℕ) (now new : List PartSeen)
    → IsCutUpTo form first all old within place left now → 0 < length left → new ≡ now ++ part_at form within place left ∷ []
    → IsCutUpTo form first all old (within_behind within left) (place + part_size left) (drop (part_size left) left) new
more form first all old within place left now new before some e =
    let p : PartSeen = part_at form within place left in
    record {
      added = before.added ++ p ∷ [];
      are = e ∙ ap (λ (ps : List PartSeen). ps ++ p ∷ []) before.are ∙ append_assoc old before.added (p ∷ []);
      goes_on = λ rest r. subst (λ (ps : List PartSeen). AreBody form at_first first all ps) (sym (append_assoc before.added (p ∷ []) rest)) (before.goes_on (p ∷ rest) (some, refl, r));
    }

-- the same for a cut
pub cut_more : (form : Form) (old c d : Cut) (size left count : ℕ) (within behind : Within) (kind : PartKind) (front : List ℕ)
    → IsCutUpTo form old.place (next_bytes old size) old.parts within c.place (next_bytes c left) c.parts
    → d.whole ≡ c.whole → d.place ≡ c.place + count → d.parts ≡ c.parts ++ next_part c kind count ∷ [] → front ≡ next_bytes c left
    → 0 < length front → kind ≡ part_kind form within front → count ≡ part_size front → behind ≡ within_behind within front → count ≤ left
    → IsCutUpTo form old.place (next_bytes old size) old.parts behind d.place (next_bytes d (left - count)) d.parts
cut_more form old c d size left count within behind kind front before whole place parts is some k n w le =
    let bytes : List ℕ = next_bytes c left in
    let size_is : count ≡ part_size bytes = n ∙ ap part_size is in
    let taken : next_bytes c count ≡ take (part_size bytes) bytes = sym (take_front count left (drop c.place c.whole) le) ∙ ap (λ m. take m bytes) size_is in
    let kind_is : kind ≡ part_kind form within bytes = k ∙ ap (part_kind form within) is in
    let part : next_part c kind count ≡ part_at form within c.place bytes = λ i. record { place = c.place; bytes = taken i; kind = kind_is i } in
    let next : IsCutUpTo form old.place (next_bytes old size) old.parts (within_behind within bytes) (c.place + part_size bytes) (drop (part_size bytes) bytes) d.parts =
    more form old.place (next_bytes old size) old.parts within c.place bytes c.parts d.parts before (subst (λ (bs : List ℕ). 0 < length bs) is some) (parts ∙ ap (λ (p : PartSeen). c.parts ++ p ∷ []) part) in
    let within_is : within_behind within bytes ≡ behind = sym (w ∙ ap (within_behind within) is) in
    let place_is : c.place + part_size bytes ≡ d.place = sym (place ∙ ap (λ m. c.place + m) size_is) in
    let left_is : drop (part_size bytes) bytes ≡ next_bytes d (left - count) =
    sym (ap (λ (all : List ℕ). take (left - count) (drop d.place all)) whole ∙ ap (λ p. take (left - count) (drop p c.whole)) place ∙ front_behind c.whole c.place left count le ∙ ap (λ m. drop m bytes) size_is) in
    subst (λ (x : Within). IsCutUpTo form old.place (next_bytes old size) old.parts x d.place (next_bytes d (left - count)) d.parts) within_is
    (subst (λ (x : ℕ). IsCutUpTo form old.place (next_bytes old size) old.parts (within_behind within bytes) x (next_bytes d (left - count)) d.parts) place_is
    (subst (λ (x : List ℕ). IsCutUpTo form old.place (next_bytes old size) old.parts (within_behind within bytes) (c.place + part_size bytes) x d.parts) left_is next))

-- nothing is left
pub done : (form : Form) (first : ℕ) (all : List ℕ) (old : List PartSeen) (within : Within) (place left : ℕ) (rest : List ℕ) (now : List PartSeen)
    → IsCutUpTo form first all old within place (take left rest) now → left ≡ 0 → AddsBody form first all old now
done form first all old within place left rest now before none = record {
  added = before.added;
  are = before.are;
  body = subst (λ (ps : List PartSeen). AreBody form at_first first all ps) (append-nil before.added) (before.goes_on [] (ap (λ n. take n rest) none));
}

-- no bytes have no parts
pub no_body : (form : Form) (within : Within) (place : ℕ) (body : List PartSeen) → AreBody form within place [] body → body ≡ []
no_body form within place [] h = refl
no_body form within place (p ∷ ps) h = absurd (omega (arith, h.0))

-- a body after a header
behind_header : (form : Form) (old mid : Cut) (size left : ℕ) (body : List PartSeen) → mid.whole ≡ old.whole → left ≡ size - width_of (header_rows form) → mid.place + left ≡ old.place + size
    → AreBody form at_first mid.place (next_bytes mid left) body
    → AreBody form at_first (old.place + width_of (header_rows form)) (drop (width_of (header_rows form)) (next_bytes old size)) body
behind_header form old mid size left body whole l place h =
    let width : ℕ = width_of (header_rows form) in
    let bytes : List ℕ = next_bytes old size in
    elim (either width size) [
      | inl fits ↦
          let place_is : mid.place ≡ old.place + width = omega arith in
          let left_is : next_bytes mid left ≡ drop width bytes =
          ap (λ (w : List ℕ). take left (drop mid.place w)) whole ∙ ap (λ p. take left (drop p old.whole)) place_is ∙ ap (λ n. take n (drop (old.place + width) old.whole)) l ∙ front_behind old.whole old.place size width fits in
          subst (λ (x : List ℕ). AreBody form at_first (old.place + width) x body) left_is (subst (λ (x : ℕ). AreBody form at_first x (next_bytes mid left) body) place_is h)
      | inr short ↦
          let none : left ≡ 0 = omega arith in
          let no_bytes : next_bytes mid left ≡ [] = ap (λ n. take n (drop mid.place mid.whole)) none in
          let nothing : body ≡ [] = no_body form at_first mid.place body (subst (λ (x : List ℕ). AreBody form at_first mid.place x body) no_bytes h) in
          let all : drop width bytes ≡ [] = drop_all width bytes (omega (arith, length-take size (drop old.place old.whole))) in
          subst (λ (x : List PartSeen). AreBody form at_first (old.place + width) (drop width bytes) x) (sym nothing) all
    ]

adds_transmission : (form : Form) (old mid new : Cut) (size left : ℕ) → mid.whole ≡ old.whole → left ≡ size - width_of (header_rows form) → mid.place + left ≡ old.place + size
    → mid.parts ≡ old.parts ++ head_parts (header_rows form) old.place (next_bytes old size) → AddsBody form mid.place (next_bytes mid left) mid.parts new.parts
    → AddsTransmission form old.place (next_bytes old size) old.parts new.parts
adds_transmission form old mid new size left whole l place parts adds =
    let head : List PartSeen = head_parts (header_rows form) old.place (next_bytes old size) in
    record {
      added = head ++ adds.added;
      are = adds.are ∙ ap (λ (ps : List PartSeen). ps ++ adds.added) parts ∙ append_assoc old.parts head adds.added;
      transmission = record { body = adds.added; are = refl; behind = behind_header form old mid size left adds.added whole l place adds.body };
    }

-- the same, where the body was cut
pub transmission_cut : (form : Form) (old mid new : Cut) (size left : ℕ) (r : Result (Unit {0}) AllocError) → mid.whole ≡ old.whole → left ≡ size - width_of (header_rows form) → mid.place + left ≡ old.place + size
    → mid.parts ≡ old.parts ++ head_parts (header_rows form) old.place (next_bytes old size) → OnOk r (AddsBody form mid.place (next_bytes mid left) mid.parts new.parts)
    → OnOk r (AddsTransmission form old.place (next_bytes old size) old.parts new.parts)
transmission_cut form old mid new size left (Ok u) whole l place parts adds = adds_transmission form old mid new size left whole l place parts adds
transmission_cut form old mid new size left (Err e) whole l place parts adds = tt

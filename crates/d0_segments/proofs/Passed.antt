-- What is passed over, and what a check that passed over everything knows.
use Rattle.std.proofs.Common.{◌≡◌, ℕ, ◌+◌, ◌-◌, ◌<◌, Bool, true, false, cond, eqb, ◌&&◌, List, [], ◌∷◌, ◌++◌, length, drop, Some, None, refl, sym, ap, ◌∙◌, arith, length-append}
use Rattle.d0_segments.specs.declared.fault.FramingFault.{FramingFault}
use Rattle.d0_segments.specs.declared.fault.FramingFault.TheVariants.{CountMismatch}
use Rattle.d0_segments.specs.declared.field.Field.{Field}
use Rattle.d0_segments.specs.declared.tail.Tail.{Tail}
use Rattle.d0_segments.specs.Separators.{is_id, ends_here}
use Rattle.d0_segments.specs.Parts.{SegmentParts}
use Rattle.d0_segments.specs.Texts.{field_text}
use Rattle.d0_segments.specs.Views.{field_parts}
use Rattle.d0_segments.specs.Faults.{first_fault, or_else, count_groups}
use Rattle.d0_segments.specs.Pieces.{shared_of, groups_of}
use Rattle.d0_segments.specs.Framing.{HeaderKind, count_fault, body_fault, after_header, framing_fault, unless, transmission_of}
use Rattle.d0_segments.specs.Taking.{Takes}
use Rattle.d0_segments.specs.Passing.{Passes}
use Rattle.d0_segments.proofs.Walking.{walk_field, carried}
use Rattle.d0_segments.proofs.Typed.{field_typed}
use Rattle.d0_segments.proofs.Taken.{entered_segment}
use Rattle.d0_segments.proofs.Cutting.{lacks, lacks-head, lacks-cons, inner, inner_lacks, name_lacks}

-- no group begins in bytes without a group separator
count_over_byte : (t : Bool) (n m : ℕ) → t ≡ false → n ≡ m → cond t 1 0 + n ≡ m
count_over_byte true n m e h = absurd cc
count_over_byte false n m e h = omega (arith, h)

count_over : (xs rest : List ℕ) → lacks 29 xs ≡ true → count_groups (xs ++ rest) ≡ count_groups rest
count_over [] rest e = refl
count_over (x ∷ xs) rest e =
    let parts = lacks-head 29 x xs e in
    count_over_byte (eqb x 29) (count_groups (xs ++ rest)) (count_groups rest) parts.0 (count_over xs rest parts.1)

shorter_by : (text before after : List ℕ) → before ≡ text ++ after → 0 < length text → length after < length before
shorter_by text before after e some = omega (arith, ap length e, length-append text after, some)

pub passes_field : (a b : Tail) (f : Field) → Takes a (field_text (field_parts f)) b → ends_here b.bytes.now ≡ true → Passes a 0 b
passes_field a b f t ends =
    let p = field_parts f in
    let typed = field_typed f in
    let count : count_groups a.bytes.now ≡ count_groups b.bytes.now = ap count_groups t.parts ∙ count_over (field_text p) b.bytes.now (lacks-cons 29 28 (inner p) refl (inner_lacks p typed).group) in
    record {
      fault = carried a.end a.bytes.now (field_text p) b.bytes.now t.parts a.within (λ at. walk_field p b.bytes.now at typed) ∙ ap (λ e. first_fault 0 (e - length b.bytes.now) b.bytes.now) (sym t.end);
      count = omega (arith, count);
      few = omega arith;
      shorter = shorter_by (field_text p) a.bytes.now b.bytes.now t.parts (omega arith);
      ends = ends;
    }

pub passes_segment : (a b : Tail) (x y : ℕ) → Takes a (30 ∷ 28 ∷ 65 ∷ 77 ∷ x ∷ y ∷ []) b → is_id (x ∷ y ∷ []) ≡ true → ends_here b.bytes.now ≡ true → Passes a 0 b
passes_segment a b x y t id ends =
    let s : SegmentParts = record { id = x ∷ y ∷ []; fields = [] } in
    let lack = lacks-cons 29 30 (28 ∷ 65 ∷ 77 ∷ x ∷ y ∷ []) refl (lacks-cons 29 28 (65 ∷ 77 ∷ x ∷ y ∷ []) refl (name_lacks s (ap (λ u. u && true) id)).group) in
    let count : count_groups a.bytes.now ≡ count_groups b.bytes.now = ap count_groups t.parts ∙ count_over (30 ∷ 28 ∷ 65 ∷ 77 ∷ x ∷ y ∷ []) b.bytes.now lack in
    record {
      fault = entered_segment a b x y t id ends;
      count = omega (arith, count);
      few = omega arith;
      shorter = shorter_by (30 ∷ 28 ∷ 65 ∷ 77 ∷ x ∷ y ∷ []) a.bytes.now b.bytes.now t.parts (omega arith);
      ends = ends;
    }

-- the fault of all the bytes
module _ {H : Type 0} (kind : HeaderKind H) (bytes body : List ℕ) (place : ℕ) (passes : kind.fault bytes ≡ None) (is : body ≡ drop kind.size bytes) (at : place ≡ kind.size) where
  from_body : framing_fault kind bytes ≡ or_else (first_fault 29 place body) (count_fault (kind.said (kind.header_of bytes)) (count_groups body))
  unfolding framing_fault
  from_body =
      ap (λ o. after_header o (body_fault (kind.said (kind.header_of bytes)) kind.size (drop kind.size bytes))) passes
      ∙ ap (λ b. body_fault (kind.said (kind.header_of bytes)) kind.size b) (sym is)
      ∙ ap (λ p. body_fault (kind.said (kind.header_of bytes)) p body) (sym at)

  pub body_told : (e : FramingFault) → first_fault 29 place body ≡ Some e → framing_fault kind bytes ≡ Some e
  body_told e h = from_body ∙ ap (λ o. or_else o (count_fault (kind.said (kind.header_of bytes)) (count_groups body))) h

  pub count_told : (h : H) (found : ℕ) → h ≡ kind.header_of bytes → first_fault 29 place body ≡ None → found ≡ count_groups body → framing_fault kind bytes ≡ count_fault (kind.said h) found
  count_told h found e none counted =
      from_body ∙ ap (λ o. or_else o (count_fault (kind.said (kind.header_of bytes)) (count_groups body))) none
      ∙ ap (λ n. count_fault (kind.said (kind.header_of bytes)) n) (sym counted) ∙ ap (λ k. count_fault (kind.said k) found) (sym e)

pub differ : (said found : ℕ) → eqb said found ≡ false → count_fault said found ≡ Some (CountMismatch said found)
differ said found e = ap (λ t. cond t None (Some (CountMismatch said found))) e

pub agree : (said found : ℕ) → eqb said found ≡ true → count_fault said found ≡ None
agree said found e = ap (λ t. cond t None (Some (CountMismatch said found))) e

-- the parts of bytes without a fault
pub spelled_by : {H : Type 0} (kind : HeaderKind H) (bytes body : List ℕ) (h : H) → h ≡ kind.header_of bytes → body ≡ drop kind.size bytes → framing_fault kind bytes ≡ None
    → transmission_of kind bytes ≡ Some (record { header = h; shared = shared_of body; groups = groups_of body })
unfolding transmission_of
spelled_by kind bytes body h e is none =
    ap (λ o. unless o (record { header = kind.header_of bytes; shared = shared_of (drop kind.size bytes); groups = groups_of (drop kind.size bytes) })) none
    ∙ rw (e, is) refl

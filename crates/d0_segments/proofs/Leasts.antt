-- The first fault is the one with the least place.
use Rattle.std.proofs.Common.{◌≡◌, ℕ, zero, suc, ◌+◌, ◌<◌, Bool, true, false, not, cond, eqb, ◌&&◌, List, [], ◌∷◌, length, get_or, drop, Option, Some, None, refl, sym, ap, subst, ◌∙◌, arith, inl, inr, ◌⊎◌}
use Rattle.std.proofs.lemmas.Bool.{eqb-true}
use Rattle.d0_segments.specs.declared.fault.FramingFault.{FramingFault}
use Rattle.d0_segments.specs.declared.fault.FramingFault.TheVariants.{OutOfMemory, Header, NoSegmentStart, NoSegmentId, BadFieldId, EmptyGroup, CountMismatch}
use Rattle.d0_segments.specs.Separators.{ends_group}
use Rattle.d0_segments.specs.Faults.{starts_nothing, is_empty_group, has_segment_id, has_field_id, is_later_field, fault_at, or_else, first_fault}
use Rattle.d0_segments.specs.Least.{Stands, byte_before, StandsIn, IsLeast}
use Rattle.d0_segments.proofs.Walking.{both, not_true}
use Rattle.d0_segments.proofs.Faultless.{neither}

-- a chain of four tests
abbrev chain : (place : ℕ) (a b c d : Bool) → Option FramingFault
chain place a b c d = cond a (Some (NoSegmentStart place)) (cond b (Some (EmptyGroup place)) (cond c (Some (NoSegmentId place)) (cond d (Some (BadFieldId place)) None)))

-- what the chain answers is a row whose test holds
abbrev Holds : (place : ℕ) (a b c d : Bool) → FramingFault → Type 0
Holds place a b c d (NoSegmentStart at) = (at ≡ place) × (a ≡ true)
Holds place a b c d (EmptyGroup at) = (at ≡ place) × (b ≡ true)
Holds place a b c d (NoSegmentId at) = (at ≡ place) × (c ≡ true)
Holds place a b c d (BadFieldId at) = (at ≡ place) × (d ≡ true)
Holds place a b c d _ = ⊥

some_is : (f g : FramingFault) → (let o : Option FramingFault = Some f in o) ≡ Some g → f ≡ g
some_is f g e = cc

chain_holds : (place : ℕ) (a b c d : Bool) (f g : FramingFault) → chain place a b c d ≡ Some g → g ≡ f → Holds place a b c d f
chain_holds place true b c d f g e same = subst (Holds place true b c d) (some_is (NoSegmentStart place) g e ∙ same) (refl, refl)
chain_holds place false true c d f g e same = subst (Holds place false true c d) (some_is (EmptyGroup place) g e ∙ same) (refl, refl)
chain_holds place false false true d f g e same = subst (Holds place false false true d) (some_is (NoSegmentId place) g e ∙ same) (refl, refl)
chain_holds place false false false true f g e same = subst (Holds place false false false true) (some_is (BadFieldId place) g e ∙ same) (refl, refl)
chain_holds place false false false false f g e same = absurd cc

-- the fault that is told stands there
at_stands : (before place byte : ℕ) (behind : List ℕ) (f : FramingFault) → Holds place (starts_nothing before byte) (is_empty_group byte behind) (eqb byte 30 && not (has_segment_id behind)) (is_later_field before byte && not (has_field_id behind)) f
    → Stands before place byte behind f
at_stands before place byte behind (NoSegmentStart at) h = h
at_stands before place byte behind (EmptyGroup at) h = h
at_stands before place byte behind (NoSegmentId at) h =
    let parts = both (eqb byte 30) (not (has_segment_id behind)) h.1 in
    (h.0, eqb-true byte 30 parts.0, not_true (has_segment_id behind) parts.1)
at_stands before place byte behind (BadFieldId at) h =
    let parts = both (is_later_field before byte) (not (has_field_id behind)) h.1 in
    (h.0, parts.0, not_true (has_field_id behind) parts.1)
at_stands before place byte behind OutOfMemory h = h
at_stands before place byte behind (Header x) h = h
at_stands before place byte behind (CountMismatch x y) h = h

pub told_stands : (before place byte : ℕ) (behind : List ℕ) (f : FramingFault) → fault_at before place byte behind ≡ Some f → Stands before place byte behind f
told_stands before place byte behind f e =
    at_stands before place byte behind f (chain_holds place (starts_nothing before byte) (is_empty_group byte behind) (eqb byte 30 && not (has_segment_id behind)) (is_later_field before byte && not (has_field_id behind)) f f e refl)

-- what stands there is told
pub stands_told : (before place byte : ℕ) (behind : List ℕ) (f : FramingFault) → Stands before place byte behind f → fault_at before place byte behind ≡ Some f
stands_told before place byte behind (NoSegmentStart at) h = rw (h.0, h.1) refl
stands_told before place byte behind (EmptyGroup at) h =
    let parts = both (eqb byte 29) (ends_group behind) h.1 in
    let is : byte ≡ 29 = eqb-true byte 29 parts.0 in
    rw (h.0, is, parts.1) refl
stands_told before place byte behind (NoSegmentId at) h = rw (h.0, h.1, h.2) refl
stands_told before place byte behind (BadFieldId at) h =
    let parts = both (eqb byte 28 && not (eqb before 30)) (not (eqb before 29)) h.1 in
    let first = both (eqb byte 28) (not (eqb before 30)) parts.0 in
    let is : byte ≡ 28 = eqb-true byte 28 first.0 in
    let no_group : eqb before 29 ≡ false = not_true (eqb before 29) parts.1 in
    let no_segment : eqb before 30 ≡ false = not_true (eqb before 30) first.1 in
    rw (h.0, is, no_group, no_segment, h.2) refl
stands_told before place byte behind OutOfMemory h = absurd h
stands_told before place byte behind (Header x) h = absurd h
stands_told before place byte behind (CountMismatch x y) h = absurd h

-- one place further
shifted : (offset k : ℕ) → offset + 1 + k ≡ offset + suc k
shifted offset k = omega arith

front_of : (x : ℕ) (text : List ℕ) (k : ℕ) → k < suc (length text) → byte_before x text k ≡ get_or (x ∷ text) k 0
front_of x text zero lt = refl
front_of x text (suc k) lt = refl

further : (front offset x : ℕ) (text : List ℕ) (k : ℕ) (f : FramingFault) → StandsIn x (offset + 1) text k f → StandsIn front offset (x ∷ text) (suc k) f
further front offset x text k f h =
    let here : Stands (get_or (x ∷ text) k 0) (offset + 1 + k) (get_or text k 0) (drop (suc k) text) f = subst (λ b. Stands b (offset + 1 + k) (get_or text k 0) (drop (suc k) text) f) (front_of x text k (omega arith)) h.1 in
    (omega arith, subst (λ p. Stands (get_or (x ∷ text) k 0) p (get_or text k 0) (drop (suc k) text) f) (shifted offset k) here)

back : (front offset x : ℕ) (text : List ℕ) (k : ℕ) (f : FramingFault) → StandsIn front offset (x ∷ text) (suc k) f → StandsIn x (offset + 1) text k f
back front offset x text k f h =
    let lt : k < length text = omega arith in
    let here : Stands (get_or (x ∷ text) k 0) (offset + 1 + k) (get_or text k 0) (drop (suc k) text) f = subst (λ p. Stands (get_or (x ∷ text) k 0) p (get_or text k 0) (drop (suc k) text) f) (sym (shifted offset k)) h.1 in
    (lt, subst (λ b. Stands b (offset + 1 + k) (get_or text k 0) (drop (suc k) text) f) (sym (front_of x text k (omega arith))) here)

offset_zero : (offset : ℕ) → offset ≡ offset + 0
offset_zero offset = omega arith

is_nothing : {A : Type 0} (o : Option A) → ((f : A) → o ≡ Some f → ⊥) → o ≡ None
is_nothing None h = refl
is_nothing (Some f) h = absurd (h f refl)

-- what stands at the first byte
at_first : (front offset x : ℕ) (text : List ℕ) (f : FramingFault) → fault_at front offset x text ≡ Some f → StandsIn front offset (x ∷ text) 0 f
at_first front offset x text f e =
    (omega arith, subst (λ p. Stands front p x text f) (offset_zero offset) (told_stands front offset x text f e))

first_at : (front offset x : ℕ) (text : List ℕ) (f : FramingFault) → StandsIn front offset (x ∷ text) 0 f → fault_at front offset x text ≡ Some f
first_at front offset x text f h = stands_told front offset x text f (subst (λ p. Stands front p x text f) (sym (offset_zero offset)) h.1)

none_some : {A : Type 0} (f : A) (o : Option A) → o ≡ None → o ≡ Some f → ⊥
none_some f o e h = let x : None ≡ Some f = sym e ∙ h in cc

pub none_stands : (front offset : ℕ) (text : List ℕ) → first_fault front offset text ≡ None → (k : ℕ) (f : FramingFault) → StandsIn front offset text k f → ⊥
none_stands front offset [] e k f h = omega (arith, h.0)
none_stands front offset (x ∷ text) e zero f h =
    let p = neither (fault_at front offset x text) (first_fault x (offset + 1) text) e in
    none_some f (fault_at front offset x text) p.0 (first_at front offset x text f h)
none_stands front offset (x ∷ text) e (suc k) f h =
    let p = neither (fault_at front offset x text) (first_fault x (offset + 1) text) e in
    none_stands x (offset + 1) text p.1 k f (back front offset x text k f h)

-- a search that answers something answers it at a byte or after it
answered : (o later : Option FramingFault) (f : FramingFault) → or_else o later ≡ Some f → (o ≡ Some f) ⊎ ((o ≡ None) × (later ≡ Some f))
answered (Some g) later f e = inl e
answered None later f e = inr (refl, e)

least_here : (front offset x : ℕ) (text : List ℕ) (f : FramingFault) → fault_at front offset x text ≡ Some f → IsLeast front offset (x ∷ text) f
least_here front offset x text f e = record { place = 0; stands = at_first front offset x text f e; before = λ k g lt h. omega (arith, lt) }

before_later : (front offset x : ℕ) (text : List ℕ) (place : ℕ) → fault_at front offset x text ≡ None → ((k : ℕ) (g : FramingFault) → k < place → StandsIn x (offset + 1) text k g → ⊥)
    → (k : ℕ) (g : FramingFault) → k < suc place → StandsIn front offset (x ∷ text) k g → ⊥
before_later front offset x text place none before zero g lt h = none_some g (fault_at front offset x text) none (first_at front offset x text g h)
before_later front offset x text place none before (suc k) g lt h = before k g (omega arith) (back front offset x text k g h)

least_later : (front offset x : ℕ) (text : List ℕ) (f : FramingFault) → fault_at front offset x text ≡ None → IsLeast x (offset + 1) text f → IsLeast front offset (x ∷ text) f
least_later front offset x text f none l = record {
  place = suc l.place;
  stands = further front offset x text l.place f l.stands;
  before = before_later front offset x text l.place none l.before;
}

pub least : (front offset : ℕ) (text : List ℕ) (f : FramingFault) → first_fault front offset text ≡ Some f → IsLeast front offset text f
least front offset [] f e = absurd cc
least front offset (x ∷ text) f e =
    elim (answered (fault_at front offset x text) (first_fault x (offset + 1) text) f e) [
      | inl here ↦ least_here front offset x text f here
      | inr later ↦ least_later front offset x text f later.0 (least x (offset + 1) text f later.1)
    ]

-- the least one is told
told_of : (front offset : ℕ) (text : List ℕ) (f : FramingFault) (place : ℕ) → StandsIn front offset text place f → ((k : ℕ) (g : FramingFault) → k < place → StandsIn front offset text k g → ⊥) → first_fault front offset text ≡ Some f
told_of front offset [] f place stands before = absurd (omega (arith, stands.0))
told_of front offset (x ∷ text) f zero stands before = ap (λ o. or_else o (first_fault x (offset + 1) text)) (first_at front offset x text f stands)
told_of front offset (x ∷ text) f (suc place) stands before =
    let nothing : fault_at front offset x text ≡ None = is_nothing (fault_at front offset x text) (λ g e. before 0 g (omega arith) (at_first front offset x text g e)) in
    ap (λ o. or_else o (first_fault x (offset + 1) text)) nothing
    ∙ told_of x (offset + 1) text f place (back front offset x text place f stands) (λ k g lt h. before (suc k) g (omega arith) (further front offset x text k g h))

pub told : (front offset : ℕ) (text : List ℕ) (f : FramingFault) → IsLeast front offset text f → first_fault front offset text ≡ Some f
told front offset text f l = told_of front offset text f l.place l.stands l.before

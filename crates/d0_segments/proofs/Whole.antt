-- A header and what stands after it, as one.
use Rattle.std.proofs.Common.{◌≡◌, ℕ, Bool, true, false, cond, eqb, List, ◌++◌, drop, length, Option, Some, None, Result, Ok, Err, refl, sym, ap, subst, ◌∙◌}
use Rattle.std.specs.Prelude.{IfOk, IfErr, MatchResult}
use Rattle.std.proofs.lemmas.Bool.{eq-eqb, eqb-true}
use Rattle.std.proofs.lemmas.List.{drop_at}
use Rattle.d0_header.specs.declared.fault.HeaderFault.{HeaderFault}
use Rattle.d0_segments.specs.declared.fault.FramingFault.{FramingFault}
use Rattle.d0_segments.specs.declared.fault.FramingFault.TheVariants.{OutOfMemory, Header, CountMismatch}
use Rattle.d0_segments.specs.Parts.{SegmentParts, TransmissionParts, are_segments, are_groups}
use Rattle.d0_segments.specs.Texts.{body_text}
use Rattle.d0_segments.specs.Faults.{first_fault, or_else, count_groups, Fails}
use Rattle.d0_segments.specs.Pieces.{shared_of, groups_of}
use Rattle.d0_segments.specs.Framing.{HeaderKind, IsFramed, transmission_text, count_fault, body_fault, after_header, framing_fault, unless, transmission_of}
use Rattle.d0_segments.proofs.Walking.{walk_body}
use Rattle.d0_segments.proofs.Cutting.{shared_again, groups_again, count_in_body}

some_is : {A : Type 0} (x y : A) → (let o : Option A = Some x in o) ≡ Some y → x ≡ y
some_is x y e = cc

pub header_fails : {H : Type 0} (kind : HeaderKind H) (bytes : List ℕ) (fault : HeaderFault) → kind.fault bytes ≡ Some fault → framing_fault kind bytes ≡ Some (Header fault)
unfolding framing_fault
header_fails kind bytes fault e = ap (λ o. after_header o (body_fault (kind.said (kind.header_of bytes)) kind.size (drop kind.size bytes))) e

fails_first : (e : FramingFault) (found later : Option FramingFault) → Fails e found → Fails e (or_else found later)
fails_first OutOfMemory found later h = tt
fails_first e found later h = ap (λ o. or_else o later) h

pub body_fails : {H : Type 0} (kind : HeaderKind H) (bytes body : List ℕ) (place : ℕ) (e : FramingFault) → kind.fault bytes ≡ None → body ≡ drop kind.size bytes → place ≡ kind.size
    → Fails e (first_fault 29 place body) → Fails e (framing_fault kind bytes)
unfolding framing_fault
body_fails kind bytes body place e passes is at h =
    let said = kind.said (kind.header_of bytes) in
    let here : Fails e (first_fault 29 kind.size (drop kind.size bytes)) = subst (λ b. Fails e (first_fault 29 kind.size b)) is (subst (λ p. Fails e (first_fault 29 p body)) at h) in
    let later : Fails e (body_fault said kind.size (drop kind.size bytes)) = fails_first e (first_fault 29 kind.size (drop kind.size bytes)) (count_fault said (count_groups (drop kind.size bytes))) here in
    subst (λ o. Fails e (after_header o (body_fault said kind.size (drop kind.size bytes)))) (sym passes) later

-- bytes with a header, and a body that is the text of these parts
pub record IsRead {H : Type 0} (kind : HeaderKind H) (bytes : List ℕ) (h : H) (ss : List SegmentParts) (gs : List (List SegmentParts)) : Type 0 where
  pub passes : kind.fault bytes ≡ None
  pub header : h ≡ kind.header_of bytes
  pub body : drop kind.size bytes ≡ body_text ss gs
  pub shared : are_segments ss ≡ true
  pub groups : are_groups gs ≡ true

only_count : {H : Type 0} (kind : HeaderKind H) (bytes : List ℕ) (h : H) (ss : List SegmentParts) (gs : List (List SegmentParts)) → IsRead kind bytes h ss gs
    → framing_fault kind bytes ≡ count_fault (kind.said h) (length gs)
unfolding framing_fault
only_count kind bytes h ss gs r =
    let walked : first_fault 29 kind.size (drop kind.size bytes) ≡ None = ap (first_fault 29 kind.size) r.body ∙ walk_body ss gs kind.size r.shared r.groups in
    let counted : count_groups (drop kind.size bytes) ≡ length gs = ap count_groups r.body ∙ count_in_body ss gs r.shared r.groups in
    ap (λ o. after_header o (body_fault (kind.said (kind.header_of bytes)) kind.size (drop kind.size bytes))) r.passes
    ∙ ap (λ o. or_else o (count_fault (kind.said (kind.header_of bytes)) (count_groups (drop kind.size bytes)))) walked
    ∙ ap (λ n. count_fault (kind.said (kind.header_of bytes)) n) counted
    ∙ ap (λ k. count_fault (kind.said k) (length gs)) (sym r.header)

pub mismatched : {H : Type 0} (kind : HeaderKind H) (bytes : List ℕ) (h : H) (ss : List SegmentParts) (gs : List (List SegmentParts)) → IsRead kind bytes h ss gs → eqb (kind.said h) (length gs) ≡ false
    → framing_fault kind bytes ≡ Some (CountMismatch (kind.said h) (length gs))
mismatched kind bytes h ss gs r differ = only_count kind bytes h ss gs r ∙ ap (λ t. cond t None (Some (CountMismatch (kind.said h) (length gs)))) differ

pub faultless : {H : Type 0} (kind : HeaderKind H) (bytes : List ℕ) (h : H) (ss : List SegmentParts) (gs : List (List SegmentParts)) → IsRead kind bytes h ss gs → kind.said h ≡ length gs
    → framing_fault kind bytes ≡ None
faultless kind bytes h ss gs r same = only_count kind bytes h ss gs r ∙ ap (λ t. cond t None (Some (CountMismatch (kind.said h) (length gs)))) (eq-eqb (kind.said h) (length gs) same)

pub spelled : {H : Type 0} (kind : HeaderKind H) (bytes : List ℕ) (h : H) (ss : List SegmentParts) (gs : List (List SegmentParts)) → IsRead kind bytes h ss gs → kind.said h ≡ length gs
    → transmission_of kind bytes ≡ Some (record { header = h; shared = ss; groups = gs })
unfolding transmission_of
spelled kind bytes h ss gs r same =
    let shared : shared_of (drop kind.size bytes) ≡ ss = ap shared_of r.body ∙ shared_again ss gs r.shared r.groups in
    let groups : groups_of (drop kind.size bytes) ≡ gs = ap groups_of r.body ∙ groups_again ss gs r.shared r.groups in
    ap (λ o. unless o (record { header = kind.header_of bytes; shared = shared_of (drop kind.size bytes); groups = groups_of (drop kind.size bytes) })) (faultless kind bytes h ss gs r same)
    ∙ rw (shared, groups, ← r.header) refl

is_false : (b : Bool) → (b ≡ true → ⊥) → b ≡ false
is_false true h = absurd (h refl)
is_false false h = refl

pub differs : (a b : ℕ) → (a ≡ b → ⊥) → eqb a b ≡ false
differs a b h = is_false (eqb a b) (λ t. h (eqb-true a b t))

-- bytes that are the text of a well-formed transmission
module _ {H : Type 0} (sound : H → Type 0) (kind : HeaderKind H) (width : (h : H) → sound h → length (kind.text h) ≡ kind.size)
    (passes : (h : H) (rest : List ℕ) → sound h → kind.fault (kind.text h ++ rest) ≡ None) (cut : (h : H) (rest : List ℕ) → sound h → kind.header_of (kind.text h ++ rest) ≡ h) where
  pub is_read : (t : TransmissionParts H) → IsFramed sound kind t → IsRead kind (transmission_text kind t) t.header t.shared t.groups
  is_read t framed = record {
    passes = passes t.header (body_text t.shared t.groups) framed.header;
    header = sym (cut t.header (body_text t.shared t.groups) framed.header);
    body = drop_at (kind.text t.header) (body_text t.shared t.groups) kind.size (width t.header framed.header);
    shared = framed.shared;
    groups = framed.groups;
  }

  pub again : (t : TransmissionParts H) → IsFramed sound kind t → transmission_of kind (transmission_text kind t) ≡ Some t
  again t framed = spelled kind (transmission_text kind t) t.header t.shared t.groups (is_read t framed) framed.count

  pub one_text : (t u : TransmissionParts H) → IsFramed sound kind t → IsFramed sound kind u → transmission_text kind t ≡ transmission_text kind u → t ≡ u
  one_text t u first second same = some_is t u (sym (again t first) ∙ ap (transmission_of kind) same ∙ again u second)

  -- it has no fault
  pub no_fault : (t : TransmissionParts H) → IsFramed sound kind t → framing_fault kind (transmission_text kind t) ≡ None
  no_fault t framed = faultless kind (transmission_text kind t) t.header t.shared t.groups (is_read t framed) framed.count

faultless_of : {A : Type 0} (o : Option FramingFault) (x t : A) → unless o x ≡ Some t → o ≡ None
faultless_of (Some fault) x t e = absurd cc
faultless_of None x t e = refl

fails_none : (e : FramingFault) → Fails e None → e ≡ OutOfMemory
fails_none OutOfMemory h = refl
fails_none e h = absurd cc

pub read_faultless : {H : Type 0} (kind : HeaderKind H) (bytes : List ℕ) (t : TransmissionParts H) → transmission_of kind bytes ≡ Some t → framing_fault kind bytes ≡ None
unfolding transmission_of
read_faultless kind bytes t e = faultless_of (framing_fault kind bytes) (record { header = kind.header_of bytes; shared = shared_of (drop kind.size bytes); groups = groups_of (drop kind.size bytes) }) t e

pub only : {A H : Type 0} (kind : HeaderKind H) (view : A → TransmissionParts H) (bytes : List ℕ) (r : Result A FramingFault)
    → IfOk r (λ x. transmission_of kind bytes ≡ Some (view x)) → IfErr r (λ e. Fails e (framing_fault kind bytes)) → (t : TransmissionParts H) → transmission_of kind bytes ≡ Some t
    → MatchResult r (λ x. view x ≡ t) (λ e. e ≡ OutOfMemory)
only kind view bytes (Ok x) ok err t e = some_is (view x) t (sym ok ∙ e)
only kind view bytes (Err f) ok err t e = fails_none f (subst (Fails f) (read_faultless kind bytes t e) err)

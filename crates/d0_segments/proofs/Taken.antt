-- What readers take, one after the other.
use Rattle.std.proofs.Common.{◌≡◌, ℕ, ◌+◌, ◌-◌, ◌<◌, Bool, true, false, not, eqb, List, [], ◌∷◌, ◌++◌, ◌&&◌, map, length, drop, Option, Some, refl, sym, ap, subst, ◌∙◌, arith, append_assoc, length-append}
use Rattle.std.proofs.lemmas.List.{append-nil, map_push}
use Rattle.std.proofs.lemmas.Bool.{eqb-true}
use Rattle.std.specs.Global.{Vec}
use Rattle.d0_segments.specs.declared.fault.FramingFault.{FramingFault}
use Rattle.d0_segments.specs.declared.fault.FramingFault.TheVariants.{OutOfMemory, NoSegmentId, BadFieldId}
use Rattle.d0_segments.specs.declared.field.Field.{Field}
use Rattle.d0_segments.specs.declared.segment.Segment.{Segment}
use Rattle.d0_segments.specs.declared.tail.Tail.{Tail}
use Rattle.d0_segments.specs.Separators.{is_separator, is_id, ends_here, ends_segment, ends_group, begins_with}
use Rattle.d0_segments.specs.Parts.{FieldParts, SegmentParts, is_group, are_groups}
use Rattle.d0_segments.specs.Texts.{field_text, fields_text, segment_text, segments_text, group_text, groups_text}
use Rattle.d0_segments.specs.Views.{field_parts, segment_parts, segments_parts, groups_parts}
use Rattle.d0_segments.specs.Faults.{first_fault, Fails, has_segment_id, has_field_id}
use Rattle.d0_segments.specs.Address.{beyond}
use Rattle.d0_segments.specs.Lending.{FieldsLie, SegmentsLie, GroupsLie}
use Rattle.d0_segments.specs.Taking.{Takes, IsIdentified, fault_in, fault_behind_header}
use Rattle.d0_segments.proofs.Walking.{both, not_true, walk_fields, walk_segments, walk_groups, carried, anywhere, segment_start}
use Rattle.d0_segments.proofs.Typed.{fields_typed, segments_typed}

pub beyond-twice : (at : ℕ × ℕ) (m n : ℕ) → beyond (beyond at m) n ≡ beyond at (m + n)
beyond-twice at m n = ap (λ k. (at.0, k)) (omega arith)

pub Takes-then : (a b c : Tail) (x y : List ℕ) → Takes a x b → Takes b y c → Takes a (x ++ y) c
Takes-then a b c x y p q = record {
  parts = p.parts ∙ ap (λ t. x ++ t) q.parts ∙ sym (append_assoc x y c.bytes.now);
  address = q.address ∙ ap (λ at. beyond at (length y)) p.address ∙ beyond-twice a.bytes.ref_ptr (length x) (length y) ∙ ap (beyond a.bytes.ref_ptr) (sym (length-append x y));
  end = q.end ∙ p.end;
}

-- one more at the end
fields_text-push : (fs : List FieldParts) (f : FieldParts) → fields_text (fs ++ f ∷ []) ≡ fields_text fs ++ field_text f
fields_text-push [] f = append-nil (field_text f)
fields_text-push (g ∷ fs) f = ap (λ t. field_text g ++ t) (fields_text-push fs f) ∙ sym (append_assoc (field_text g) (fields_text fs) (field_text f))

segments_text-push : (ss : List SegmentParts) (s : SegmentParts) → segments_text (ss ++ s ∷ []) ≡ segments_text ss ++ segment_text s
segments_text-push [] s = append-nil (segment_text s)
segments_text-push (r ∷ ss) s = ap (λ t. segment_text r ++ t) (segments_text-push ss s) ∙ sym (append_assoc (segment_text r) (segments_text ss) (segment_text s))

groups_text-push : (gs : List (List SegmentParts)) (g : List SegmentParts) → groups_text (gs ++ g ∷ []) ≡ groups_text gs ++ group_text g
groups_text-push [] g = append-nil (group_text g)
groups_text-push (h ∷ gs) g = ap (λ t. group_text h ++ t) (groups_text-push gs g) ∙ sym (append_assoc (group_text h) (groups_text gs) (group_text g))

pub fields_text_more : (fs : List Field) (f : Field) → fields_text (map field_parts (fs ++ f ∷ [])) ≡ fields_text (map field_parts fs) ++ field_text (field_parts f)
fields_text_more fs f = ap fields_text (map_push field_parts fs f) ∙ fields_text-push (map field_parts fs) (field_parts f)

pub segments_text_more : (ss : List Segment) (s : Segment) → segments_text (segments_parts (ss ++ s ∷ [])) ≡ segments_text (segments_parts ss) ++ segment_text (segment_parts s)
segments_text_more ss s = ap segments_text (map_push segment_parts ss s) ∙ segments_text-push (segments_parts ss) (segment_parts s)

pub groups_text_more : (gs : List (Vec Segment)) (g : Vec Segment) → groups_text (groups_parts (gs ++ g ∷ [])) ≡ groups_text (groups_parts gs) ++ group_text (segments_parts g.items)
groups_text_more gs g = ap groups_text (map_push (λ (v : Vec Segment). segments_parts v.items) gs g) ∙ groups_text-push (groups_parts gs) (segments_parts g.items)

pub fields_taken : (a b c : Tail) (fs : List Field) (f : Field) → Takes a (fields_text (map field_parts fs)) b → Takes b (field_text (field_parts f)) c
    → Takes a (fields_text (map field_parts (fs ++ f ∷ []))) c
fields_taken a b c fs f p q = rw (fields_text_more fs f) (Takes-then a b c (fields_text (map field_parts fs)) (field_text (field_parts f)) p q)

pub segments_taken : (a b c : Tail) (ss : List Segment) (s : Segment) → Takes a (segments_text (segments_parts ss)) b → Takes b (segment_text (segment_parts s)) c
    → Takes a (segments_text (segments_parts (ss ++ s ∷ []))) c
segments_taken a b c ss s p q = rw (segments_text_more ss s) (Takes-then a b c (segments_text (segments_parts ss)) (segment_text (segment_parts s)) p q)

pub groups_taken : (a b c : Tail) (gs : List (Vec Segment)) (g : Vec Segment) → Takes a (groups_text (groups_parts gs)) b → Takes b (group_text (segments_parts g.items)) c
    → Takes a (groups_text (groups_parts (gs ++ g ∷ []))) c
groups_taken a b c gs g p q = rw (groups_text_more gs g) (Takes-then a b c (groups_text (groups_parts gs)) (group_text (segments_parts g.items)) p q)

-- where they lie
FieldsLie-push : (at : ℕ × ℕ) (fs : List Field) (f : Field) → FieldsLie at fs → f.value.ref_ptr ≡ beyond (beyond at (length (fields_text (map field_parts fs)))) 3 → FieldsLie at (fs ++ f ∷ [])
FieldsLie-push at [] f lie e = (e ∙ beyond-twice at 0 3, tt)
FieldsLie-push at (g ∷ fs) f lie e =
    let n = length (field_text (field_parts g)) in
    let m = length (fields_text (map field_parts fs)) in
    let sum : beyond at (length (field_text (field_parts g) ++ fields_text (map field_parts fs))) ≡ beyond (beyond at n) m = ap (beyond at) (length-append (field_text (field_parts g)) (fields_text (map field_parts fs))) ∙ sym (beyond-twice at n m) in
    (lie.0, FieldsLie-push (beyond at n) fs f lie.1 (e ∙ ap (λ p. beyond p 3) sum))

SegmentsLie-push : (at : ℕ × ℕ) (ss : List Segment) (s : Segment) → SegmentsLie at ss → FieldsLie (beyond (beyond at (length (segments_text (segments_parts ss)))) 6) s.fields.items → SegmentsLie at (ss ++ s ∷ [])
SegmentsLie-push at [] s lie e = (subst (λ p. FieldsLie p s.fields.items) (beyond-twice at 0 6) e, tt)
SegmentsLie-push at (r ∷ ss) s lie e =
    let n = length (segment_text (segment_parts r)) in
    let m = length (segments_text (segments_parts ss)) in
    let sum : beyond at (length (segment_text (segment_parts r) ++ segments_text (segments_parts ss))) ≡ beyond (beyond at n) m = ap (beyond at) (length-append (segment_text (segment_parts r)) (segments_text (segments_parts ss))) ∙ sym (beyond-twice at n m) in
    (lie.0, SegmentsLie-push (beyond at n) ss s lie.1 (subst (λ p. FieldsLie (beyond p 6) s.fields.items) sum e))

GroupsLie-push : (at : ℕ × ℕ) (gs : List (Vec Segment)) (g : Vec Segment) → GroupsLie at gs → SegmentsLie (beyond (beyond at (length (groups_text (groups_parts gs)))) 1) g.items → GroupsLie at (gs ++ g ∷ [])
GroupsLie-push at [] g lie e = (subst (λ p. SegmentsLie p g.items) (beyond-twice at 0 1) e, tt)
GroupsLie-push at (h ∷ gs) g lie e =
    let n = length (group_text (segments_parts h.items)) in
    let m = length (groups_text (groups_parts gs)) in
    let sum : beyond at (length (group_text (segments_parts h.items) ++ groups_text (groups_parts gs))) ≡ beyond (beyond at n) m = ap (beyond at) (length-append (group_text (segments_parts h.items)) (groups_text (groups_parts gs))) ∙ sym (beyond-twice at n m) in
    (lie.0, GroupsLie-push (beyond at n) gs g lie.1 (subst (λ p. SegmentsLie (beyond p 1) g.items) sum e))

pub fields_lie : (a b : Tail) (fs : List Field) (f : Field) → FieldsLie a.bytes.ref_ptr fs → Takes a (fields_text (map field_parts fs)) b → f.value.ref_ptr ≡ beyond b.bytes.ref_ptr 3 → FieldsLie a.bytes.ref_ptr (fs ++ f ∷ [])
fields_lie a b fs f lie t e = FieldsLie-push a.bytes.ref_ptr fs f lie (e ∙ ap (λ p. beyond p 3) t.address)

pub segments_lie : (a b : Tail) (ss : List Segment) (s : Segment) → SegmentsLie a.bytes.ref_ptr ss → Takes a (segments_text (segments_parts ss)) b → FieldsLie (beyond b.bytes.ref_ptr 6) s.fields.items → SegmentsLie a.bytes.ref_ptr (ss ++ s ∷ [])
segments_lie a b ss s lie t e = SegmentsLie-push a.bytes.ref_ptr ss s lie (subst (λ p. FieldsLie (beyond p 6) s.fields.items) t.address e)

pub groups_lie : (a b : Tail) (gs : List (Vec Segment)) (g : Vec Segment) → GroupsLie a.bytes.ref_ptr gs → Takes a (groups_text (groups_parts gs)) b → SegmentsLie (beyond b.bytes.ref_ptr 1) g.items → GroupsLie a.bytes.ref_ptr (gs ++ g ∷ [])
groups_lie a b gs g lie t e = GroupsLie-push a.bytes.ref_ptr gs g lie (subst (λ p. SegmentsLie (beyond p 1) g.items) t.address e)

-- the fault of the rest is the fault of the whole
pub fields_carry : (a b : Tail) (fs : List Field) → Takes a (fields_text (map field_parts fs)) b → fault_in a ≡ fault_in b
fields_carry a b fs t =
    carried a.end a.bytes.now (fields_text (map field_parts fs)) b.bytes.now t.parts a.within (λ p. walk_fields (map field_parts fs) b.bytes.now p (fields_typed fs))
    ∙ ap (λ e. first_fault 0 (e - length b.bytes.now) b.bytes.now) (sym t.end)

pub segments_carry : (a b : Tail) (ss : List Segment) → Takes a (segments_text (segments_parts ss)) b → ends_segment b.bytes.now ≡ true → fault_in a ≡ fault_in b
segments_carry a b ss t end =
    carried a.end a.bytes.now (segments_text (segments_parts ss)) b.bytes.now t.parts a.within (λ p. walk_segments (segments_parts ss) b.bytes.now p (segments_typed ss) end)
    ∙ ap (λ e. first_fault 0 (e - length b.bytes.now) b.bytes.now) (sym t.end)

pub groups_carry : (a b : Tail) (gs : List (Vec Segment)) → Takes a (groups_text (groups_parts gs)) b → are_groups (groups_parts gs) ≡ true → ends_group b.bytes.now ≡ true → fault_in a ≡ fault_in b
groups_carry a b gs t are end =
    carried a.end a.bytes.now (groups_text (groups_parts gs)) b.bytes.now t.parts a.within (λ p. walk_groups (groups_parts gs) b.bytes.now p are end)
    ∙ ap (λ e. first_fault 0 (e - length b.bytes.now) b.bytes.now) (sym t.end)

pub fails_along : (e : FramingFault) (x y : Option FramingFault) → x ≡ y → Fails e y → Fails e x
fails_along e x y same f = subst (Fails e) (sym same) f

pub fails_of : (e : FramingFault) (x : Option FramingFault) → x ≡ Some e → Fails e x
fails_of OutOfMemory x h = tt
fails_of e x h = h

begins_no_group : (bs : List ℕ) → begins_with 30 bs ≡ true → ends_group bs ≡ true → ⊥
begins_no_group [] e h = cc
begins_no_group (b ∷ bs) e h = let x : b ≡ 30 = eqb-true b 30 e in let y : b ≡ 29 = eqb-true b 29 h in omega arith

pub group_of_segments : (a b : Tail) (ss : List Segment) → begins_with 30 a.bytes.now ≡ true → Takes a (segments_text (segments_parts ss)) b → ends_group b.bytes.now ≡ true → is_group (segments_parts ss) ≡ true
group_of_segments a b [] begins t end = absurd (begins_no_group b.bytes.now (subst (λ bs. begins_with 30 bs ≡ true) t.parts begins) end)
group_of_segments a b (s ∷ ss) begins t end = segments_typed (s ∷ ss)

are_groups-push : (gs : List (List SegmentParts)) (g : List SegmentParts) → are_groups gs ≡ true → is_group g ≡ true → are_groups (gs ++ g ∷ []) ≡ true
are_groups-push [] g e h = ap (λ t. t && true) h
are_groups-push (f ∷ gs) g e h =
    let parts = both (is_group f) (are_groups gs) e in
    ap (λ t. t && are_groups (gs ++ g ∷ [])) parts.0 ∙ are_groups-push gs g parts.1 h

pub are_groups_more : (gs : List (Vec Segment)) (g : Vec Segment) → are_groups (groups_parts gs) ≡ true → is_group (segments_parts g.items) ≡ true → are_groups (groups_parts (gs ++ g ∷ [])) ≡ true
are_groups_more gs g e h = ap are_groups (map_push (λ (v : Vec Segment). segments_parts v.items) gs g) ∙ are_groups-push (groups_parts gs) (segments_parts g.items) e h

pub named : (bs : List ℕ) → has_segment_id (drop 1 bs) ≡ true → IsIdentified bs
named [] e = absurd cc
named (s ∷ []) e = absurd cc
named (s ∷ f ∷ []) e = absurd cc
named (s ∷ f ∷ a ∷ []) e = absurd cc
named (s ∷ f ∷ a ∷ m ∷ []) e = absurd cc
named (s ∷ f ∷ a ∷ m ∷ x ∷ []) e = absurd cc
named (s ∷ f ∷ a ∷ m ∷ x ∷ y ∷ rest) e =
    let five = both (eqb f 28 && eqb a 65 && eqb m 77 && not (is_separator x) && not (is_separator y)) (ends_here rest) e in
    let four = both (eqb f 28 && eqb a 65 && eqb m 77 && not (is_separator x)) (not (is_separator y)) five.0 in
    let three = both (eqb f 28 && eqb a 65 && eqb m 77) (not (is_separator x)) four.0 in
    let two = both (eqb f 28 && eqb a 65) (eqb m 77) three.0 in
    let one = both (eqb f 28) (eqb a 65) two.0 in
    record {
      long = omega arith;
      field = eqb-true f 28 one.0;
      a = eqb-true a 65 one.1;
      m = eqb-true m 77 two.1;
      first = not_true (is_separator x) three.1;
      second = not_true (is_separator y) four.1;
      end = five.1;
    }

pub is_false : (b : Bool) → (b ≡ true → ⊥) → b ≡ false
is_false true h = absurd (h refl)
is_false false h = refl

unnamed_at : (b p : ℕ) (bs : List ℕ) → b ≡ 30 → has_segment_id bs ≡ false → first_fault 0 p (b ∷ bs) ≡ Some (NoSegmentId p)
unnamed_at b p bs is e = simp (is, e)

unnamed_in : (bs : List ℕ) (p : ℕ) → begins_with 30 bs ≡ true → has_segment_id (drop 1 bs) ≡ false → first_fault 0 p bs ≡ Some (NoSegmentId p)
unnamed_in [] p begins e = absurd cc
unnamed_in (b ∷ bs) p begins e = unnamed_at b p bs (eqb-true b 30 begins) e

pub unnamed : (r : Tail) (p : ℕ) → p ≡ r.end - length r.bytes.now → begins_with 30 r.bytes.now ≡ true → (has_segment_id (drop 1 r.bytes.now) ≡ true → ⊥) → fault_in r ≡ Some (NoSegmentId p)
unnamed r p place begins never = rw place (unnamed_in r.bytes.now (r.end - length r.bytes.now) begins (is_false (has_segment_id (drop 1 r.bytes.now)) never))

-- fewer than two bytes before the next separator name no field
no_name : (plain rest : List ℕ) → length plain < 2 → ends_here rest ≡ true → has_field_id (plain ++ rest) ≡ false
no_name [] [] few ends = refl
no_name [] (r ∷ []) few ends = refl
no_name [] (r ∷ s ∷ rest) few ends = ap (λ t. not t && not (is_separator s)) ends
no_name (a ∷ []) [] few ends = refl
no_name (a ∷ []) (r ∷ rest) few ends = ap (λ t. not (is_separator a) && not t) ends ∙ never (not (is_separator a))
  where
    never : (t : Bool) → (t && false) ≡ false
    never true = refl
    never false = refl
no_name (a ∷ b ∷ plain) rest few ends = absurd (omega (arith, few))

nameless_at : (b p : ℕ) (bs : List ℕ) → b ≡ 28 → has_field_id bs ≡ false → first_fault 0 p (b ∷ bs) ≡ Some (BadFieldId p)
nameless_at b p bs is e = simp (is, e)

nameless_in : (bs : List ℕ) (p : ℕ) → begins_with 28 bs ≡ true → has_field_id (drop 1 bs) ≡ false → first_fault 0 p bs ≡ Some (BadFieldId p)
nameless_in [] p begins e = absurd cc
nameless_in (b ∷ bs) p begins e = nameless_at b p bs (eqb-true b 28 begins) e

pub nameless : (r : Tail) (p : ℕ) (plain rest : List ℕ) → p ≡ r.end - length r.bytes.now → begins_with 28 r.bytes.now ≡ true → drop 1 r.bytes.now ≡ plain ++ rest → length plain < 2 → ends_here rest ≡ true
    → fault_in r ≡ Some (BadFieldId p)
nameless r p plain rest place begins parts few ends =
    rw place (nameless_in r.bytes.now (r.end - length r.bytes.now) begins (ap has_field_id parts ∙ no_name plain rest few ends))

-- the fault of what is inside a segment or a group
pub entered_segment : (a b : Tail) (x y : ℕ) → Takes a (30 ∷ 28 ∷ 65 ∷ 77 ∷ x ∷ y ∷ []) b → is_id (x ∷ y ∷ []) ≡ true → ends_here b.bytes.now ≡ true → fault_in a ≡ fault_in b
entered_segment a b x y t id end =
    let parts = both (not (is_separator x)) (not (is_separator y)) id in
    carried a.end a.bytes.now (30 ∷ 28 ∷ 65 ∷ 77 ∷ x ∷ y ∷ []) b.bytes.now t.parts a.within (λ p. segment_start 0 x y p b.bytes.now (not_true (is_separator x) parts.0) (not_true (is_separator y) parts.1) end)
    ∙ ap (λ e. first_fault 0 (e - length b.bytes.now) b.bytes.now) (sym t.end)

begun : (bs : List ℕ) (p : ℕ) → begins_with 30 bs ≡ true → first_fault 0 p (29 ∷ bs) ≡ first_fault 0 (p + 1) bs
begun [] p e = absurd cc
begun (b ∷ bs) p e = rw (eqb-true b 30 e) refl

pub entered_group : (a b : Tail) → Takes a (29 ∷ []) b → begins_with 30 b.bytes.now ≡ true → fault_in a ≡ fault_in b
entered_group a b t begins =
    carried a.end a.bytes.now (29 ∷ []) b.bytes.now t.parts a.within (λ p. begun b.bytes.now p begins)
    ∙ ap (λ e. first_fault 0 (e - length b.bytes.now) b.bytes.now) (sym t.end)

pub behind_header : (r : Tail) → ends_segment r.bytes.now ≡ true → fault_behind_header r ≡ fault_in r
behind_header r end = anywhere 29 r.bytes.now (r.end - length r.bytes.now) end

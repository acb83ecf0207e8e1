-- What is left after a field, a name and a group separator.
use Rattle.std.proofs.Common.{◌≡◌, ℕ, zero, suc, ◌+◌, ◌<◌, ◌≤◌, Bool, true, false, cond, eqb, ◌&&◌, ◌||◌, List, [], ◌∷◌, ◌++◌, map, length, get_or, drop, refl, sym, ap, ◌∙◌, arith, length-drop, ◌⊎◌, inl, inr, Some}
use Rattle.std.proofs.lemmas.List.{append-nil, length-map}
use Rattle.std.proofs.lemmas.Bool.{eqb-true}
use Rattle.memchr.specs.Find.{IsFirstByte, is_byte}
use Rattle.d0_segments.specs.Separators.{is_id, ends_here, ends_segment, begins_with}
use Rattle.d0_segments.specs.Parts.{FieldParts, SegmentParts, is_field}
use Rattle.d0_segments.specs.Faults.{count_groups}
use Rattle.d0_segments.specs.Pieces.{onto, pieces, field_of, segment_from, segment_of, segments_of, first_segments, shared_of, groups_of}
use Rattle.d0_segments.specs.Inside.{first_piece, front_of, fields_left}
use Rattle.d0_segments.specs.Texts.{field_text}
use Rattle.d0_segments.proofs.Walking.{first_of_two}
use Rattle.d0_segments.proofs.Cutting.{lacks, lacks-nil, lacks-cons, lacks-head, inner, inner_lacks, name_lacks, field_again}

-- a byte in front of the first of some pieces
onto_first : (b : ℕ) (ps : List (List ℕ)) → 0 < length ps → onto b ps ≡ (b ∷ first_piece ps) ∷ drop 1 ps
onto_first b [] lt = absurd (omega arith)
onto_first b (p ∷ ps) lt = refl

pub onto_length : (b : ℕ) (ps : List (List ℕ)) → 0 < length ps → length (onto b ps) ≡ length ps
onto_length b [] lt = absurd (omega arith)
onto_length b (p ∷ ps) lt = refl

-- there is a piece at least
some_piece_of : (t : Bool) (ps : List (List ℕ)) (b : ℕ) → 0 < length ps → 0 < length (let qs : List (List ℕ) = cond t ([] ∷ ps) (onto b ps) in qs)
some_piece_of true ps b lt = omega arith
some_piece_of false ps b lt = omega (arith, onto_length b ps lt)

pub some_piece : (x : ℕ) (bs : List ℕ) → 0 < length (pieces x bs)
some_piece x [] = omega arith
some_piece x (b ∷ bs) = some_piece_of (eqb b x) (pieces x bs) b (some_piece x bs)

whole : (ps : List (List ℕ)) → 0 < length ps → ps ≡ first_piece ps ∷ drop 1 ps
whole [] lt = absurd (omega arith)
whole (p ∷ ps) lt = refl

-- bytes without the separator in front
over_byte : (x b : ℕ) (bs : List ℕ) → eqb b x ≡ false → pieces x (b ∷ bs) ≡ (b ∷ first_piece (pieces x bs)) ∷ drop 1 (pieces x bs)
over_byte x b bs e = ap (λ t. cond t ([] ∷ pieces x bs) (onto b (pieces x bs))) e ∙ onto_first b (pieces x bs) (some_piece x bs)

pub over : (x : ℕ) (xs bs : List ℕ) → lacks x xs ≡ true → pieces x (xs ++ bs) ≡ (xs ++ first_piece (pieces x bs)) ∷ drop 1 (pieces x bs)
over x [] bs e = whole (pieces x bs) (some_piece x bs)
over x (a ∷ xs) bs e =
    let parts = lacks-head x a xs e in
    over_byte x a (xs ++ bs) parts.0 ∙ ap (λ ps. (a ∷ first_piece ps) ∷ drop 1 ps) (over x xs bs parts.1)

-- the front of a text in two parts
front_over : (xs bs : List ℕ) → lacks 29 xs ≡ true → lacks 30 xs ≡ true → front_of (xs ++ bs) ≡ xs ++ front_of bs
front_over xs bs g s =
    ap (λ ps. first_piece (pieces 30 (first_piece ps))) (over 29 xs bs g) ∙ ap first_piece (over 30 xs (first_piece (pieces 29 bs)) s)

-- where a field, a segment or a group begins, nothing stands in front of the first field separator
first_at_field : (bs : List ℕ) → first_piece (pieces 28 (front_of (28 ∷ bs))) ≡ []
first_at_field bs = ap (λ t. first_piece (pieces 28 t)) (front_over (28 ∷ []) bs (lacks-cons 29 28 [] refl (lacks-nil 29)) (lacks-cons 30 28 [] refl (lacks-nil 30)))

front_at_segment : (bs : List ℕ) → front_of (30 ∷ bs) ≡ []
front_at_segment bs = ap (λ ps. first_piece (pieces 30 (first_piece ps))) (over_byte 29 30 bs refl)

first_at : (b : ℕ) (bs : List ℕ) (f g s : Bool) → eqb b 28 ≡ f → eqb b 29 ≡ g → eqb b 30 ≡ s → (f || g || s) ≡ true → first_piece (pieces 28 (front_of (b ∷ bs))) ≡ []
first_at b bs true g s ef eg es e = ap (λ c. first_piece (pieces 28 (front_of (c ∷ bs)))) (eqb-true b 28 ef) ∙ first_at_field bs
first_at b bs false true s ef eg es e = ap (λ c. first_piece (pieces 28 (front_of (c ∷ bs)))) (eqb-true b 29 eg)
first_at b bs false false true ef eg es e = ap (λ c. first_piece (pieces 28 (front_of (c ∷ bs)))) (eqb-true b 30 es) ∙ ap (λ t. first_piece (pieces 28 t)) (front_at_segment bs)
first_at b bs false false false ef eg es e = absurd cc

first_empty : (bs : List ℕ) → ends_here bs ≡ true → first_piece (pieces 28 (front_of bs)) ≡ []
first_empty [] e = refl
first_empty (b ∷ bs) e = first_at b bs (eqb b 28) (eqb b 29) (eqb b 30) refl refl refl e

-- a field
pub fields_behind : (f : FieldParts) (rest : List ℕ) → is_field f ≡ true → ends_here rest ≡ true → fields_left (field_text f ++ rest) ≡ f ∷ fields_left rest
unfolding fields_left
fields_behind f rest e end =
    let lack = inner_lacks f e in
    let front = front_of rest in
    let later = drop 1 (pieces 28 front) in
    ap (λ t. map field_of (drop 1 (pieces 28 t))) (front_over (28 ∷ inner f) rest (lacks-cons 29 28 (inner f) refl lack.group) (lacks-cons 30 28 (inner f) refl lack.segment))
    ∙ ap (map field_of) (over 28 (inner f) front lack.field)
    ∙ ap (λ t. field_of (inner f ++ t) ∷ map field_of later) (first_empty rest end)
    ∙ ap (λ t. field_of t ∷ map field_of later) (append-nil (inner f))
    ∙ ap (λ g. g ∷ map field_of later) (field_again f e)

first_segments_is : (ps : List (List ℕ)) → first_segments ps ≡ segments_of (first_piece ps)
first_segments_is [] = refl
first_segments_is (p ∷ ps) = refl

pub segments_behind_field : (f : FieldParts) (rest : List ℕ) → is_field f ≡ true → shared_of (field_text f ++ rest) ≡ shared_of rest
segments_behind_field f rest e =
    let lack = inner_lacks f e in
    let first = first_piece (pieces 29 rest) in
    ap first_segments (over 29 (28 ∷ inner f) rest (lacks-cons 29 28 (inner f) refl lack.group))
    ∙ ap (λ ps. map segment_of (drop 1 ps)) (over 30 (28 ∷ inner f) first (lacks-cons 30 28 (inner f) refl lack.segment))
    ∙ sym (first_segments_is (pieces 29 rest))

-- the identification of a segment
pub segments_behind_name : (x y : ℕ) (rest : List ℕ) → is_id (x ∷ y ∷ []) ≡ true → ends_here rest ≡ true
    → shared_of (30 ∷ 28 ∷ 65 ∷ 77 ∷ x ∷ y ∷ rest) ≡ record { id = x ∷ y ∷ []; fields = fields_left rest } ∷ shared_of rest
unfolding fields_left
segments_behind_name x y rest id end =
    let s : SegmentParts = record { id = x ∷ y ∷ []; fields = [] } in
    let name = 65 ∷ 77 ∷ x ∷ y ∷ [] in
    let lack = name_lacks s (ap (λ t. t && true) id) in
    let first = first_piece (pieces 29 rest) in
    let front = first_piece (pieces 30 first) in
    let others = map segment_of (drop 1 (pieces 30 first)) in
    let later = map field_of (drop 1 (pieces 28 front)) in
    ap first_segments (over 29 (30 ∷ 28 ∷ name) rest (lacks-cons 29 30 (28 ∷ name) refl (lacks-cons 29 28 name refl lack.group)))
    ∙ ap (map segment_of) (over 30 (28 ∷ name) first (lacks-cons 30 28 name refl lack.segment))
    ∙ ap (λ ps. segment_from ps ∷ others) (over 28 name front lack.field)
    ∙ ap (λ t. (let u : SegmentParts = record { id = drop 2 (name ++ t); fields = later } in u) ∷ others) (first_empty rest end)
    ∙ ap (λ us. (let u : SegmentParts = record { id = x ∷ y ∷ []; fields = later } in u) ∷ us) (sym (first_segments_is (pieces 29 rest)))

-- where no field is left, and no segment
no_fields_at : (b : ℕ) (bs : List ℕ) → (eqb b 30 ≡ true) ⊎ (eqb b 29 ≡ true) → fields_left (b ∷ bs) ≡ []
unfolding fields_left
no_fields_at b bs (inl e) = ap (λ c. map field_of (drop 1 (pieces 28 (front_of (c ∷ bs))))) (eqb-true b 30 e) ∙ ap (λ t. map field_of (drop 1 (pieces 28 t))) (front_at_segment bs)
no_fields_at b bs (inr e) = ap (λ c. map field_of (drop 1 (pieces 28 (front_of (c ∷ bs))))) (eqb-true b 29 e)

no_fields_here : fields_left [] ≡ []
unfolding fields_left
no_fields_here = refl

pub no_fields : (bs : List ℕ) → ends_segment bs ≡ true → fields_left bs ≡ []
no_fields [] e = no_fields_here
no_fields (b ∷ bs) e = no_fields_at b bs (first_of_two (eqb b 30) (eqb b 29) e)

no_segments_at : (b : ℕ) (bs : List ℕ) → (eqb b 30 ≡ true) ⊎ (eqb b 29 ≡ true) → (eqb b 30 ≡ true → ⊥) → shared_of (b ∷ bs) ≡ []
no_segments_at b bs (inl e) never = absurd (never e)
no_segments_at b bs (inr e) never = ap (λ c. shared_of (c ∷ bs)) (eqb-true b 29 e)

pub no_segments : (bs : List ℕ) → ends_segment bs ≡ true → (begins_with 30 bs ≡ true → ⊥) → shared_of bs ≡ []
no_segments [] e never = refl
no_segments (b ∷ bs) e never = no_segments_at b bs (first_of_two (eqb b 30) (eqb b 29) e) never

-- groups
groups_of_pieces : (ps : List (List ℕ)) → 0 < length ps → map segments_of ps ≡ first_segments ps ∷ map segments_of (drop 1 ps)
groups_of_pieces [] lt = absurd (omega arith)
groups_of_pieces (p ∷ ps) lt = refl

groups_at : (b : ℕ) (bs : List ℕ) → eqb b 29 ≡ true → groups_of (b ∷ bs) ≡ shared_of bs ∷ groups_of bs
groups_at b bs e = ap (λ t. map segments_of (drop 1 (cond t ([] ∷ pieces 29 bs) (onto b (pieces 29 bs))))) e ∙ groups_of_pieces (pieces 29 bs) (some_piece 29 bs)

groups_over : (b : ℕ) (bs : List ℕ) → eqb b 29 ≡ false → groups_of (b ∷ bs) ≡ groups_of bs
groups_over b bs e = ap (λ ps. map segments_of (drop 1 ps)) (over_byte 29 b bs e)

is_false : (b : Bool) → (b ≡ true → ⊥) → b ≡ false
is_false true h = absurd (h refl)
is_false false h = refl

pub groups_behind : (bs : List ℕ) (k : ℕ) → k < length bs → ((j : ℕ) → 0 ≤ j → j < k → eqb (get_or bs j 0) 29 ≡ true → ⊥) → eqb (get_or bs k 0) 29 ≡ true
    → groups_of bs ≡ shared_of (drop (k + 1) bs) ∷ groups_of (drop (k + 1) bs)
groups_behind [] k lt before here = absurd (omega arith)
groups_behind (b ∷ bs) zero lt before here = groups_at b bs here
groups_behind (b ∷ bs) (suc k) lt before here =
    let more : suc k + 1 ≡ suc (k + 1) = omega arith in
    groups_over b bs (is_false (eqb b 29) (before 0 (omega arith) (omega arith)))
    ∙ groups_behind bs k (omega arith) (λ j low below. before (suc j) (omega arith) (omega arith)) here
    ∙ ap (λ n. shared_of (drop n (b ∷ bs)) ∷ groups_of (drop n (b ∷ bs))) (sym more)

pub no_groups : (bs : List ℕ) → ((j : ℕ) → 0 ≤ j → j < length bs → eqb (get_or bs j 0) 29 ≡ true → ⊥) → groups_of bs ≡ []
no_groups [] never = refl
no_groups (b ∷ bs) never =
    groups_over b bs (is_false (eqb b 29) (never 0 (omega arith) (omega arith)))
    ∙ no_groups bs (λ j low below. never (suc j) (omega arith) (omega arith))

-- a group separator at the front is the first
pub first_here : (bs : List ℕ) → begins_with 29 bs ≡ true → IsFirstByte (is_byte 29) bs (Some 0)
first_here [] begins = absurd cc
first_here (b ∷ bs) begins = (record { low = omega arith; high = omega arith; before = λ j low below. absurd (omega (arith, below)) }, begins)

-- as many groups as group separators
pieces_count_of : (t : Bool) (ps : List (List ℕ)) (b n : ℕ) → length ps ≡ 1 + n → length (let qs : List (List ℕ) = cond t ([] ∷ ps) (onto b ps) in qs) ≡ 1 + (cond t 1 0 + n)
pieces_count_of true ps b n e = omega (arith, e)
pieces_count_of false ps b n e = onto_length b ps (omega (arith, e)) ∙ e ∙ omega arith

pieces_count : (bs : List ℕ) → length (pieces 29 bs) ≡ 1 + count_groups bs
pieces_count [] = refl
pieces_count (b ∷ bs) = pieces_count_of (eqb b 29) (pieces 29 bs) b (count_groups bs) (pieces_count bs)

pub groups_counted : (bs : List ℕ) → length (groups_of bs) ≡ count_groups bs
groups_counted bs = length-map (drop 1 (pieces 29 bs)) segments_of ∙ omega (arith, length-drop 1 (pieces 29 bs), pieces_count bs)

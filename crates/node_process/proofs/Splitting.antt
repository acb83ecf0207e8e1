-- Lines of bytes that come in pieces.
use Rattle.std.proofs.Common.{◌≡◌, ℕ, zero, suc, ◌+◌, ◌<◌, ◌≤◌, length, Bool, true, false, not, cond, List, [], ◌∷◌, ◌++◌, take, drop, Option, Some, None, refl, sym, ap, ◌∙◌, subst, arith}
use Rattle.std.specs.Prelude.{position, nat_lt, slice_index}
use Rattle.std.specs.List.{slice_split, onto_first, position_or_len}
use Rattle.std.proofs.lemmas.Bool.Decides.{nat_tests}
use Rattle.std.proofs.lemmas.List.Sums.{position_or_len_is}
use Rattle.memchr.specs.Find.{IsFirstByte, is_byte}
use Rattle.std.specs.Str.Lines.{strip_carriage_return}
use Rattle.node_process.specs.Heard.{is_newline, full_lines, last_part, whole_lines, begun_line, NoNewline}

-- parts of two pieces, glued where they meet
abbrev glue : List (List ℕ) → List (List ℕ) → List (List ℕ)
glue [] ys = ys
glue (x ∷ []) [] = x ∷ []
glue (x ∷ []) (y ∷ ys) = (x ++ y) ∷ ys
glue (x ∷ z ∷ xs) ys = x ∷ glue (z ∷ xs) ys

-- a part is never missing
split_some : (bytes : List ℕ) → (first : List ℕ) × (more : List (List ℕ)) × (slice_split is_newline bytes ≡ first ∷ more)
split_some [] = ([], [], refl)
split_some (b ∷ bytes) = by_test (split_some bytes) (is_newline b) refl
  where
    by_test : (first : List ℕ) × (more : List (List ℕ)) × (slice_split is_newline bytes ≡ first ∷ more) → (t : Bool) → is_newline b ≡ t → (first : List ℕ) × (more : List (List ℕ)) × (slice_split is_newline (b ∷ bytes) ≡ first ∷ more)
    by_test rest true e = ([], slice_split is_newline bytes, ap (λ t. cond t ([] ∷ slice_split is_newline bytes) (onto_first b (slice_split is_newline bytes))) e)
    by_test rest false e =
        (b ∷ rest.0, rest.1, ap (λ t. cond t ([] ∷ slice_split is_newline bytes) (onto_first b (slice_split is_newline bytes))) e ∙ ap (onto_first b) rest.2)

glue_first : (b : ℕ) (first : List ℕ) (more ys : List (List ℕ)) (y : List ℕ) → onto_first b (glue (first ∷ more) (y ∷ ys)) ≡ glue (onto_first b (first ∷ more)) (y ∷ ys)
glue_first b first [] ys y = refl
glue_first b first (z ∷ more) ys y = refl

split_append : (a b : List ℕ) → slice_split is_newline (a ++ b) ≡ glue (slice_split is_newline a) (slice_split is_newline b)
split_append [] b = let s = split_some b in s.2 ∙ sym (ap (glue ([] ∷ [])) s.2)
split_append (x ∷ a) b = by_test (split_append a b) (is_newline x) refl
  where
    whole : Bool → List (List ℕ)
    whole t = cond t ([] ∷ slice_split is_newline (a ++ b)) (onto_first x (slice_split is_newline (a ++ b)))

    by_test : slice_split is_newline (a ++ b) ≡ glue (slice_split is_newline a) (slice_split is_newline b) → (t : Bool) → is_newline x ≡ t → slice_split is_newline (x ∷ (a ++ b)) ≡ glue (slice_split is_newline (x ∷ a)) (slice_split is_newline b)
    by_test inner true e =
        let s = split_some a in
        let own : slice_split is_newline (x ∷ a) ≡ [] ∷ slice_split is_newline a = ap (λ t. cond t ([] ∷ slice_split is_newline a) (onto_first x (slice_split is_newline a))) e in
        ap whole e
        ∙ (ap (λ (parts : List (List ℕ)). [] ∷ parts) (inner ∙ ap (λ (parts : List (List ℕ)). glue parts (slice_split is_newline b)) s.2)
        ∙ (ap (λ (parts : List (List ℕ)). glue ([] ∷ parts) (slice_split is_newline b)) (sym s.2) ∙ ap (λ (parts : List (List ℕ)). glue parts (slice_split is_newline b)) (sym own)))
    by_test inner false e =
        let s = split_some a in
        let t = split_some b in
        let own : slice_split is_newline (x ∷ a) ≡ onto_first x (slice_split is_newline a) = ap (λ t. cond t ([] ∷ slice_split is_newline a) (onto_first x (slice_split is_newline a))) e in
        let joined : onto_first x (glue (slice_split is_newline a) (slice_split is_newline b)) ≡ glue (onto_first x (slice_split is_newline a)) (slice_split is_newline b) =
        ap (λ (parts : List (List ℕ)). onto_first x (glue parts (slice_split is_newline b))) s.2
        ∙ (ap (λ (parts : List (List ℕ)). onto_first x (glue (s.0 ∷ s.1) parts)) t.2
        ∙ (glue_first x s.0 s.1 t.1 t.0
        ∙ (ap (λ (parts : List (List ℕ)). glue (onto_first x (s.0 ∷ s.1)) parts) (sym t.2)
        ∙ ap (λ (parts : List (List ℕ)). glue (onto_first x parts) (slice_split is_newline b)) (sym s.2)))) in
        ap whole e ∙ (ap (onto_first x) inner ∙ (joined ∙ ap (λ (parts : List (List ℕ)). glue parts (slice_split is_newline b)) (sym own)))

-- ---- bytes without a newline

pub split_none : (bytes : List ℕ) → NoNewline bytes → slice_split is_newline bytes ≡ bytes ∷ []
split_none [] n = refl
split_none (b ∷ bytes) n = ap (λ t. cond t ([] ∷ slice_split is_newline bytes) (onto_first b (slice_split is_newline bytes))) n.0 ∙ ap (onto_first b) (split_none bytes n.1)

-- the last part has none
onto_none : (b : ℕ) (first : List ℕ) (more : List (List ℕ)) → is_newline b ≡ false → NoNewline (last_part (first ∷ more)) → NoNewline (last_part (onto_first b (first ∷ more)))
onto_none b first [] e n = (e, n)
onto_none b first (z ∷ more) e n = n

pub begun_none : (bytes : List ℕ) → NoNewline (begun_line bytes)
begun_none [] = tt
begun_none (b ∷ bytes) = by_test (begun_none bytes) (is_newline b) refl
  where
    by_test : NoNewline (begun_line bytes) → (t : Bool) → is_newline b ≡ t → NoNewline (begun_line (b ∷ bytes))
    by_test inner true e =
        let s = split_some bytes in
        subst (λ (parts : List (List ℕ)). NoNewline (last_part parts)) (sym (ap (λ t. cond t ([] ∷ slice_split is_newline bytes) (onto_first b (slice_split is_newline bytes))) e ∙ ap (λ (parts : List (List ℕ)). [] ∷ parts) s.2))
        (subst (λ (parts : List (List ℕ)). NoNewline (last_part parts)) s.2 inner)
    by_test inner false e =
        let s = split_some bytes in
        subst (λ (parts : List (List ℕ)). NoNewline (last_part parts)) (sym (ap (λ t. cond t ([] ∷ slice_split is_newline bytes) (onto_first b (slice_split is_newline bytes))) e ∙ ap (onto_first b) s.2))
        (onto_none b s.0 s.1 e (subst (λ (parts : List (List ℕ)). NoNewline (last_part parts)) s.2 inner))

-- ---- what comes after what has come

full_glue : (first : List ℕ) (more : List (List ℕ)) (y : List ℕ) (ys : List (List ℕ)) → full_lines (glue (first ∷ more) (y ∷ ys)) ≡ full_lines (first ∷ more) ++ full_lines (glue (last_part (first ∷ more) ∷ []) (y ∷ ys))
full_glue first [] y ys = refl
full_glue first (z ∷ []) y ys = refl
full_glue first (z ∷ w ∷ more) y ys = ap (λ (lines : List (List ℕ)). strip_carriage_return first ∷ lines) (full_glue z (w ∷ more) y ys)

last_glue : (first : List ℕ) (more : List (List ℕ)) (y : List ℕ) (ys : List (List ℕ)) → last_part (glue (first ∷ more) (y ∷ ys)) ≡ last_part (glue (last_part (first ∷ more) ∷ []) (y ∷ ys))
last_glue first [] y ys = refl
last_glue first (z ∷ []) y ys = refl
last_glue first (z ∷ w ∷ more) y ys = last_glue z (w ∷ more) y ys

-- what was begun, and what comes after it
begun_split : (a b : List ℕ) → slice_split is_newline (begun_line a ++ b) ≡ glue (begun_line a ∷ []) (slice_split is_newline b)
begun_split a b = split_append (begun_line a) b ∙ ap (λ (parts : List (List ℕ)). glue parts (slice_split is_newline b)) (split_none (begun_line a) (begun_none a))

pub whole_append : (a b : List ℕ) → whole_lines (a ++ b) ≡ whole_lines a ++ whole_lines (begun_line a ++ b)
whole_append a b =
    let s = split_some a in
    let t = split_some b in
    let begun : begun_line a ≡ last_part (s.0 ∷ s.1) = ap last_part s.2 in
    ap full_lines (split_append a b ∙ (ap (λ (parts : List (List ℕ)). glue parts (slice_split is_newline b)) s.2 ∙ ap (glue (s.0 ∷ s.1)) t.2))
    ∙ (full_glue s.0 s.1 t.0 t.1
    ∙ (ap (λ (parts : List (List ℕ)). full_lines parts ++ full_lines (glue (last_part (s.0 ∷ s.1) ∷ []) (t.0 ∷ t.1))) (sym s.2)
    ∙ ap (λ (lines : List (List ℕ)). whole_lines a ++ lines) (ap (λ (x : List ℕ). full_lines (glue (x ∷ []) (t.0 ∷ t.1))) (sym begun) ∙ (ap (λ (parts : List (List ℕ)). full_lines (glue (begun_line a ∷ []) parts)) (sym t.2) ∙ ap full_lines (sym (begun_split a b))))))

pub begun_append : (a b : List ℕ) → begun_line (a ++ b) ≡ begun_line (begun_line a ++ b)
begun_append a b =
    let s = split_some a in
    let t = split_some b in
    let begun : begun_line a ≡ last_part (s.0 ∷ s.1) = ap last_part s.2 in
    ap last_part (split_append a b ∙ (ap (λ (parts : List (List ℕ)). glue parts (slice_split is_newline b)) s.2 ∙ ap (glue (s.0 ∷ s.1)) t.2))
    ∙ (last_glue s.0 s.1 t.0 t.1
    ∙ (ap (λ (x : List ℕ). last_part (glue (x ∷ []) (t.0 ∷ t.1))) (sym begun) ∙ (ap (λ (parts : List (List ℕ)). last_part (glue (begun_line a ∷ []) parts)) (sym t.2) ∙ ap last_part (sym (begun_split a b)))))

-- ---- one line more

split_by : (b : ℕ) (rest : List ℕ) (t : Bool) → is_newline b ≡ t → slice_split is_newline (b ∷ rest) ≡ cond t ([] ∷ slice_split is_newline rest) (onto_first b (slice_split is_newline rest))
split_by b rest t e = ap (λ x. cond x ([] ∷ slice_split is_newline rest) (onto_first b (slice_split is_newline rest))) e

place_by : (b : ℕ) (rest : List ℕ) (t : Bool) → is_newline b ≡ t → position_or_len is_newline (b ∷ rest) ≡ cond (not t) (1 + position_or_len is_newline rest) 0
place_by b rest t e = ap (λ x. cond (not x) (1 + position_or_len is_newline rest) 0) e

-- the first newline ends a line
split_first : (rest : List ℕ) (k : ℕ) → position_or_len is_newline rest ≡ k → k < length rest → slice_split is_newline rest ≡ take k rest ∷ slice_split is_newline (drop (k + 1) rest)
split_first [] k e h = absurd (omega arith)
split_first (b ∷ rest) k e h = by_test (λ m f g. split_first rest m f g) (is_newline b) refl
  where
    by_place : ((m : ℕ) → position_or_len is_newline rest ≡ m → m < length rest → slice_split is_newline rest ≡ take m rest ∷ slice_split is_newline (drop (m + 1) rest)) → (m : ℕ) → m ≡ k → is_newline b ≡ false → 1 + position_or_len is_newline rest ≡ m → slice_split is_newline (b ∷ rest) ≡ take m (b ∷ rest) ∷ slice_split is_newline (drop (m + 1) (b ∷ rest))
    by_place further_on zero same f g = absurd (omega (arith, g))
    by_place further_on (suc m) same f g =
        let further : suc m + 1 ≡ suc (m + 1) = omega arith in
        let inner : position_or_len is_newline rest ≡ m = omega (arith, g) in
        split_by b rest false f
        ∙ (ap (onto_first b) (further_on m inner (omega (arith, same, h)))
        ∙ ap (λ (n : ℕ). (b ∷ take m rest) ∷ slice_split is_newline (drop n (b ∷ rest))) (sym further))

    by_test : ((m : ℕ) → position_or_len is_newline rest ≡ m → m < length rest → slice_split is_newline rest ≡ take m rest ∷ slice_split is_newline (drop (m + 1) rest)) → (t : Bool) → is_newline b ≡ t → slice_split is_newline (b ∷ rest) ≡ take k (b ∷ rest) ∷ slice_split is_newline (drop (k + 1) (b ∷ rest))
    by_test further_on true f =
        let none : k ≡ 0 = sym e ∙ place_by b rest true f in
        split_by b rest true f ∙ ap (λ (n : ℕ). take n (b ∷ rest) ∷ slice_split is_newline (drop (n + 1) (b ∷ rest))) (sym none)
    by_test further_on false f =
        let some : 1 + position_or_len is_newline rest ≡ k = sym (place_by b rest false f) ∙ e in
        by_place further_on k refl f some

no_place : (rest : List ℕ) → length rest ≤ position_or_len is_newline rest → NoNewline rest
no_place [] h = tt
no_place (b ∷ rest) h = by_test (λ g. no_place rest g) (is_newline b) refl
  where
    by_test : (length rest ≤ position_or_len is_newline rest → NoNewline rest) → (t : Bool) → is_newline b ≡ t → NoNewline (b ∷ rest)
    by_test inner true f = let none : position_or_len is_newline (b ∷ rest) ≡ 0 = place_by b rest true f in absurd (omega (arith, none, h))
    by_test inner false f = let some : position_or_len is_newline (b ∷ rest) ≡ 1 + position_or_len is_newline rest = place_by b rest false f in (f, inner (omega (arith, some, h)))

-- in the words of the search
found_at : (k n : ℕ) (t : Bool) (end : ℕ) → nat_lt k n ≡ t → cond {A = Option ℕ} t (Some k) None ≡ Some end → (k < n) × (k ≡ end)
found_at k n true end e h = let same : k ≡ end = cc in (less k n e, same)
  where
    less : (k n : ℕ) → nat_lt k n ≡ true → k < n
    less k n e = grind (arith, nat_tests)
found_at k n false end e h = absurd cc

found_none : (k n : ℕ) (t : Bool) → nat_lt k n ≡ t → cond {A = Option ℕ} t (Some k) None ≡ None → n ≤ k
found_none k n true e h = absurd cc
found_none k n false e h = grind (arith, nat_tests)

pub split_at : (pending rest : List ℕ) (end : ℕ) → NoNewline pending → position is_newline rest ≡ Some end → slice_split is_newline (pending ++ rest) ≡ (pending ++ take end rest) ∷ slice_split is_newline (drop (end + 1) rest)
split_at [] rest end n e =
    let f = found_at (position_or_len is_newline rest) (length rest) (nat_lt (position_or_len is_newline rest) (length rest)) end refl e in
    split_first rest end f.1 (omega (arith, f.0, f.1))
split_at (p ∷ pending) rest end n e = split_by p (pending ++ rest) false n.0 ∙ ap (onto_first p) (split_at pending rest end n.1 e)

pub none_ends : (rest : List ℕ) → position is_newline rest ≡ None → NoNewline rest
none_ends rest e = no_place rest (found_none (position_or_len is_newline rest) (length rest) (nat_lt (position_or_len is_newline rest) (length rest)) refl e)

-- a line that has come whole, and the lines after it
pub whole_one : (pending rest : List ℕ) (end : ℕ) → NoNewline pending → position is_newline rest ≡ Some end → whole_lines (pending ++ rest) ≡ strip_carriage_return (pending ++ take end rest) ∷ whole_lines (drop (end + 1) rest)
whole_one pending rest end n e =
    let s = split_some (drop (end + 1) rest) in
    ap full_lines (split_at pending rest end n e ∙ ap (λ (parts : List (List ℕ)). (pending ++ take end rest) ∷ parts) s.2)
    ∙ ap (λ (parts : List (List ℕ)). strip_carriage_return (pending ++ take end rest) ∷ full_lines parts) (sym s.2)

pub begun_one : (pending rest : List ℕ) (end : ℕ) → NoNewline pending → position is_newline rest ≡ Some end → begun_line (pending ++ rest) ≡ begun_line (drop (end + 1) rest)
begun_one pending rest end n e =
    let s = split_some (drop (end + 1) rest) in
    ap last_part (split_at pending rest end n e ∙ ap (λ (parts : List (List ℕ)). (pending ++ take end rest) ∷ parts) s.2) ∙ ap last_part (sym s.2)

-- no line has come whole
pub whole_none : (bytes : List ℕ) → NoNewline bytes → whole_lines bytes ≡ []
whole_none bytes n = ap full_lines (split_none bytes n)

pub begun_all : (bytes : List ℕ) → NoNewline bytes → begun_line bytes ≡ bytes
begun_all bytes n = ap last_part (split_none bytes n)

-- ---- where a search finds a newline

placed : (n len : ℕ) → n < len → cond {A = Option ℕ} (nat_lt n len) (Some n) None ≡ Some n
placed n len lt = grind (arith, nat_tests)

nowhere : (n len : ℕ) → len ≤ n → cond {A = Option ℕ} (nat_lt n len) (Some n) None ≡ None
nowhere n len le = grind (arith, nat_tests)

is_not : (x : ℕ) (t : Bool) → is_newline x ≡ t → (is_newline x ≡ true → ⊥) → is_newline x ≡ false
is_not x true e never = absurd (never e)
is_not x false e never = e

pub found_first : (bytes : List ℕ) (found : Option ℕ) → IsFirstByte (is_byte 10) bytes found → found ≡ position is_newline bytes
found_first bytes (Some k) (between, is) =
    let before = λ (j : ℕ) (lt : j < k). is_not (slice_index bytes j) (is_newline (slice_index bytes j)) refl (λ e. between.before j (omega arith) lt e) in
    let at : position_or_len is_newline bytes ≡ k = position_or_len_is is_newline bytes k 0 (omega (arith, between.high)) before (λ lt. is) in
    sym (ap (λ n. cond (nat_lt n (length bytes)) (Some n) None) at ∙ placed k (length bytes) between.high)
found_first bytes None never =
    let before = λ (j : ℕ) (lt : j < length bytes). is_not (slice_index bytes j) (is_newline (slice_index bytes j)) refl (λ e. never j (omega arith) lt e) in
    let at : position_or_len is_newline bytes ≡ length bytes = position_or_len_is is_newline bytes (length bytes) 0 (omega arith) before (λ lt. absurd (omega (arith, lt))) in
    sym (ap (λ n. cond (nat_lt n (length bytes)) (Some n) None) at ∙ nowhere (length bytes) (length bytes) (omega arith))

-- What is read of an input, one piece more.
use Rattle.std.proofs.Common.{◌≡◌, ◌≤◌, ◌<◌, ℕ, suc, ◌+◌, ◌-◌, ◌==◌, not, Bool, true, false, cond, List, [], ◌∷◌, ◌++◌, ◌⊎◌, inl, inr, length, take, drop, min, nat_lt, Option, Some, None, refl, ap, subst, sym, ◌∙◌, arith}
use Rattle.std.specs.Prelude.{IfSome, if◌then◌else◌}
use Rattle.std.specs.Io.KnownBytes.{Consumes, IsAtEnd, Keeps, prepend_known}
use Rattle.std.proofs.lemmas.List.{append_assoc, append-nil, drop-take, drop-drop, take_all, drop_all, take-append-le, drop-append-le, length-take, length-append}
use Rattle.std.proofs.lemmas.Bool.{eqb-true}
use Rattle.std.proofs.lemmas.Bool.Decides.{nat_tests}
use Rattle.message_words.specs.InputLines.{line_length, has_newline, without_return, first_line, IsNextLine, AreAll, LongFor, longest}
use Rattle.message_words.specs.declared.line_source.InputFault.{InputFault}
use Rattle.message_words.specs.declared.line_source.InputFault.TheVariants.{OutOfMemory, Read, TooLong}
use Rattle.message_parts.proofs.AtRest.{take_min, drop_min}

-- a stretch of bytes
pub stretch_is : (bytes : List ℕ) (from to begin end : ℕ) → end ≡ min to (length bytes) → begin ≡ min from end → take (end - begin) (drop begin bytes) ≡ drop from (take to bytes)
stretch_is bytes from to begin end e b =
    let long : length (take end bytes) ≡ end = omega (arith, e, length-take end bytes) in
    let first : begin ≡ min from (length (take end bytes)) = omega (arith, b, long) in
    let parts : end ≡ begin + (end - begin) = omega (arith, b) in
    sym (drop-take begin (end - begin) bytes) ∙ ap (λ n. drop begin (take n bytes)) (sym parts) ∙ drop_min (take end bytes) from begin first ∙ ap (drop from) (take_min bytes to end e)

-- nothing is left after nothing
pub kept_by : (known now : Option (List ℕ)) (front new : List ℕ) → front ≡ [] → Consumes known now new → Keeps (prepend_known front known) (prepend_known new now)
kept_by None now front new none read = tt
kept_by (Some xs) None front new none read = absurd read
kept_by (Some xs) (Some ys) front new none read = sym (ap (λ (bs : List ℕ). bs ++ xs) none ∙ read)

pub keeps_same : (known : Option (List ℕ)) → Keeps known known
keeps_same None = tt
keeps_same (Some xs) = refl

pub end_left : (known : Option (List ℕ)) (front : List ℕ) → front ≡ [] → IsAtEnd known → IsAtEnd (prepend_known front known)
end_left None front none e = tt
end_left (Some xs) front none e = ap (λ (bs : List ℕ). bs ++ xs) none ∙ e

-- a kept input and then some of it
pub taken : (old mid : Option (List ℕ)) (front behind piece more line : List ℕ) (known : Option (List ℕ)) → Consumes old mid line → Keeps mid (prepend_known front known) → front ≡ more ++ behind
    → Consumes old (prepend_known behind known) (line ++ more)
taken None mid front behind piece more line known a k e = tt
taken (Some xs) None front behind piece more line known a k e = absurd a
taken (Some xs) (Some ys) front behind piece more line None a k e = absurd k
taken (Some xs) (Some ys) front behind piece more line (Some zs) a k e =
    a ∙ ap (λ (bs : List ℕ). line ++ bs) (sym k ∙ ap (λ (bs : List ℕ). bs ++ zs) e ∙ append_assoc more behind zs) ∙ sym (append_assoc line more (behind ++ zs))

-- after a newline
pub behind_newline : (u slice mid new : List ℕ) (count : ℕ) → slice ≡ u → count ≡ line_length slice → count < length slice → mid ≡ drop count u → new ≡ drop 1 mid
    → new ≡ (if has_newline u then drop (line_length u + 1) u else [])
behind_newline u slice mid new count is n less m e =
    let ended : nat_lt count (length slice) ≡ true = grind (arith, nat_tests, less) in
    let size : count ≡ line_length u = n ∙ ap line_length is in
    let newline : has_newline u ≡ true = ap (λ (bs : List ℕ). nat_lt (line_length bs) (length bs)) (sym is) ∙ ap (λ k. nat_lt k (length slice)) (sym n) ∙ ended in
    e ∙ ap (drop 1) m ∙ drop-drop 1 count u ∙ ap (λ k. drop (k + 1) u) size ∙ ap (λ b. if b then drop (line_length u + 1) u else []) (sym newline)

pub none_taken : (known : Option (List ℕ)) (line : List ℕ) → line ≡ [] → Consumes known known line
none_taken None line e = tt
none_taken (Some xs) line e = ap (λ (bs : List ℕ). bs ++ xs) (sym e)

-- ---- all of an input

-- where nothing is left, what was kept is all
pub all_kept : (old mid now : Option (List ℕ)) (line : List ℕ) → Consumes old mid line → Keeps mid now → IsAtEnd now → IfSome old (λ bytes. AreAll bytes line now)
all_kept None mid now line front kept end = tt
all_kept (Some xs) None now line front kept end = absurd front
all_kept (Some xs) (Some ys) None line front kept end = absurd kept
all_kept (Some xs) (Some ys) (Some zs) line front kept end =
    record { all = sym (front ∙ ap (λ (bs : List ℕ). line ++ bs) (sym kept ∙ end) ∙ append-nil line); behind = ap Some end }

-- all that was read is taken
pub goes_on : (old mid known : Option (List ℕ)) (u rest line more : List ℕ) → Consumes old mid line → Keeps mid (prepend_known u known) → more ≡ line ++ u → rest ≡ []
    → Consumes old (prepend_known rest known) more
goes_on old mid known u rest line more front kept m r =
    subst (λ (bs : List ℕ). Consumes old (prepend_known bs known) more) (sym r)
    (subst (λ (bs : List ℕ). Consumes old (prepend_known [] known) bs) (sym m) (taken old mid u [] [] u line known front kept (sym (append-nil u))))

-- ---- lines

plain_step : (b : Bool) (n m k l big : ℕ) → big ≡ l + 1 → (n ≡ l → m ≡ l + k) → cond b (1 + n) 0 ≡ big → cond b (1 + m) 0 ≡ big + k
plain_step true n m k l big size ih e = let same : n ≡ l = omega (arith, e, size) in omega (arith, ih same, size)
plain_step false n m k l big size ih e = absurd (omega (arith, e, size))

-- no newline stands in the first of them
plain_more : (xs ys : List ℕ) → line_length xs ≡ length xs → line_length (xs ++ ys) ≡ length xs + line_length ys
plain_more [] ys plain = omega arith
plain_more (x ∷ xs) ys plain =
    plain_step (not (x == 10)) (line_length xs) (line_length (xs ++ ys)) (line_length ys) (length xs) (length (x ∷ xs)) (omega arith) (plain_more xs ys) plain

-- a newline after bytes without one
split_line : (p rest : List ℕ) → line_length p ≡ length p → first_line (p ++ 10 ∷ rest) ≡ (without_return p, rest)
split_line p rest plain =
    let xs : List ℕ = p ++ 10 ∷ rest in
    let size : line_length xs ≡ length p = plain_more p (10 ∷ rest) plain ∙ (let zero_more : length p + 0 ≡ length p = omega arith in zero_more) in
    let more : length p < length xs = omega (arith, length-append p (10 ∷ rest)) in
    let ended : has_newline xs ≡ true = ap (λ n. nat_lt n (length xs)) size ∙ grind (arith, nat_tests, more) in
    let front : take (line_length xs) xs ≡ p = ap (λ n. take n xs) size ∙ take-append-le (length p) p (10 ∷ rest) (omega arith) ∙ take_all (length p) p (omega arith) in
    let left : drop (length p) xs ≡ 10 ∷ rest = drop-append-le (length p) p (10 ∷ rest) (omega arith) ∙ ap (λ (bs : List ℕ). bs ++ 10 ∷ rest) (drop_all (length p) p (omega arith)) in
    let behind : drop (line_length xs + 1) xs ≡ rest = ap (λ n. drop (n + 1) xs) size ∙ sym (drop-drop 1 (length p) xs) ∙ ap (drop 1) left in
    ap (λ b. if b then (without_return (take (line_length xs) xs), drop (line_length xs + 1) xs) else (xs, [])) ended
    ∙ (λ i. (without_return (front i), behind i))

-- a line without a newline
whole_line : (line : List ℕ) → line_length line ≡ length line → first_line line ≡ (line, [])
whole_line line plain =
    let none : has_newline line ≡ false = ap (λ n. nat_lt n (length line)) plain ∙ grind (arith, nat_tests) in
    ap (λ b. if b then (without_return (take (line_length line) line), drop (line_length line + 1) line) else (line, [])) none

record Newline (u : List ℕ) : Type 0 where
  pub parts : u ≡ take (line_length u) u ++ 10 ∷ drop (line_length u + 1) u
  pub plain : line_length (take (line_length u) u) ≡ length (take (line_length u) u)

bool_cases : (v : Bool) → (v ≡ true) ⊎ (v ≡ false)
bool_cases true = inl refl
bool_cases false = inr refl

newline_there : (u : List ℕ) → has_newline u ≡ true → Newline u
newline_there [] e = absurd cc
newline_there (b ∷ bs) e = elim (bool_cases (b == 10)) [
  | inl is ↦
      let size : line_length (b ∷ bs) ≡ 0 = ap (λ v. cond (not v) (1 + line_length bs) 0) is in
      record {
        parts = ap (λ c. c ∷ bs) (eqb-true b 10 is) ∙ ap (λ n. take n (b ∷ bs) ++ 10 ∷ drop (n + 1) (b ∷ bs)) (sym size);
        plain = ap (λ n. line_length (take n (b ∷ bs))) size ∙ sym (ap (λ n. length (take n (b ∷ bs))) size);
      }
  | inr other ↦
      let size : line_length (b ∷ bs) ≡ suc (line_length bs) = ap (λ v. cond (not v) (1 + line_length bs) 0) other ∙ (let one : 1 + line_length bs ≡ suc (line_length bs) = omega arith in one) in
      let more : has_newline bs ≡ true = grind (arith, nat_tests, e, size) in
      let rest : Newline bs = newline_there bs more in
      let front : take (line_length (b ∷ bs)) (b ∷ bs) ≡ b ∷ take (line_length bs) bs = ap (λ n. take n (b ∷ bs)) size in
      let behind : drop (line_length (b ∷ bs) + 1) (b ∷ bs) ≡ drop (line_length bs + 1) bs =
      sym (drop-drop 1 (line_length (b ∷ bs)) (b ∷ bs)) ∙ ap (λ n. drop 1 (drop n (b ∷ bs))) size ∙ drop-drop 1 (line_length bs) bs in
      record {
        parts = ap (λ (cs : List ℕ). b ∷ cs) rest.parts ∙ (λ i. sym front i ++ 10 ∷ sym behind i);
        plain = ap line_length front ∙ ap (λ v. cond (not v) (1 + line_length (take (line_length bs) bs)) 0) other ∙ omega (arith, rest.plain, ap length front);
      }
]

-- the last line
pub last_line : (old mid now : Option (List ℕ)) (line : List ℕ) (some : Bool) → Consumes old mid line → Keeps mid now → IsAtEnd now → line_length line ≡ length line → some ≡ nat_lt 0 (length line)
    → IfSome old (λ bytes. IsNextLine bytes some line now)
last_line None mid now line some front kept end plain there = tt
last_line (Some xs) None now line some front kept end plain there = absurd front
last_line (Some xs) (Some ys) None line some front kept end plain there = absurd kept
last_line (Some xs) (Some ys) (Some zs) line some front kept end plain there =
    let all : line ≡ xs = sym (front ∙ ap (λ (bs : List ℕ). line ++ bs) (sym kept ∙ end) ∙ append-nil line) in
    let first : (line, []) ≡ first_line xs = sym (whole_line line plain) ∙ ap first_line all in
    record { there = there ∙ ap (λ (bs : List ℕ). nat_lt 0 (length bs)) all; first = ap (λ (p : List ℕ × List ℕ). p.0) first; behind = ap Some (end ∙ ap (λ (p : List ℕ × List ℕ). p.1) first) }

-- a line that a newline ends
pub ended_line : (old mid known : Option (List ℕ)) (u rest line more whole : List ℕ) → Consumes old mid line → line_length line ≡ length line → Keeps mid (prepend_known u known) → has_newline u ≡ true
    → more ≡ line ++ take (line_length u) u → rest ≡ drop (line_length u + 1) u → whole ≡ without_return more → IfSome old (λ bytes. IsNextLine bytes true whole (prepend_known rest known))
ended_line None mid known u rest line more whole front plain kept newline m r w = tt
ended_line (Some xs) None known u rest line more whole front plain kept newline m r w = absurd front
ended_line (Some xs) (Some ys) None u rest line more whole front plain kept newline m r w = absurd kept
ended_line (Some xs) (Some ys) (Some zs) u rest line more whole front plain kept newline m r w =
    let n : Newline u = newline_there u newline in
    let piece : List ℕ = take (line_length u) u in
    let all : xs ≡ more ++ 10 ∷ (rest ++ zs) =
    front ∙ ap (λ (bs : List ℕ). line ++ bs) (sym kept ∙ ap (λ (bs : List ℕ). bs ++ zs) (n.parts ∙ ap (λ (bs : List ℕ). piece ++ 10 ∷ bs) (sym r)) ∙ append_assoc piece (10 ∷ rest) zs)
    ∙ sym (append_assoc line piece (10 ∷ (rest ++ zs))) ∙ ap (λ (bs : List ℕ). bs ++ 10 ∷ (rest ++ zs)) (sym m) in
    let joined : line_length more ≡ length more =
    ap line_length m ∙ plain_more line piece plain ∙ omega (arith, n.plain, length-append line piece, ap length m) in
    let first : (without_return more, rest ++ zs) ≡ first_line xs = sym (split_line more (rest ++ zs) joined) ∙ ap first_line (sym all) in
    let long : 0 < length xs = omega (arith, ap length all, length-append more (10 ∷ (rest ++ zs))) in
    record { there = grind (arith, nat_tests, long); first = w ∙ ap (λ (p : List ℕ × List ℕ). p.0) first; behind = ap (λ (p : List ℕ × List ℕ). Some p.1) first }

-- the line goes on
pub line_goes_on : (old mid known : Option (List ℕ)) (u rest line more : List ℕ) → Consumes old mid line → Keeps mid (prepend_known u known) → has_newline u ≡ false
    → more ≡ line ++ take (line_length u) u → rest ≡ [] → Consumes old (prepend_known rest known) more
line_goes_on old mid known u rest line more front kept none m r =
    goes_on old mid known u rest line more front kept (m ∙ ap (λ (bs : List ℕ). line ++ bs) (take_all (line_length u) u (grind (arith, nat_tests, none)))) r

within : (u : List ℕ) → line_length u ≤ length u
within [] = omega arith
within (b ∷ bs) = shorter (not (b == 10)) (line_length bs) (length bs) (within bs)
  where
    shorter : (v : Bool) (n m : ℕ) → n ≤ m → cond v (1 + n) 0 ≤ suc m
    shorter true n m le = omega (arith, le)
    shorter false n m le = omega arith

pub plain_on : (u line more : List ℕ) → line_length line ≡ length line → has_newline u ≡ false → more ≡ line ++ take (line_length u) u → line_length more ≡ length more
plain_on u line more plain none m =
    let no_less : length u ≤ line_length u = grind (arith, nat_tests, none) in
    let all : more ≡ line ++ u = m ∙ ap (λ (bs : List ℕ). line ++ bs) (take_all (line_length u) u no_less) in
    ap line_length all ∙ plain_more line u plain ∙ omega (arith, within u, no_less, length-append line u, ap length all)

-- ---- the same of what the code has

not_empty : (bs : List ℕ) → not (length bs == 0) ≡ nat_lt 0 (length bs)
not_empty [] = refl
not_empty (b ∷ bs) = grind (arith, nat_tests)

pub all_now : (old mid now : Option (List ℕ)) (line new : List ℕ) → Consumes old mid line → Keeps mid now → IsAtEnd now → new ≡ line → IfSome old (λ bytes. AreAll bytes new now)
all_now old mid now line new front kept end e = subst (λ (bs : List ℕ). IfSome old (λ bytes. AreAll bytes bs now)) (sym e) (all_kept old mid now line front kept end)

pub goes_on_now : (old mid known later : Option (List ℕ)) (u rest line new more : List ℕ) → Consumes old mid line → Keeps mid (prepend_known u known) → new ≡ line → more ≡ new ++ u → rest ≡ [] → later ≡ known
    → Consumes old (prepend_known rest later) more
goes_on_now old mid known later u rest line new more front kept e m r k =
    subst (λ (o : Option (List ℕ)). Consumes old (prepend_known rest o) more) (sym k) (goes_on old mid known u rest line more front kept (m ∙ ap (λ (bs : List ℕ). bs ++ u) e) r)

pub last_now : (old mid now : Option (List ℕ)) (line new slice : List ℕ) (empty : Bool) → Consumes old mid line → Keeps mid now → IsAtEnd now → line_length line ≡ length line → new ≡ line → slice ≡ new → empty ≡ (length slice == 0)
    → IfSome old (λ bytes. IsNextLine bytes (not empty) new now)
last_now old mid now line new slice empty front kept end plain e s b =
    let there : not empty ≡ nat_lt 0 (length line) = ap not b ∙ ap (λ (bs : List ℕ). not (length bs == 0)) (s ∙ e) ∙ not_empty line in
    subst (λ (bs : List ℕ). IfSome old (λ bytes. IsNextLine bytes (not empty) bs now)) (sym e) (last_line old mid now line (not empty) front kept end plain there)

pub ended_now : (old mid known later : Option (List ℕ)) (u rest left line new more whole : List ℕ) (ended : Bool) → Consumes old mid line → line_length line ≡ length line → Keeps mid (prepend_known u known)
    → ended ≡ has_newline u → ended ≡ true → new ≡ line → more ≡ new ++ take (line_length u) u → rest ≡ (if has_newline u then drop (line_length u + 1) u else []) → whole ≡ without_return more
    → left ≡ rest → later ≡ known → IfSome old (λ bytes. IsNextLine bytes true whole (prepend_known left later))
ended_now old mid known later u rest left line new more whole ended front plain kept h t e m r w l k =
    let newline : has_newline u ≡ true = sym h ∙ t in
    let behind : left ≡ drop (line_length u + 1) u = l ∙ r ∙ ap (λ b. if b then drop (line_length u + 1) u else []) newline in
    subst (λ (o : Option (List ℕ)). IfSome old (λ bytes. IsNextLine bytes true whole (prepend_known left o))) (sym k)
    (ended_line old mid known u left line more whole front plain kept newline (m ∙ ap (λ (bs : List ℕ). bs ++ take (line_length u) u) e) behind w)

pub line_goes_on_now : (old mid known later : Option (List ℕ)) (u rest line new more : List ℕ) (ended : Bool) → Consumes old mid line → Keeps mid (prepend_known u known) → ended ≡ has_newline u → ended ≡ false
    → new ≡ line → more ≡ new ++ take (line_length u) u → rest ≡ (if has_newline u then drop (line_length u + 1) u else []) → later ≡ known → Consumes old (prepend_known rest later) more
line_goes_on_now old mid known later u rest line new more ended front kept h t e m r k =
    let none : has_newline u ≡ false = sym h ∙ t in
    let nothing : rest ≡ [] = r ∙ ap (λ b. if b then drop (line_length u + 1) u else []) none in
    subst (λ (o : Option (List ℕ)). Consumes old (prepend_known rest o) more) (sym k)
    (line_goes_on old mid known u rest line more front kept none (m ∙ ap (λ (bs : List ℕ). bs ++ take (line_length u) u) e) nothing)

pub plain_on_now : (u line new more : List ℕ) (ended : Bool) → line_length line ≡ length line → ended ≡ has_newline u → ended ≡ false → new ≡ line → more ≡ new ++ take (line_length u) u → line_length more ≡ length more
plain_on_now u line new more ended plain h t e m = plain_on u line more plain (sym h ∙ t) (m ∙ ap (λ (bs : List ℕ). bs ++ take (line_length u) u) e)

-- ---- lines that are too long

-- a longer one is so too
longer : (e : InputFault) (m n : ℕ) → m ≤ n → LongFor e m → LongFor e n
longer OutOfMemory m n le long = tt
longer Read m n le long = tt
longer TooLong m n le long = omega (arith, le, long)

-- a fault that tells of no length
pub any_fault : (old : Option (List ℕ)) (e : InputFault) (size : List ℕ → ℕ) → ((n : ℕ) → LongFor e n) → IfSome old (λ bytes. LongFor e (size bytes))
any_fault None e size all = tt
any_fault (Some xs) e size all = all (size xs)

-- more bytes make a line no shorter
step_on : (v : Bool) (n m : ℕ) → n ≤ m → cond v (1 + n) 0 ≤ cond v (1 + m) 0
step_on true n m le = omega (arith, le)
step_on false n m le = omega arith

grows : (xs ys : List ℕ) → line_length xs ≤ line_length (xs ++ ys)
grows [] ys = omega arith
grows (x ∷ xs) ys = step_on (not (x == 10)) (line_length xs) (line_length (xs ++ ys)) (grows xs ys)

-- the line so far and what was read are of the first line
pub line_fault : (old mid known : Option (List ℕ)) (u line new : List ℕ) (e : InputFault) → Consumes old mid line → line_length line ≡ length line → Keeps mid (prepend_known u known)
    → new ≡ line → LongFor e (length new + line_length u) → IfSome old (λ bytes. LongFor e (line_length bytes))
line_fault None mid known u line new e front plain kept same long = tt
line_fault (Some xs) None known u line new e front plain kept same long = absurd front
line_fault (Some xs) (Some ys) None u line new e front plain kept same long = absurd kept
line_fault (Some xs) (Some ys) (Some zs) u line new e front plain kept same long =
    let all : xs ≡ line ++ (u ++ zs) = front ∙ ap (λ (bs : List ℕ). line ++ bs) (sym kept) in
    let size : line_length xs ≡ length line + line_length (u ++ zs) = ap line_length all ∙ plain_more line (u ++ zs) plain in
    longer e (length new + line_length u) (line_length xs) (omega (arith, size, grows u zs, ap length same)) long

-- and of the whole input
pub all_fault : (old mid known : Option (List ℕ)) (u line new : List ℕ) (e : InputFault) → Consumes old mid line → Keeps mid (prepend_known u known)
    → new ≡ line → LongFor e (length new + length u) → IfSome old (λ bytes. LongFor e (length bytes))
all_fault None mid known u line new e front kept same long = tt
all_fault (Some xs) None known u line new e front kept same long = absurd front
all_fault (Some xs) (Some ys) None u line new e front kept same long = absurd kept
all_fault (Some xs) (Some ys) (Some zs) u line new e front kept same long =
    let all : xs ≡ line ++ (u ++ zs) = front ∙ ap (λ (bs : List ℕ). line ++ bs) (sym kept) in
    longer e (length new + length u) (length xs) (omega (arith, ap length all, length-append line (u ++ zs), length-append u zs, ap length same)) long

-- the last line is as long as what was read of it
pub last_fits : (old mid now : Option (List ℕ)) (line : List ℕ) → Consumes old mid line → Keeps mid now → IsAtEnd now → line_length line ≡ length line → length line ≤ longest
    → IfSome old (λ bytes. line_length bytes ≤ longest)
last_fits None mid now line front kept end plain fits = tt
last_fits (Some xs) None now line front kept end plain fits = absurd front
last_fits (Some xs) (Some ys) None line front kept end plain fits = absurd kept
last_fits (Some xs) (Some ys) (Some zs) line front kept end plain fits =
    let all : xs ≡ line = front ∙ ap (λ (bs : List ℕ). line ++ bs) (sym kept ∙ end) ∙ append-nil line in
    omega (arith, ap line_length all, plain, fits)

-- and so is one that a newline ends
pub ended_fits : (old mid known : Option (List ℕ)) (u line new more : List ℕ) (ended : Bool) → Consumes old mid line → line_length line ≡ length line → Keeps mid (prepend_known u known)
    → ended ≡ has_newline u → ended ≡ true → new ≡ line → more ≡ new ++ take (line_length u) u → length more ≤ longest → IfSome old (λ bytes. line_length bytes ≤ longest)
ended_fits None mid known u line new more ended front plain kept h t same m fits = tt
ended_fits (Some xs) None known u line new more ended front plain kept h t same m fits = absurd front
ended_fits (Some xs) (Some ys) None u line new more ended front plain kept h t same m fits = absurd kept
ended_fits (Some xs) (Some ys) (Some zs) u line new more ended front plain kept h t same m fits =
    let n : Newline u = newline_there u (sym h ∙ t) in
    let piece : List ℕ = take (line_length u) u in
    let behind : List ℕ = drop (line_length u + 1) u ++ zs in
    let all : xs ≡ line ++ (u ++ zs) = front ∙ ap (λ (bs : List ℕ). line ++ bs) (sym kept) in
    let split : u ++ zs ≡ piece ++ 10 ∷ behind = ap (λ (bs : List ℕ). bs ++ zs) n.parts ∙ append_assoc piece (10 ∷ drop (line_length u + 1) u) zs in
    let stops : line_length (10 ∷ behind) ≡ 0 = refl in
    let size : line_length (u ++ zs) ≡ length piece = ap line_length split ∙ plain_more piece (10 ∷ behind) n.plain ∙ omega (arith, stops) in
    let whole : line_length xs ≡ length line + length piece = ap line_length all ∙ plain_more line (u ++ zs) plain ∙ ap (λ k. length line + k) size in
    omega (arith, whole, ap length m, ap length same, length-append new piece, fits)

-- ---- at a fault

pub none_lost : (old mid now : Option (List ℕ)) (line new : List ℕ) → Consumes old mid line → Keeps mid now → new ≡ line → Consumes old now new
none_lost None mid now line new front kept same = tt
none_lost (Some xs) None now line new front kept same = absurd front
none_lost (Some xs) (Some ys) None line new front kept same = absurd kept
none_lost (Some xs) (Some ys) (Some zs) line new front kept same = front ∙ (λ i. sym same i ++ sym kept i)

pub none_taken_lost : (old mid known later : Option (List ℕ)) (u rest line new more : List ℕ) → Consumes old mid line → Keeps mid (prepend_known u known) → new ≡ line
    → more ≡ new → rest ≡ u → later ≡ known → Consumes old (prepend_known rest later) more
none_taken_lost old mid known later u rest line new more front kept same m r k =
    subst (λ (o : Option (List ℕ)). Consumes old (prepend_known rest o) more) (sym k)
    (subst (λ (bs : List ℕ). Consumes old (prepend_known bs known) more) (sym r) (none_lost old mid (prepend_known u known) line more front kept (m ∙ same)))

-- nothing was read, and nothing is left of what was
pub still_none : (known later : Option (List ℕ)) (front new : List ℕ) → front ≡ [] → Keeps known later → new ≡ [] → Keeps (prepend_known front known) (prepend_known new later)
still_none None later front new none kept n = tt
still_none (Some xs) None front new none kept n = absurd kept
still_none (Some xs) (Some ys) front new none kept n = (λ i. n i ++ kept i) ∙ ap (λ (bs : List ℕ). bs ++ xs) (sym none)

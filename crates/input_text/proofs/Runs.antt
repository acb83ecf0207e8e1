-- Runs of bytes that stand for themselves, and places that a search finds.
use Rattle.std.proofs.Common.{◌≡◌, ℕ, suc, ◌+◌, ◌<◌, ◌≤◌, Bool, true, false, cond, List, [], ◌∷◌, ◌++◌, length, take, drop, Option, Some, None, Result, Ok, Err, refl, sym, ap, ◌∙◌, append_assoc, arith, slice_index, nat_lt}
use Rattle.std.specs.Prelude.{position, ◌==◌}
use Rattle.std.specs.List.{list_all, position_or_len}
use Rattle.std.proofs.lemmas.Bool.{false≢true}
use Rattle.std.proofs.lemmas.Bool.Decides.{nat_tests}
use Rattle.std.proofs.lemmas.List.{append-nil, drop-drop, take-append-drop, take_more, length-take-le, drop_more}
use Rattle.std.proofs.lemmas.List.Sums.{position_or_len_is}
use Rattle.std.proofs.lemmas.Grind.{flat_map-append}
use Rattle.std.proofs.Math.Seq.{take-add}
use Rattle.memchr.specs.Find.{IsFirstByte, is_byte}
use Rattle.input_text.specs.Printing.{stands_for_itself, first_spelling, printed, printed_byte, onto, unprinted_from}
use Rattle.input_text.proofs.Reading.{onto_all, unprinted_from-spelled}

-- places

place_at : (n len : ℕ) → n < len → cond (nat_lt n len) (Some n) None ≡ Some n
place_at n len lt = grind (arith, nat_tests)

place_none : (n len : ℕ) → len ≤ n → cond (nat_lt n len) (Some n) None ≡ None
place_none n len le = grind (arith, nat_tests)

-- the next two bytes and what follows them
pub drop_two : (text : List ℕ) (place : ℕ) → place + 2 ≤ length text → drop place text ≡ slice_index text place ∷ slice_index text (place + 1) ∷ drop (place + 2) text
drop_two text place fits =
    let after : place + 1 + 1 ≡ place + 2 = omega arith in
    drop_more text place 0 (omega arith) ∙ ap (λ (bs : List ℕ). slice_index text place ∷ bs) (drop_more text (place + 1) 0 (omega arith) ∙ ap (λ n. slice_index text (place + 1) ∷ drop n text) after)

-- what memchr finds is the first place
pub found_is_position : (byte : ℕ) (bytes : List ℕ) (r : Option ℕ) → IsFirstByte (is_byte byte) bytes r → r ≡ position (λ b. b == byte) bytes
found_is_position byte bytes (Some k) (between, is) =
    let at : position_or_len (λ b. b == byte) bytes ≡ k = position_or_len_is (λ b. b == byte) bytes k 0 (omega (arith, between.high)) (λ j lt. by_test j lt (slice_index bytes j == byte) refl) (λ lt. is) in
    sym (ap (λ n. cond (nat_lt n (length bytes)) (Some n) None) at ∙ place_at k (length bytes) between.high)
  where
    by_test : (j : ℕ) → j < k → (b : Bool) → (slice_index bytes j == byte) ≡ b → (slice_index bytes j == byte) ≡ false
    by_test j lt true e = absurd (between.before j (omega arith) lt e)
    by_test j lt false e = e
found_is_position byte bytes None nowhere =
    let at : position_or_len (λ b. b == byte) bytes ≡ length bytes = position_or_len_is (λ b. b == byte) bytes (length bytes) 0 (omega arith) (λ j lt. by_test j lt (slice_index bytes j == byte) refl) (λ lt. absurd (omega (arith, lt))) in
    sym (ap (λ n. cond (nat_lt n (length bytes)) (Some n) None) at ∙ place_none (length bytes) (length bytes) (omega arith))
  where
    by_test : (j : ℕ) → j < length bytes → (b : Bool) → (slice_index bytes j == byte) ≡ b → (slice_index bytes j == byte) ≡ false
    by_test j lt true e = absurd (nowhere j (omega arith) lt e)
    by_test j lt false e = e

-- runs

-- a byte that is written as itself
pub plain_printed : (b : ℕ) → stands_for_itself b ≡ true → printed_byte b ≡ b ∷ []
unfolding printed_byte
plain_printed b is = grind (arith, nat_tests)

plain_spelling : (b : ℕ) (rest : List ℕ) → stands_for_itself b ≡ true → first_spelling (b ∷ rest) ≡ Some (b, 1)
unfolding first_spelling
plain_spelling b rest is = grind (arith, nat_tests)

abbrev pub IsRun : List ℕ → Type 0
IsRun bytes = list_all stands_for_itself bytes ≡ true

head_is : (b : ℕ) (bs : List ℕ) (t : Bool) → stands_for_itself b ≡ t → IsRun (b ∷ bs) → stands_for_itself b ≡ true
head_is b bs true e run = e
head_is b bs false e run = absurd (false≢true (rw e at run))

tail_is : (b : ℕ) (bs : List ℕ) (t : Bool) → stands_for_itself b ≡ t → IsRun (b ∷ bs) → IsRun bs
tail_is b bs true e run = rw e at run
tail_is b bs false e run = absurd (false≢true (rw e at run))

-- a run is written as it stands
pub printed_run : (bytes : List ℕ) → IsRun bytes → printed bytes ≡ bytes
printed_run [] run = refl
printed_run (b ∷ bs) run =
    let is = head_is b bs (stands_for_itself b) refl run in
    let rest = printed_run bs (tail_is b bs (stands_for_itself b) refl run) in
    ap (λ (front : List ℕ). front ++ printed bs) (plain_printed b is) ∙ ap (λ (ys : List ℕ). b ∷ ys) rest

onto_all-step : (b : ℕ) (bs : List ℕ) (read : Result (List ℕ) ℕ) → onto b (onto_all bs read) ≡ onto_all (b ∷ bs) read
onto_all-step b bs (Ok ys) = refl
onto_all-step b bs (Err place) = refl

onto_all-nil : (read : Result (List ℕ) ℕ) → onto_all [] read ≡ read
onto_all-nil (Ok ys) = refl
onto_all-nil (Err place) = refl

onto_all-append : (xs ys : List ℕ) (read : Result (List ℕ) ℕ) → onto_all xs (onto_all ys read) ≡ onto_all (xs ++ ys) read
onto_all-append xs ys (Ok zs) = ap (λ (bs : List ℕ). Ok bs) (sym (append_assoc xs ys zs))
onto_all-append xs ys (Err place) = refl

-- a run spells itself, and then comes what follows
unprinted_run : (place : ℕ) (run rest : List ℕ) → IsRun run → unprinted_from place 0 (run ++ rest) ≡ onto_all run (unprinted_from (place + length run) 0 rest)
unprinted_run place [] rest is = sym (onto_all-nil _) ∙ ap (λ p. onto_all [] (unprinted_from p 0 rest)) (omega arith)
unprinted_run place (b ∷ bs) rest is =
    let plain = head_is b bs (stands_for_itself b) refl is in
    let one = unprinted_from-spelled place b 1 (b ∷ (bs ++ rest)) (plain_spelling b (bs ++ rest) plain) (omega arith) (omega arith) in
    let others = unprinted_run (place + 1) bs rest (tail_is b bs (stands_for_itself b) refl is) in
    let next : place + 1 + length bs ≡ place + suc (length bs) = omega arith in
    one ∙ ap (onto b) (others ∙ ap (λ p. onto_all bs (unprinted_from p 0 rest)) next) ∙ onto_all-step b bs (unprinted_from (place + suc (length bs)) 0 rest)

-- the loop's step over a run
pub runs_on : (front text : List ℕ) (place size : ℕ) (whole : Result (List ℕ) ℕ) → IsRun (take size (drop place text)) → size ≤ length (drop place text)
    → onto_all front (unprinted_from place 0 (drop place text)) ≡ whole → onto_all (front ++ take size (drop place text)) (unprinted_from (place + size) 0 (drop (place + size) text)) ≡ whole
runs_on front text place size whole run fits so_far =
    let left = drop place text in
    let split : take size left ++ drop size left ≡ left = take-append-drop size left in
    let long : length (take size left) ≡ size = length-take-le size left fits in
    let after : drop size left ≡ drop (place + size) text = drop-drop size place text in
    let read : unprinted_from place 0 left ≡ onto_all (take size left) (unprinted_from (place + size) 0 (drop (place + size) text)) =
    ap (λ (bs : List ℕ). unprinted_from place 0 bs) (sym split) ∙ (unprinted_run place (take size left) (drop size left) run
    ∙ (ap (λ n. onto_all (take size left) (unprinted_from (place + n) 0 (drop size left))) long ∙ ap (λ (bs : List ℕ). onto_all (take size left) (unprinted_from (place + size) 0 bs)) after)) in
    sym (onto_all-append front (take size left) (unprinted_from (place + size) 0 (drop (place + size) text))) ∙ (ap (onto_all front) (sym read) ∙ so_far)

-- the printing loop's step over a run
pub prints_on : (out text : List ℕ) (place size : ℕ) → IsRun (take size (drop place text)) → (out ++ printed (take place text)) ++ take size (drop place text) ≡ out ++ printed (take (place + size) text)
prints_on out text place size run =
    let both : take place text ++ take size (drop place text) ≡ take (place + size) text = sym (take-add place size text) in
    append_assoc out (printed (take place text)) (take size (drop place text))
    ∙ ap (λ (bs : List ℕ). out ++ bs)
    (ap (λ (bs : List ℕ). printed (take place text) ++ bs) (sym (printed_run (take size (drop place text)) run))
    ∙ (sym (flat_map-append printed_byte (take place text) (take size (drop place text))) ∙ ap printed both))

-- and over one byte
pub prints_byte : (out text : List ℕ) (place : ℕ) → place < length text → (out ++ printed (take place text)) ++ printed_byte (slice_index text place) ≡ out ++ printed (take (place + 1) text)
prints_byte out text place lt =
    let b = slice_index text place in
    let more : printed (take (place + 1) text) ≡ printed (take place text) ++ printed_byte b =
    ap printed (take_more text place 0 lt) ∙ (flat_map-append printed_byte (take place text) (b ∷ []) ∙ ap (λ (bs : List ℕ). printed (take place text) ++ bs) (append-nil (printed_byte b))) in
    append_assoc out (printed (take place text)) (printed_byte b) ∙ ap (λ (bs : List ℕ). out ++ bs) (sym more)

-- and over all that is left
pub prints_all : (out text : List ℕ) (place : ℕ) → (out ++ printed (take place text)) ++ printed (drop place text) ≡ out ++ printed text
prints_all out text place =
    append_assoc out (printed (take place text)) (printed (drop place text))
    ∙ ap (λ (bs : List ℕ). out ++ bs) (sym (flat_map-append printed_byte (take place text) (drop place text)) ∙ ap printed (take-append-drop place text))

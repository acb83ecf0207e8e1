-- A record that was put is taken, and one that is cut off is told so.
use Rattle.std.proofs.Common.{◌≡◌, ℕ, zero, suc, ◌+◌, ◌-◌, ◌<◌, ◌≤◌, ◌^◌, ◌==◌, Bool, true, false, cond, List, [], ◌∷◌, ◌++◌, length, take, nat_lt, Some, None, inl, inr, refl, ap, ◌∙◌, arith, append_assoc, length-append}
use Rattle.std.specs.Prelude.{nat_le}
use Rattle.std.proofs.lemmas.Bool.{cases_lt, and_parts}
use Rattle.std.proofs.lemmas.Bool.Decides.{nat_tests}
use Rattle.std.proofs.lemmas.List.{take_at, drop_at, take-append-le}
use Rattle.std.specs.Int.{w64, to_be_bytes}
use Rattle.sha2.specs.Sha256.{sha256, digest_bytes}
use Rattle.codec.specs.Fields.{u64_at}
use Rattle.codec.proofs.FieldsBack.{not_less, u64_at-put}
use Rattle.kept_logs.specs.Frames.{largest, most_body, is_size, no_record, first_check, second_check, check_of, frame_text, met, Framed, CutOff, behind_length, sized_frame, body_at, frame_at}
use Rattle.kept_logs.proofs.Meeting.{met-append, met-short}

first_length : (number : ℕ) (body : List ℕ) → length (first_check number body) ≡ 8
unfolding first_check sha256 digest_bytes
first_length number body = refl

second_length : (number : ℕ) (body : List ℕ) → length (second_check number body) ≡ 8
unfolding second_check
second_length number body = refl

pub check_length : (version number : ℕ) (body : List ℕ) → length (check_of version number body) ≡ 8
unfolding check_of
check_length version number body = by_version (version == 1)
  where
    by_version : (first : Bool) → length (cond first (first_check number body) (second_check number body)) ≡ 8
    by_version true = first_length number body
    by_version false = second_length number body

-- a cut beyond the front
pub take_over : (front rest : List ℕ) (n : ℕ) → length front ≤ n → take n (front ++ rest) ≡ front ++ take (n - length front) rest
take_over [] rest n h = let e : n ≡ n - 0 = omega arith in ap (λ m. take m rest) e
take_over (x ∷ front) rest zero h = absurd (omega arith)
take_over (x ∷ front) rest (suc n) h =
    let e : n - length front ≡ suc n - suc (length front) = omega arith in
    ap (λ t. x ∷ t) (take_over front rest n (omega arith) ∙ ap (λ m. front ++ take m rest) e)

pub taken_at_most : (n : ℕ) (xs : List ℕ) → length (take n xs) ≤ n
taken_at_most zero xs = omega arith
taken_at_most (suc n) [] = omega arith
taken_at_most (suc n) (x ∷ xs) = let inner = taken_at_most n xs in omega arith

short_u64 : (bytes : List ℕ) → length bytes < 8 → u64_at bytes ≡ None
unfolding u64_at
short_u64 bytes h = rw (less (length bytes) h) refl
  where
    less : (m : ℕ) → m < 8 → nat_lt m 8 ≡ true
    less m h = grind (arith, nat_tests)

body_at-put : (version number : ℕ) (body after : List ℕ) → body_at version number (length body) (body ++ (check_of version number body ++ after)) ≡ Framed body after
unfolding body_at
body_at-put version number body after =
    let rest : List ℕ = check_of version number body ++ after in
    rw (not_less (length (body ++ rest)) (length body) (omega (arith, length-append body rest)), take_at body rest (length body) refl, drop_at body rest (length body) refl, met-append (check_of version number body) after) refl

frame_text-append : (version number : ℕ) (body after : List ℕ) → frame_text version number body ++ after ≡ to_be_bytes w64 (length body) ++ (to_be_bytes w64 (largest - length body) ++ (body ++ (check_of version number body ++ after)))
unfolding frame_text
frame_text-append version number body after = joined (to_be_bytes w64 (length body)) (to_be_bytes w64 (largest - length body)) body (check_of version number body)
  where
    joined : (a b c d : List ℕ) → (a ++ (b ++ (c ++ d))) ++ after ≡ a ++ (b ++ (c ++ (d ++ after)))
    joined a b c d = simp append_assoc

pub frame_length : (version number : ℕ) (body : List ℕ) → length (frame_text version number body) ≡ 16 + (length body + 8)
unfolding frame_text
frame_length version number body = omega (arith, length-append body (check_of version number body), check_length version number body)

-- a length that a body may have is a number of eight bytes
size_fits : (size : ℕ) → is_size size ≡ true → size < 2 ^ 64
size_fits size e = let most = fits (and_parts (nat_lt 0 size) (nat_le size most_body) e).1 in omega (arith, most)
  where
    fits : nat_le size most_body ≡ true → size ≤ most_body
    fits t = grind (arith, nat_tests)

sized : (version number : ℕ) (body rest : List ℕ) → is_size (length body) ≡ true → sized_frame version number (Some (length body, rest)) ≡ behind_length version number (length body) (met (to_be_bytes w64 (largest - length body)) rest)
sized version number body rest e = ap (λ b. cond b (behind_length version number (length body) (met (to_be_bytes w64 (largest - length body)) rest)) (no_record (length body) rest)) e

pub frame_at-put : (version number : ℕ) (body after : List ℕ) → is_size (length body) ≡ true → frame_at version number (frame_text version number body ++ after) ≡ Framed body after
unfolding frame_at
frame_at-put version number body after fits =
    let short = size_fits (length body) fits in
    let rest : List ℕ = body ++ (check_of version number body ++ after) in
    let mark : List ℕ = to_be_bytes w64 (largest - length body) in
    ap (frame_at version number) (frame_text-append version number body after)
    ∙ ap (sized_frame version number) (u64_at-put (length body) (mark ++ rest) short)
    ∙ sized version number body (mark ++ rest) fits
    ∙ ap (behind_length version number (length body)) (met-append mark rest)
    ∙ body_at-put version number body after

-- a cut within the body or after it
body_at-cut : (version number : ℕ) (body : List ℕ) (n : ℕ) → n < length body + 8 → body_at version number (length body) (take n (body ++ check_of version number body)) ≡ CutOff
unfolding body_at
body_at-cut version number body n h = elim (cases_lt n (length body)) [
  | inl within ↦ rw (less (length (take n (body ++ check_of version number body))) (length body) (omega (arith, taken_at_most n (body ++ check_of version number body), within))) refl
  | inr behind ↦ beyond behind
]
  where
    less : (m k : ℕ) → m < k → nat_lt m k ≡ true
    less m k h = grind (arith, nat_tests)

    beyond : length body ≤ n → body_at version number (length body) (take n (body ++ check_of version number body)) ≡ CutOff
    beyond behind =
        let sum : List ℕ = check_of version number body in
        let rest : List ℕ = take (n - length body) sum in
        ap (body_at version number (length body)) (take_over body sum n behind)
        ∙ rw (not_less (length (body ++ rest)) (length body) (omega (arith, length-append body rest)), take_at body rest (length body) refl, drop_at body rest (length body) refl, met-short sum (n - length body) (omega (arith, check_length version number body))) refl

-- a cut within the second length or after it
behind_length-cut : (version number : ℕ) (body : List ℕ) (n : ℕ) → n < 8 + (length body + 8)
    → behind_length version number (length body) (met (to_be_bytes w64 (largest - length body)) (take n (to_be_bytes w64 (largest - length body) ++ (body ++ check_of version number body)))) ≡ CutOff
behind_length-cut version number body n h = elim (cases_lt n 8) [
  | inl within ↦ ap (λ t. behind_length version number (length body) (met mark t)) (take-append-le n mark rest (omega arith)) ∙ ap (behind_length version number (length body)) (met-short mark n within)
  | inr behind ↦ ap (λ t. behind_length version number (length body) (met mark t)) (take_over mark rest n behind) ∙ ap (behind_length version number (length body)) (met-append mark (take (n - 8) rest)) ∙ body_at-cut version number body (n - 8) (omega arith)
]
  where
    mark : List ℕ
    mark = to_be_bytes w64 (largest - length body)

    rest : List ℕ
    rest = body ++ check_of version number body

pub frame_at-cut : (version number : ℕ) (body : List ℕ) (n : ℕ) → is_size (length body) ≡ true → n < length (frame_text version number body) → frame_at version number (take n (frame_text version number body)) ≡ CutOff
unfolding frame_at frame_text
frame_at-cut version number body n fits h = elim (cases_lt n 8) [
  | inl within ↦ ap (sized_frame version number) (short_u64 (take n (front ++ rest)) (omega (arith, taken_at_most n (front ++ rest), within)))
  | inr behind ↦ ap (frame_at version number) (take_over front rest n behind) ∙ ap (sized_frame version number) (u64_at-put (length body) (take (n - 8) rest) (size_fits (length body) fits)) ∙ sized version number body (take (n - 8) rest) fits ∙ behind_length-cut version number body (n - 8) (omega (arith, h, frame_length version number body, behind))
]
  where
    front : List ℕ
    front = to_be_bytes w64 (length body)

    rest : List ℕ
    rest = to_be_bytes w64 (largest - length body) ++ (body ++ check_of version number body)

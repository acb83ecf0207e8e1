-- The first bytes of the text of calls are read as the calls whose records stand whole in them.
use Rattle.std.proofs.Common.{◌≡◌, ℕ, zero, suc, ◌+◌, ◌-◌, ◌<◌, ◌≤◌, Bool, true, false, cond, List, [], ◌∷◌, ◌++◌, length, take, drop, nat_lt, Some, None, Result, Ok, refl, ap, ◌∙◌, sym, arith, append_assoc, append-nil, length-append}
use Rattle.std.proofs.lemmas.Bool.Decides.{nat_tests}
use Rattle.std.proofs.lemmas.List.{take-append-le}
use Rattle.std.specs.List.{AllByRecursion}
use Rattle.codec.specs.Fields.{u64_at}
use Rattle.kept_logs.specs.Stamps.{Stamped, stamped_text}
use Rattle.kept_logs.specs.declared.fault.LogFault.{LogFault}
use Rattle.kept_logs.specs.Frames.{frame_text, frame_at}
use Rattle.kept_logs.specs.Logs.{calls_text, read_record, framed_record, record_in, behind, and_more, calls_in}
use Rattle.kept_logs.specs.Fits.{FitsStamped}
use Rattle.kept_logs.specs.Cuts.{whole_within}
use Rattle.kept_logs.proofs.StampsBack.{stamped_in-put}
use Rattle.kept_logs.proofs.FramesBack.{take_over, frame_length, frame_at-put, frame_at-cut}

-- ---- one record

record_in-put : (version number place : ℕ) (r : Stamped) (after : List ℕ) → FitsStamped r → record_in version number place (frame_text version number (stamped_text r) ++ after) ≡ Ok (Some (r, after))
unfolding record_in
record_in-put version number place r after fits =
    ap (framed_record place) (frame_at-put version number (stamped_text r) after fits.body) ∙ ap (read_record place after) (stamped_in-put r fits)

record_in-cut : (version number place n : ℕ) (r : Stamped) → FitsStamped r → n < length (frame_text version number (stamped_text r)) → record_in version number place (take n (frame_text version number (stamped_text r))) ≡ Ok None
unfolding record_in
record_in-cut version number place n r fits h = ap (framed_record place) (frame_at-cut version number (stamped_text r) n fits.body h)

record_in-nothing : (version number place : ℕ) → record_in version number place [] ≡ Ok None
unfolding record_in frame_at u64_at
record_in-nothing version number place = refl

-- nothing more is read where a record is cut off
calls_in-stops : (version total number most : ℕ) (bytes : List ℕ) → ((place : ℕ) → record_in version number place bytes ≡ Ok None) → calls_in version total number most bytes ≡ Ok ([], bytes)
unfolding calls_in
calls_in-stops version total number zero bytes h = refl
calls_in-stops version total number (suc most) bytes h = rw (h (total - length bytes)) refl

calls_in-goes_on : (version total number most : ℕ) (r : Stamped) (after : List ℕ) → FitsStamped r
    → calls_in version total number (suc most) (frame_text version number (stamped_text r) ++ after) ≡ behind (r ∷ []) (calls_in version total (number + 1) most after)
unfolding calls_in
calls_in-goes_on version total number most r after fits =
    ap (and_more bytes (λ rest. calls_in version total (number + 1) most rest)) (record_in-put version number (total - length bytes) r after fits)
  where
    bytes : List ℕ
    bytes = frame_text version number (stamped_text r) ++ after

-- ---- the text of calls

pub one_call : (version number : ℕ) (r : Stamped) (calls : List Stamped) → calls_text version number (r ∷ calls) ≡ frame_text version number (stamped_text r) ++ calls_text version (number + 1) calls
unfolding calls_text
one_call version number r calls = refl

-- one call more
pub calls_text-more : (version number : ℕ) (calls : List Stamped) (r : Stamped) → calls_text version number (calls ++ r ∷ []) ≡ calls_text version number calls ++ frame_text version (number + length calls) (stamped_text r)
unfolding calls_text
calls_text-more version number [] r =
    let e : number ≡ number + 0 = omega arith in
    append-nil (frame_text version number (stamped_text r)) ∙ ap (λ n. frame_text version n (stamped_text r)) e
calls_text-more version number (first ∷ calls) r =
    let e : number + 1 + length calls ≡ number + suc (length calls) = omega arith in
    let front : List ℕ = frame_text version number (stamped_text first) in
    ap (λ t. front ++ t) (calls_text-more version (number + 1) calls r ∙ ap (λ n. calls_text version (number + 1) calls ++ frame_text version n (stamped_text r)) e)
    ∙ sym (append_assoc front (calls_text version (number + 1) calls) (frame_text version (number + suc (length calls)) (stamped_text r)))

-- the first calls, and the others
pub calls_text-split : (version number k : ℕ) (calls : List Stamped) → calls_text version number calls ≡ calls_text version number (take k calls) ++ calls_text version (number + k) (drop k calls)
unfolding calls_text
calls_text-split version number zero calls = let e : number ≡ number + 0 = omega arith in ap (λ n. calls_text version n calls) e
calls_text-split version number (suc k) [] = refl
calls_text-split version number (suc k) (r ∷ calls) =
    let e : number + 1 + k ≡ number + suc k = omega arith in
    let front : List ℕ = frame_text version number (stamped_text r) in
    ap (λ t. front ++ t) (calls_text-split version (number + 1) k calls ∙ ap (λ n. calls_text version (number + 1) (take k calls) ++ calls_text version n (drop k calls)) e)
    ∙ sym (append_assoc front (calls_text version (number + 1) (take k calls)) (calls_text version (number + suc k) (drop k calls)))

-- ---- what stands whole

-- what is told of the first n bytes of the text of calls
pub record ReadsCalls (version total number most n : ℕ) (calls : List Stamped) (k : ℕ) : Type 0 where
  pub rest : List ℕ
  pub read : calls_in version total number most (take n (calls_text version number calls)) ≡ Ok (take k calls, rest)
  pub count : length (calls_text version number (take k calls)) + length rest ≡ length (take n (calls_text version number calls))
  pub stand : length (calls_text version number (take k calls)) ≤ n
  pub more : k < length calls → n < length (calls_text version number (take (suc k) calls))

none : (version total number most n : ℕ) → ReadsCalls version total number most n [] 0
unfolding calls_text
none version total number most n =
    let e : take n [] ≡ [] = nothing n in
    record {
      rest = [];
      read = ap (calls_in version total number most) e ∙ calls_in-stops version total number most [] (λ place. record_in-nothing version number place);
      count = sym (ap length e);
      stand = omega arith;
      more = λ h. absurd (omega arith);
    }
  where
    nothing : (n : ℕ) → take {A = ℕ} n [] ≡ []
    nothing zero = refl
    nothing (suc n) = refl

stops : (version total number most n : ℕ) (r : Stamped) (calls : List Stamped) → FitsStamped r → n < length (frame_text version number (stamped_text r)) → ReadsCalls version total number most n (r ∷ calls) 0
unfolding calls_text
stops version total number most n r calls fits h =
    let front : List ℕ = frame_text version number (stamped_text r) in
    let cut : take n (front ++ calls_text version (number + 1) calls) ≡ take n front = take-append-le n front (calls_text version (number + 1) calls) (omega (arith, h)) in
    record {
      rest = take n (front ++ calls_text version (number + 1) calls);
      read = calls_in-stops version total number most (take n (front ++ calls_text version (number + 1) calls)) (λ place. ap (record_in version number place) cut ∙ record_in-cut version number place n r fits h);
      count = omega arith;
      stand = omega arith;
      more = λ _. omega (arith, h, length-append front []);
    }

put_before : (r : Stamped) (calls : List Stamped) (rest : List ℕ) (read : Result (List Stamped × List ℕ) LogFault) → read ≡ Ok (calls, rest) → behind (r ∷ []) read ≡ Ok (r ∷ calls, rest)
put_before r calls rest read e = ap (behind (r ∷ [])) e

goes_on : (version total number most n k : ℕ) (r : Stamped) (calls : List Stamped) → FitsStamped r → length (frame_text version number (stamped_text r)) ≤ n
    → ReadsCalls version total (number + 1) most (n - length (frame_text version number (stamped_text r))) calls k → ReadsCalls version total number (suc most) n (r ∷ calls) (suc k)
unfolding calls_text
goes_on version total number most n k r calls fits h inner =
    let front : List ℕ = frame_text version number (stamped_text r) in
    let text : List ℕ = calls_text version (number + 1) calls in
    let left : List ℕ = take (n - length front) text in
    let cut : take n (front ++ text) ≡ front ++ left = take_over front text n h in
    let some : List ℕ = calls_text version (number + 1) (take k calls) in
    record {
      rest = inner.rest;
      read = ap (calls_in version total number (suc most)) cut ∙ calls_in-goes_on version total number most r left fits ∙ put_before r (take k calls) inner.rest (calls_in version total (number + 1) most left) inner.read;
      count = omega (arith, inner.count, length-append front some, ap length cut, length-append front left);
      stand = omega (arith, inner.stand, length-append front some, h);
      more = λ l. omega (arith, inner.more (omega (arith, l)), length-append front (calls_text version (number + 1) (take (suc k) calls)), h);
    }

pub reads_calls : (version total number most n : ℕ) (calls : List Stamped) → AllByRecursion FitsStamped calls → length (take n (calls_text version number calls)) ≤ most → ReadsCalls version total number most n calls (whole_within version number n calls)
reads_calls version total number most n [] fits room = none version total number most n
reads_calls version total number most n (r ∷ calls) fits room =
    by_test (nat_lt n (length front)) refl most room (λ m l. reads_calls version total (number + 1) m (n - length front) calls fits.1 l)
  where
    front : List ℕ
    front = frame_text version number (stamped_text r)

    less : (m k : ℕ) → nat_lt m k ≡ true → m < k
    less m k t = grind (arith, nat_tests)

    more : (m k : ℕ) → nat_lt m k ≡ false → k ≤ m
    more m k t = grind (arith, nat_tests)

    left : ℕ → ℕ
    left m = m - length front

    size : (m : ℕ) → length front ≤ n → length (take n (calls_text version number (r ∷ calls))) ≤ m → length front + length (take (left n) (calls_text version (number + 1) calls)) ≤ m
    size m h l = omega (arith, ap length (ap (take n) (one_call version number r calls) ∙ take_over front (calls_text version (number + 1) calls) n h), length-append front (take (left n) (calls_text version (number + 1) calls)), l)

    by_most : (m : ℕ) → length front ≤ n → length (take n (calls_text version number (r ∷ calls))) ≤ m
        → ((m : ℕ) → length (take (left n) (calls_text version (number + 1) calls)) ≤ m → ReadsCalls version total (number + 1) m (left n) calls (whole_within version (number + 1) (left n) calls))
        → ReadsCalls version total number m n (r ∷ calls) (suc (whole_within version (number + 1) (left n) calls))
    by_most zero h l inner = absurd (omega (arith, size zero h l, frame_length version number (stamped_text r)))
    by_most (suc m) h l inner =
        goes_on version total number m n (whole_within version (number + 1) (left n) calls) r calls fits.0 h (inner m (omega (arith, size (suc m) h l, frame_length version number (stamped_text r))))

    by_test : (test : Bool) → nat_lt n (length front) ≡ test → (m : ℕ) → length (take n (calls_text version number (r ∷ calls))) ≤ m
        → ((m : ℕ) → length (take (left n) (calls_text version (number + 1) calls)) ≤ m → ReadsCalls version total (number + 1) m (left n) calls (whole_within version (number + 1) (left n) calls))
        → ReadsCalls version total number m n (r ∷ calls) (cond test 0 (suc (whole_within version (number + 1) (left n) calls)))
    by_test true t m l inner = stops version total number m n r calls fits.0 (less n (length front) t)
    by_test false t m l inner = by_most m (more n (length front) t) l inner

-- all of them stand whole in all of their text
pub all_within : (version number n : ℕ) (calls : List Stamped) → length (calls_text version number calls) ≤ n → whole_within version number n calls ≡ length calls
unfolding calls_text
all_within version number n [] h = refl
all_within version number n (r ∷ calls) h =
    let front : List ℕ = frame_text version number (stamped_text r) in
    let text : List ℕ = calls_text version (number + 1) calls in
    rw (not_less n (length front) (omega (arith, h, length-append front text)), all_within version (number + 1) (n - length front) calls (omega (arith, h, length-append front text))) refl
  where
    not_less : (m k : ℕ) → k ≤ m → nat_lt m k ≡ false
    not_less m k h = grind (arith, nat_tests)

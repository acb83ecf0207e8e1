-- Zeros after the text of a log are read as a record that is cut off.
use Rattle.std.proofs.Common.{◌≡◌, inl, inr, ℕ, zero, suc, ◌+◌, ◌-◌, ◌<◌, ◌≤◌, true, cond, List, [], ◌∷◌, ◌++◌, length, take, nat_lt, Some, None, Ok, refl, ap, ◌∙◌, arith, append_assoc, length-append}
use Rattle.std.proofs.lemmas.Bool.{cases_lt}
use Rattle.std.proofs.lemmas.Bool.Decides.{nat_tests}
use Rattle.std.specs.Int.{w64, to_be_bytes}
use Rattle.std.specs.List.{AllByRecursion}
use Rattle.codec.proofs.FieldsBack.{u64_at-put}
use Rattle.kept_logs.specs.Stamps.{Stamped, KeptLog, stamped_text}
use Rattle.codec.specs.Fields.{u64_at}
use Rattle.kept_logs.specs.Digests.{version_of}
use Rattle.kept_logs.specs.Frames.{frame_text, is_zeros, CutOff, Damaged, sized_frame, frame_at}
use Rattle.kept_logs.specs.Logs.{head_text, calls_text, kept_text, read_record, framed_record, record_in, behind, and_more, head_in, calls_in, kept_in}
use Rattle.kept_logs.specs.Fits.{FitsStamped, FitsKept}
use Rattle.kept_logs.proofs.StampsBack.{stamped_in-put}
use Rattle.kept_logs.proofs.FramesBack.{frame_length, frame_at-put}
use Rattle.kept_logs.proofs.CallsBack.{one_call}
use Rattle.kept_logs.proofs.LogsBack.{head_in-put}
use Rattle.node_process.specs.Histories.{zeros}

-- ---- zeros are no record

pub zeros_length : (n : ℕ) → length (zeros n) ≡ n
zeros_length zero = refl
zeros_length (suc n) = ap (λ k. suc k) (zeros_length n)

pub take_zeros : (m n : ℕ) → m ≤ n → take m (zeros n) ≡ zeros m
take_zeros zero n h = refl
take_zeros (suc m) zero h = absurd (omega (arith, h))
take_zeros (suc m) (suc n) h = ap (λ (x : List ℕ). 0 ∷ x) (take_zeros m n (omega (arith, h)))

pub more_zeros : (m n : ℕ) → zeros m ++ zeros n ≡ zeros (m + n)
more_zeros zero n = let e : n ≡ 0 + n = omega arith in ap (λ k. zeros k) e
more_zeros (suc m) n = let e : suc (m + n) ≡ suc m + n = omega arith in ap (λ (x : List ℕ). 0 ∷ x) (more_zeros m n) ∙ ap (λ k. zeros k) e

are_zeros : (n : ℕ) → is_zeros (zeros n) ≡ true
are_zeros zero = refl
are_zeros (suc n) = are_zeros n

few_bytes : (bytes : List ℕ) → length bytes < 8 → u64_at bytes ≡ None
unfolding u64_at
few_bytes bytes h = rw (less (length bytes) h) refl
  where
    less : (m : ℕ) → m < 8 → nat_lt m 8 ≡ true
    less m h = grind (arith, nat_tests)

-- a length of zero, and the other zeros
eight_zeros : (n : ℕ) → zeros (suc (suc (suc (suc (suc (suc (suc (suc n)))))))) ≡ to_be_bytes w64 0 ++ zeros n
eight_zeros n = refl

zeros_cut : (version number n : ℕ) → frame_at version number (zeros n) ≡ CutOff
unfolding frame_at
zeros_cut version number n = elim (cases_lt n 8) [
  | inl few ↦ ap (sized_frame version number) (few_bytes (zeros n) (omega (arith, zeros_length n, few)))
  | inr more ↦
      let m = n - 8 in
      let e : n ≡ suc (suc (suc (suc (suc (suc (suc (suc m))))))) = omega (arith, more) in
      ap (λ k. sized_frame version number (u64_at (zeros k))) e
      ∙ (ap (λ (bytes : List ℕ). sized_frame version number (u64_at bytes)) (eight_zeros m)
      ∙ (ap (sized_frame version number) (u64_at-put 0 (zeros m) (omega arith)) ∙ ap (λ b. cond b CutOff Damaged) (are_zeros m)))
]

zeros_none : (version number place n : ℕ) → record_in version number place (zeros n) ≡ Ok None
unfolding record_in
zeros_none version number place n = ap (framed_record place) (zeros_cut version number n)

-- ---- records, and zeros after them

zeros_stop : (version total number most n : ℕ) → calls_in version total number most (zeros n) ≡ Ok ([], zeros n)
unfolding calls_in
zeros_stop version total number zero n = refl
zeros_stop version total number (suc most) n = ap (and_more (zeros n) (λ rest. calls_in version total (number + 1) most rest)) (zeros_none version number (total - length (zeros n)) n)

one_record : (version number place : ℕ) (r : Stamped) (after : List ℕ) → FitsStamped r → record_in version number place (frame_text version number (stamped_text r) ++ after) ≡ Ok (Some (r, after))
unfolding record_in
one_record version number place r after fits = ap (framed_record place) (frame_at-put version number (stamped_text r) after fits.body) ∙ ap (read_record place after) (stamped_in-put r fits)

one_more : (version total number most : ℕ) (r : Stamped) (after : List ℕ) → FitsStamped r → calls_in version total number (suc most) (frame_text version number (stamped_text r) ++ after) ≡ behind (r ∷ []) (calls_in version total (number + 1) most after)
unfolding calls_in
one_more version total number most r after fits =
    let bytes : List ℕ = frame_text version number (stamped_text r) ++ after in
    ap (and_more bytes (λ rest. calls_in version total (number + 1) most rest)) (one_record version number (total - length bytes) r after fits)

no_calls : (version number : ℕ) → calls_text version number [] ≡ []
unfolding calls_text
no_calls version number = refl

calls_then_zeros : (version total number most n : ℕ) (calls : List Stamped) → AllByRecursion FitsStamped calls → length (calls_text version number calls) ≤ most
    → calls_in version total number most (calls_text version number calls ++ zeros n) ≡ Ok (calls, zeros n)
calls_then_zeros version total number most n [] fits room = ap (λ (t : List ℕ). calls_in version total number most (t ++ zeros n)) (no_calls version number) ∙ zeros_stop version total number most n
calls_then_zeros version total number zero n (r ∷ calls) fits room =
    let front : List ℕ = frame_text version number (stamped_text r) in
    let size = ap length (one_call version number r calls) in
    let sum = length-append front (calls_text version (number + 1) calls) in
    let long = frame_length version number (stamped_text r) in
    absurd (omega (arith, size, sum, long, room))
calls_then_zeros version total number (suc most) n (r ∷ calls) fits room =
    let front : List ℕ = frame_text version number (stamped_text r) in
    let text : List ℕ = calls_text version (number + 1) calls in
    let size = ap length (one_call version number r calls) in
    let sum = length-append front text in
    let long = frame_length version number (stamped_text r) in
    ap (λ (t : List ℕ). calls_in version total number (suc most) (t ++ zeros n)) (one_call version number r calls)
    ∙ (ap (calls_in version total number (suc most)) (append_assoc front text (zeros n))
    ∙ (one_more version total number most r (text ++ zeros n) fits.0 ∙ ap (behind (r ∷ [])) (calls_then_zeros version total (number + 1) most n calls fits.1 (omega (arith, size, sum, long, room)))))

-- ---- a log, and zeros after it

pub reads_zeros : (digest : List ℕ) (log : KeptLog) (n : ℕ) → length digest ≡ 33 → FitsKept log → kept_in digest (kept_text digest log ++ zeros n) ≡ Ok (record { log = log; whole = length (kept_text digest log) })
unfolding kept_in kept_text
reads_zeros digest log n d fits =
    let front : List ℕ = head_text digest log.node in
    let text : List ℕ = calls_text (version_of digest) 1 log.calls in
    let lost : List ℕ = zeros n in
    let bytes : List ℕ = (front ++ text) ++ lost in
    let total = length bytes in
    let all : bytes ≡ front ++ (text ++ lost) = append_assoc front text lost in
    let head : head_in digest bytes ≡ Ok (log.node, text ++ lost) = ap (head_in digest) all ∙ head_in-put digest log.node (text ++ lost) d fits.node in
    let calls : calls_in (version_of digest) total 1 (length (text ++ lost)) (text ++ lost) ≡ Ok (log.calls, lost) =
    calls_then_zeros (version_of digest) total 1 (length (text ++ lost)) n log.calls fits.calls (omega (arith, length-append text lost)) in
    let count : total - length lost ≡ length (front ++ text) = omega (arith, length-append (front ++ text) lost) in
    rw (head, calls, count) refl

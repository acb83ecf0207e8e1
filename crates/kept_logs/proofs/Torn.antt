-- What is cut off is how a record begins.
use Rattle.std.proofs.Common.{◌≡◌, ℕ, zero, suc, ◌-◌, ◌<◌, ◌≤◌, ◌==◌, ◌&&◌, Bool, true, false, cond, List, [], ◌∷◌, ◌++◌, length, take, drop, replicate, slice_index, nat_lt, Option, Some, None, refl, ap, ◌∙◌, sym, ◌⊎◌, inl, inr, arith, append_assoc, length-append}
use Rattle.std.proofs.lemmas.Bool.{and_parts}
use Rattle.std.proofs.lemmas.Bool.Decides.{nat_tests}
use Rattle.std.proofs.lemmas.List.{take-append-drop, length-take-le, length-replicate}
use Rattle.std.proofs.lemmas.Nat.{be_bytes_8}
use Rattle.std.specs.Int.{w64, to_be_bytes, from_be_bytes}
use Rattle.codec.specs.Fields.{u64_at}
use Rattle.codec.specs.Laws.{AreBytes}
use Rattle.codec.proofs.FieldsOnly.{u64_at_taken}
use Rattle.kept_logs.specs.Frames.{largest, is_size, is_zeros, no_record, check_of, frame_text, Met, Whole, Torn, Differs, met, CutOff, Damaged, checked, behind_length, sized_frame, body_at, frame_at}
use Rattle.kept_logs.specs.Cuts.{Begins}
use Rattle.kept_logs.proofs.Meeting.{IsTorn, met-torn, met-whole}

-- zeros after bytes are bytes
with_zeros : (xs : List ℕ) (n : ℕ) → AreBytes xs → AreBytes (xs ++ replicate n 0)
with_zeros xs n are = record { below = λ i. below xs are.below i }
  where
    zero_at : (n i : ℕ) → slice_index (replicate n 0) i < 256
    zero_at zero i = omega arith
    zero_at (suc n) zero = omega arith
    zero_at (suc n) (suc i) = let inner = zero_at n i in inner

    below : (xs : List ℕ) → ((i : ℕ) → slice_index xs i < 256) → (i : ℕ) → slice_index (xs ++ replicate n 0) i < 256
    below [] are i = zero_at n i
    below (x ∷ xs) are zero = are 0
    below (x ∷ xs) are (suc i) = below xs (λ j. are (suc j)) i

-- fewer bytes than a length has
too_short : (version number : ℕ) (bytes : List ℕ) → AreBytes bytes → length bytes < 8 → Begins version number bytes
unfolding frame_text
too_short version number bytes are short =
    let more : List ℕ = replicate (8 - length bytes) 0 in
    let eight : List ℕ = bytes ++ more in
    let size : ℕ = from_be_bytes w64 eight in
    let count : length more ≡ 8 - length bytes = length-replicate (8 - length bytes) 0 in
    let long : length eight ≡ 8 = omega (arith, length-append bytes more, count, short) in
    let spelled : to_be_bytes w64 size ≡ eight = be_bytes_8 eight size long (with_zeros bytes (8 - length bytes) are).below refl in
    let body : List ℕ = replicate size 0 in
    let same : length body ≡ size = length-replicate size 0 in
    let rest : List ℕ = to_be_bytes w64 (largest - length body) ++ (body ++ check_of version number body) in
    record {
      body = body;
      missing = more ++ rest;
      some = omega (arith, length-append more rest, count, short);
      is = sym (append_assoc bytes more rest) ∙ ap (λ t. t ++ rest) (sym spelled) ∙ ap (λ n. to_be_bytes w64 n ++ rest) (sym same);
    }

-- the second length is cut off
second_short : (version number size : ℕ) (bytes rest : List ℕ) → bytes ≡ to_be_bytes w64 size ++ rest → IsTorn (to_be_bytes w64 (largest - size)) rest → Begins version number bytes
unfolding frame_text
second_short version number size bytes rest first torn =
    let body : List ℕ = replicate size 0 in
    let same : length body ≡ size = length-replicate size 0 in
    let tail : List ℕ = body ++ check_of version number body in
    record {
      body = body;
      missing = torn.missing ++ tail;
      some = omega (arith, length-append torn.missing tail, torn.some);
      is = joined bytes (to_be_bytes w64 size) rest torn.missing (to_be_bytes w64 (largest - size)) tail first torn.is ∙ ap (λ n. to_be_bytes w64 n ++ (to_be_bytes w64 (largest - n) ++ tail)) (sym same);
    }
  where
    joined : (bytes a b c m d : List ℕ) → bytes ≡ a ++ b → b ++ c ≡ m → bytes ++ (c ++ d) ≡ a ++ (m ++ d)
    joined bytes a b c m d e f = ap (λ t. t ++ (c ++ d)) e ∙ append_assoc a b (c ++ d) ∙ ap (λ t. a ++ t) (sym (append_assoc b c d) ∙ ap (λ t. t ++ d) f)

-- bytes after two lengths, of a record with this body
behind_lengths : (version number size : ℕ) (bytes tail body missing : List ℕ) → bytes ≡ to_be_bytes w64 size ++ (to_be_bytes w64 (largest - size) ++ tail) → length body ≡ size → 0 < length missing → tail ++ missing ≡ body ++ check_of version number body → Begins version number bytes
unfolding frame_text
behind_lengths version number size bytes tail body missing first same some is = record {
  body = body;
  missing = missing;
  some = some;
  is = joined bytes (to_be_bytes w64 size) (to_be_bytes w64 (largest - size)) tail (body ++ check_of version number body) first is ∙ ap (λ n. to_be_bytes w64 n ++ (to_be_bytes w64 (largest - n) ++ (body ++ check_of version number body))) (sym same);
}
  where
    joined : (bytes a b c d : List ℕ) → bytes ≡ a ++ (b ++ c) → c ++ missing ≡ d → bytes ++ missing ≡ a ++ (b ++ d)
    joined bytes a b c d e f = ap (λ t. t ++ missing) e ∙ append_assoc a (b ++ c) missing ∙ ap (λ t. a ++ t) (append_assoc b c missing ∙ ap (λ t. b ++ t) f)

-- the body is cut off, or what vouches for it
body_short : (version number size : ℕ) (bytes tail : List ℕ) → bytes ≡ to_be_bytes w64 size ++ (to_be_bytes w64 (largest - size) ++ tail) → body_at version number size tail ≡ CutOff → Begins version number bytes
unfolding body_at
body_short version number size bytes tail first h = by_test (nat_lt (length tail) size) refl h
  where
    front : List ℕ
    front = take size tail

    less : (m : ℕ) → nat_lt m size ≡ true → m < size
    less m t = grind (arith, nat_tests)

    long_from : (m : ℕ) → nat_lt m size ≡ false → size ≤ m
    long_from m t = grind (arith, nat_tests)

    within : length tail < size → Begins version number bytes
    within short =
        let more : List ℕ = replicate (size - length tail) 0 in
        let count : length more ≡ size - length tail = length-replicate (size - length tail) 0 in
        let body : List ℕ = tail ++ more in
        let same : length body ≡ size = omega (arith, length-append tail more, count, short) in
        let sum : List ℕ = check_of version number body in
        behind_lengths version number size bytes tail body (more ++ sum) first same (omega (arith, length-append more sum, count, short)) (sym (append_assoc tail more sum))

    by_met : size ≤ length tail → (m : Met) → met (check_of version number front) (drop size tail) ≡ m → checked front m ≡ CutOff → Begins version number bytes
    by_met long (Whole after) e h = cc
    by_met long Differs e h = cc
    by_met long Torn e h =
        let torn = met-torn (check_of version number front) (drop size tail) e in
        behind_lengths version number size bytes tail front torn.missing first (length-take-le size tail long) torn.some
        (ap (λ t. t ++ torn.missing) (sym (take-append-drop size tail)) ∙ append_assoc front (drop size tail) torn.missing ∙ ap (λ t. front ++ t) torn.is)

    by_test : (short : Bool) → nat_lt (length tail) size ≡ short → cond short CutOff (checked front (met (check_of version number front) (drop size tail))) ≡ CutOff → Begins version number bytes
    by_test true t h = within (less (length tail) t)
    by_test false t h = by_met (long_from (length tail) t) (met (check_of version number front) (drop size tail)) refl h

no_u64 : (bytes : List ℕ) → u64_at bytes ≡ None → length bytes < 8
unfolding u64_at
no_u64 bytes h = by_test (nat_lt (length bytes) 8) refl h
  where
    less : (m : ℕ) → nat_lt m 8 ≡ true → m < 8
    less m t = grind (arith, nat_tests)

    by_test : (short : Bool) → nat_lt (length bytes) 8 ≡ short → cond {A = Option (ℕ × List ℕ)} short None (Some (from_be_bytes w64 (take 8 bytes), drop 8 bytes)) ≡ None → length bytes < 8
    by_test true t h = less (length bytes) t
    by_test false t h = cc

-- zeros after a length of zero
blank : (size : ℕ) (bytes rest : List ℕ) → bytes ≡ to_be_bytes w64 size ++ rest → no_record size rest ≡ CutOff → is_zeros bytes ≡ true
blank size bytes rest first h = by_test ((size == 0) && is_zeros rest) refl h
  where
    zero_is : (n : ℕ) → (n == 0) ≡ true → n ≡ 0
    zero_is n t = grind (arith, nat_tests)

    by_test : (b : Bool) → ((size == 0) && is_zeros rest) ≡ b → cond b CutOff Damaged ≡ CutOff → is_zeros bytes ≡ true
    by_test true e h =
        let parts = and_parts (size == 0) (is_zeros rest) e in
        ap is_zeros (first ∙ ap (λ n. to_be_bytes w64 n ++ rest) (zero_is size parts.0)) ∙ parts.1
    by_test false e h = absurd cc

pub cut_begins : (version number : ℕ) (bytes : List ℕ) → AreBytes bytes → frame_at version number bytes ≡ CutOff → Begins version number bytes ⊎ (is_zeros bytes ≡ true)
unfolding frame_at
cut_begins version number bytes are h = by_count (u64_at bytes) refl h
  where
    by_met : (size : ℕ) (rest : List ℕ) → bytes ≡ to_be_bytes w64 size ++ rest → (m : Met) → met (to_be_bytes w64 (largest - size)) rest ≡ m → behind_length version number size m ≡ CutOff → Begins version number bytes
    by_met size rest first (Whole tail) e h = body_short version number size bytes tail (first ∙ ap (λ t. to_be_bytes w64 size ++ t) (met-whole (to_be_bytes w64 (largest - size)) rest tail e)) h
    by_met size rest first Torn e h = second_short version number size bytes rest first (met-torn (to_be_bytes w64 (largest - size)) rest e)
    by_met size rest first Differs e h = cc

    by_size : (size : ℕ) (rest : List ℕ) → bytes ≡ to_be_bytes w64 size ++ rest → (b : Bool) → cond b (behind_length version number size (met (to_be_bytes w64 (largest - size)) rest)) (no_record size rest) ≡ CutOff → Begins version number bytes ⊎ (is_zeros bytes ≡ true)
    by_size size rest first true h = inl (by_met size rest first (met (to_be_bytes w64 (largest - size)) rest) refl h)
    by_size size rest first false h = inr (blank size bytes rest first h)

    by_count : (o : Option (ℕ × List ℕ)) → u64_at bytes ≡ o → sized_frame version number o ≡ CutOff → Begins version number bytes ⊎ (is_zeros bytes ≡ true)
    by_count None e h = inl (too_short version number bytes are (no_u64 bytes e))
    by_count (Some (size, rest)) e h = by_size size rest (u64_at_taken bytes size rest are e).0.all (is_size size) h

-- The first bytes of a log's text are read as what stands whole in them.
use Rattle.std.proofs.Common.{◌≡◌, ℕ, zero, suc, ◌+◌, ◌-◌, ◌<◌, ◌≤◌, true, List, [], ◌∷◌, ◌++◌, length, take, drop, nat_lt, Some, None, Ok, Err, inl, inr, refl, ap, ◌∙◌, sym, arith, append_assoc, append-nil, length-append}
use Rattle.std.proofs.lemmas.Bool.{cases_lt}
use Rattle.std.proofs.lemmas.Bool.Decides.{nat_tests}
use Rattle.std.proofs.lemmas.List.{take_at, take_all, take-append-le}
use Rattle.claim_model.specs.Node.{Node, Pharmacy, Switch, Payer}
use Rattle.kept_logs.specs.Stamps.{Stamped, KeptLog, with_record, stamped_text}
use Rattle.kept_logs.specs.declared.fault.LogFault.TheVariants.{Short}
use Rattle.codec.specs.Fields.{bytes_at}
use Rattle.codec.proofs.FieldsBack.{bytes_at-put}
use Rattle.kept_logs.specs.Fields.{node_codec}
use Rattle.kept_logs.specs.Digests.{version_of}
use Rattle.kept_logs.specs.Frames.{check_of, frame_text, Whole, met}
use Rattle.kept_logs.specs.Logs.{owner_text, head_text, calls_text, kept_text, head_in, calls_in, kept_in, KeptAs}
use Rattle.kept_logs.specs.Fits.{FitsNode, FitsKept}
use Rattle.kept_logs.specs.Cuts.{whole_within, first_calls, calls_within, log_within, ReadsBack}
use Rattle.kept_logs.proofs.Meeting.{met-append, met-short, same_byte}
use Rattle.kept_logs.proofs.Formats.{node_is, node_fits}
use Rattle.kept_logs.proofs.FramesBack.{check_length, take_over, taken_at_most}
use Rattle.kept_logs.proofs.CallsBack.{ReadsCalls, reads_calls, calls_text-more, calls_text-split, all_within}

-- ---- the head

pub node_length : (node : Node) → length (node_codec.text node) ≡ 3
unfolding node_codec
node_length (Pharmacy n) = refl
node_length (Switch n) = refl
node_length (Payer n) = refl

owner_length : (digest : List ℕ) (node : Node) → length digest ≡ 32 → length (owner_text digest node) ≡ 35
unfolding owner_text
owner_length digest node h = omega (arith, length-append (node_codec.text node) digest, node_length node, h)

-- a version, and the digest after it
one_version : (digest : List ℕ) → length digest ≡ 33 → length (take 1 digest) ≡ 1
one_version [] h = absurd (omega (arith, h))
one_version (version ∷ digest) h = refl

behind_version : (digest : List ℕ) → length digest ≡ 33 → length (drop 1 digest) ≡ 32
behind_version [] h = absurd (omega (arith, h))
behind_version (version ∷ digest) h = omega (arith, h)

pub head_length : (digest : List ℕ) (node : Node) → length digest ≡ 33 → length (head_text digest node) ≡ 46
unfolding head_text
head_length digest node h =
    let owner : List ℕ = owner_text (drop 1 digest) node in
    omega (arith, length-append (take 1 digest) (owner ++ check_of (version_of digest) 0 owner), one_version digest h, length-append owner (check_of (version_of digest) 0 owner), owner_length (drop 1 digest) node (behind_version digest h), check_length (version_of digest) 0 owner)

node_at_owner : (digest : List ℕ) (node : Node) → FitsNode node → node_codec.at (owner_text digest node) ≡ Some (node, digest)
unfolding owner_text
node_at_owner digest node fits = node_is.back node digest (node_fits node fits)

met-self : (xs : List ℕ) → met xs xs ≡ Whole []
met-self xs = ap (met xs) (sym (append-nil xs)) ∙ met-append xs []

pub head_in-put : (digest : List ℕ) (node : Node) (rest : List ℕ) → length digest ≡ 33 → FitsNode node → head_in digest (head_text digest node ++ rest) ≡ Ok (node, rest)
unfolding head_in head_text
head_in-put [] node rest h fits = absurd (omega (arith, h))
head_in-put (version ∷ digest) node rest h fits =
    let owner : List ℕ = owner_text digest node in
    rw (append_assoc owner (check_of version 0 owner) rest, same_byte version, bytes_at-put 35 owner (check_of version 0 owner ++ rest) (owner_length digest node (omega (arith, h))), met-append (check_of version 0 owner) rest, node_at_owner digest node fits, met-self digest) refl

no_owner : (bytes : List ℕ) → length bytes < 35 → bytes_at 35 bytes ≡ None
unfolding bytes_at
no_owner bytes h = rw (less (length bytes) h) refl
  where
    less : (m : ℕ) → m < 35 → nat_lt m 35 ≡ true
    less m h = grind (arith, nat_tests)

pub head_in-short : (digest : List ℕ) (node : Node) (n : ℕ) (rest : List ℕ) → length digest ≡ 33 → n < 46 → head_in digest (take n (head_text digest node ++ rest)) ≡ Err Short
unfolding head_in head_text
head_in-short [] node n rest h small = absurd (omega (arith, h))
head_in-short (version ∷ digest) node zero rest h small = refl
head_in-short (version ∷ digest) node (suc zero) rest h small = refl
head_in-short (version ∷ digest) node (suc (suc zero)) rest h small = refl
head_in-short (version ∷ digest) node (suc (suc (suc m))) rest h small = elim (cases_lt m 35) [
  | inl within ↦ rw (same_byte version, no_owner (take m ((owner ++ sum) ++ rest)) (omega (arith, taken_at_most m ((owner ++ sum) ++ rest), within))) refl
  | inr behind ↦ rw (same_byte version, cut behind, bytes_at-put 35 owner (take (m - length owner) sum) size, met-short sum (m - length owner) (omega (arith, small, behind, size, check_length version 0 owner))) refl
]
  where
    owner : List ℕ
    owner = owner_text digest node

    size : length owner ≡ 35
    size = owner_length digest node (omega (arith, h))

    sum : List ℕ
    sum = check_of version 0 owner

    cut : 35 ≤ m → take m ((owner ++ sum) ++ rest) ≡ owner ++ take (m - length owner) sum
    cut behind =
        take-append-le m (owner ++ sum) rest (omega (arith, small, length-append owner sum, size, check_length version 0 owner))
        ∙ take_over owner sum m (omega (arith, behind, size))

-- ---- the log

pub log_length : (digest : List ℕ) (log : KeptLog) → length digest ≡ 33 → length (kept_text digest log) ≡ 46 + length (calls_text (version_of digest) 1 log.calls)
unfolding kept_text
log_length digest log h = omega (arith, length-append (head_text digest log.node) (calls_text (version_of digest) 1 log.calls), head_length digest log.node h)

-- a cut after the head
cut_text : (digest : List ℕ) (log : KeptLog) (n : ℕ) → length digest ≡ 33 → 46 ≤ n → take n (kept_text digest log) ≡ head_text digest log.node ++ take (n - 46) (calls_text (version_of digest) 1 log.calls)
unfolding kept_text
cut_text digest log n h long =
    let head : List ℕ = head_text digest log.node in
    let text : List ℕ = calls_text (version_of digest) 1 log.calls in
    let e : length head ≡ 46 = head_length digest log.node h in
    take_over head text n (omega (arith, long, e)) ∙ ap (λ m. head ++ take (n - m) text) e

read_by : (digest : List ℕ) (log : KeptLog) (n : ℕ) → length digest ≡ 33 → FitsKept log
    → (left bytes : List ℕ) → left ≡ take n (calls_text (version_of digest) 1 log.calls) → bytes ≡ head_text digest log.node ++ left → ReadsCalls (version_of digest) (length bytes) 1 (length left) n log.calls (whole_within (version_of digest) 1 n log.calls)
    → kept_in digest bytes ≡ Ok (record { log = first_calls (whole_within (version_of digest) 1 n log.calls) log; whole = length (kept_text digest (first_calls (whole_within (version_of digest) 1 n log.calls) log)) })
unfolding kept_in
read_by digest log n h fits left bytes is all read =
    let k : ℕ = whole_within (version_of digest) 1 n log.calls in
    let head : head_in digest bytes ≡ Ok (log.node, left) = ap (head_in digest) all ∙ head_in-put digest log.node left h fits.node in
    let calls : calls_in (version_of digest) (length bytes) 1 (length left) left ≡ Ok (take k log.calls, read.rest) = ap (calls_in (version_of digest) (length bytes) 1 (length left)) is ∙ read.read in
    let count : length bytes - length read.rest ≡ length (kept_text digest (first_calls k log)) =
    omega (arith, ap length all, length-append (head_text digest log.node) left, head_length digest log.node h, read.count, ap length is, log_length digest (first_calls k log) h) in
    rw (head, calls, count) refl

-- the text of the first calls, and what follows
text_split : (digest : List ℕ) (log : KeptLog) (k : ℕ) → kept_text digest log ≡ kept_text digest (first_calls k log) ++ calls_text (version_of digest) (1 + k) (drop k log.calls)
unfolding kept_text
text_split digest log k =
    let head : List ℕ = head_text digest log.node in
    ap (λ t. head ++ t) (calls_text-split (version_of digest) 1 k log.calls) ∙ sym (append_assoc head (calls_text (version_of digest) 1 (take k log.calls)) (calls_text (version_of digest) (1 + k) (drop k log.calls)))

pub reads_back : (digest : List ℕ) (log : KeptLog) (n : ℕ) → length digest ≡ 33 → FitsKept log → 46 ≤ n → ReadsBack digest n log
reads_back digest log n h fits long =
    let k : ℕ = calls_within digest n log in
    let left : List ℕ = take (n - 46) (calls_text (version_of digest) 1 log.calls) in
    let bytes : List ℕ = take n (kept_text digest log) in
    let all : bytes ≡ head_text digest log.node ++ left = cut_text digest log n h long in
    let read = reads_calls (version_of digest) (length bytes) 1 (length left) (n - 46) log.calls fits.calls (omega arith) in
    record {
      read = read_by digest log (n - 46) h fits left bytes refl all read;
      stand = omega (arith, log_length digest (first_calls k log) h, read.stand, long);
      most = λ l. omega (arith, log_length digest (first_calls (suc k) log) h, read.more l, long);
      text = ap (take (length (kept_text digest (first_calls k log)))) (text_split digest log k) ∙ take_at (kept_text digest (first_calls k log)) (calls_text (version_of digest) (1 + k) (drop k log.calls)) (length (kept_text digest (first_calls k log))) refl;
    }

pub reads_whole : (digest : List ℕ) (log : KeptLog) → length digest ≡ 33 → FitsKept log → KeptAs digest (kept_text digest log) log
reads_whole digest log h fits =
    let text : List ℕ = kept_text digest log in
    let n : ℕ = length text in
    let size : n ≡ 46 + length (calls_text (version_of digest) 1 log.calls) = log_length digest log h in
    let back = reads_back digest log n h fits (omega (arith, size)) in
    let all : calls_within digest n log ≡ length log.calls = all_within (version_of digest) 1 (n - 46) log.calls (omega (arith, size)) in
    let calls : take (calls_within digest n log) log.calls ≡ log.calls = ap (λ k. take k log.calls) all ∙ take_all (length log.calls) log.calls (omega arith) in
    let same : log_within digest n log ≡ log = ap (λ (cs : List Stamped). record { node = log.node; calls = cs }) calls in
    ap (kept_in digest) (sym (take_all n text (omega arith))) ∙ back.read ∙ ap (λ (l : KeptLog). Ok (record { log = l; whole = length (kept_text digest l) })) same

pub reads_short : (digest : List ℕ) (log : KeptLog) (n : ℕ) → length digest ≡ 33 → n < 46 → kept_in digest (take n (kept_text digest log)) ≡ Err Short
unfolding kept_in kept_text
reads_short digest log n h small = rw (head_in-short digest log.node n (calls_text (version_of digest) 1 log.calls) h small) refl

pub one_more : (digest : List ℕ) (log : KeptLog) (r : Stamped) → kept_text digest (with_record log r) ≡ kept_text digest log ++ frame_text (version_of digest) (length log.calls + 1) (stamped_text r)
unfolding kept_text
one_more digest log r =
    let head : List ℕ = head_text digest log.node in
    let e : 1 + length log.calls ≡ length log.calls + 1 = omega arith in
    ap (λ t. head ++ t) (calls_text-more (version_of digest) 1 log.calls r ∙ ap (λ n. calls_text (version_of digest) 1 log.calls ++ frame_text (version_of digest) n (stamped_text r)) e)
    ∙ sym (append_assoc head (calls_text (version_of digest) 1 log.calls) (frame_text (version_of digest) (length log.calls + 1) (stamped_text r)))

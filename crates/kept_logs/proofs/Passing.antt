-- Records that are passed one by one, for the place after the first this many.
use Rattle.std.proofs.Common.{◌≡◌, ℕ, zero, suc, ◌+◌, ◌-◌, ◌<◌, ◌≤◌, List, [], ◌∷◌, ◌++◌, length, take, drop, Result, Ok, Err, refl, sym, ap, ◌∙◌, arith, append_assoc, length-append}
use Rattle.std.specs.List.{AllByRecursion}
use Rattle.claim_model.specs.Node.{Node}
use Rattle.kept_logs.specs.Stamps.{Stamped, stamped_text}
use Rattle.kept_logs.specs.declared.fault.LogFault.{LogFault}
use Rattle.kept_logs.specs.Digests.{version_of}
use Rattle.kept_logs.specs.Frames.{Frame, Framed, CutOff, Damaged, frame_text, frame_at}
use Rattle.kept_logs.specs.Logs.{head_text, calls_text, kept_text, head_in, KeptReading, kept_in}
use Rattle.kept_logs.specs.Fits.{FitsStamped}
use Rattle.kept_logs.specs.Cuts.{IsLogOf, first_calls}
use Rattle.kept_logs.proofs.FramesBack.{frame_at-put}
use Rattle.kept_logs.proofs.CallsBack.{calls_text-split}
use Rattle.kept_logs.proofs.LogsBack.{head_length, head_in-put, log_length}

-- what is left after the first records, wherever these bytes are the text of calls
abbrev pub Stands : ℕ → List ℕ → ℕ → ℕ → List ℕ → Type 0
Stands version records count place rest =
    (calls : List Stamped) (torn : List ℕ) → records ≡ calls_text version 1 calls ++ torn → count ≤ length calls → AllByRecursion FitsStamped calls → rest ≡ calls_text version (place + 1) (drop place calls) ++ torn

pub none_passed : (version : ℕ) (records : List ℕ) (count : ℕ) → Stands version records count 0 records
none_passed version records count calls torn is room fits = is

-- ---- one record

-- the record that stands first, and what follows it
record IsNext (version number : ℕ) (rest : List ℕ) (left : List Stamped) (torn : List ℕ) : Type 0 where
  body : List ℕ
  is : frame_at version number rest ≡ Framed body (calls_text version (number + 1) (drop 1 left) ++ torn)

next_is : (version number : ℕ) (rest : List ℕ) (left : List Stamped) (torn : List ℕ) → rest ≡ calls_text version number left ++ torn → 0 < length left → AllByRecursion FitsStamped left → IsNext version number rest left torn
unfolding calls_text
next_is version number rest [] torn is some fits = absurd (omega (arith, some))
next_is version number rest (r ∷ more) torn is some fits =
    let others : List ℕ = calls_text version (number + 1) more in
    record {
      body = stamped_text r;
      is = ap (frame_at version number) (is ∙ append_assoc (frame_text version number (stamped_text r)) others torn) ∙ frame_at-put version number (stamped_text r) (others ++ torn) fits.0.body;
    }

drop_behind : {A : Type 0} (k : ℕ) (xs : List A) → drop 1 (drop k xs) ≡ drop (suc k) xs
drop_behind zero xs = refl
drop_behind (suc k) [] = refl
drop_behind (suc k) (x ∷ xs) = drop_behind k xs

drop_next : {A : Type 0} (k : ℕ) (xs : List A) → drop 1 (drop k xs) ≡ drop (k + 1) xs
drop_next k xs = let e : suc k ≡ k + 1 = omega arith in drop_behind k xs ∙ ap (λ n. drop n xs) e

drop_some : {A : Type 0} (k : ℕ) (xs : List A) → k < length xs → 0 < length (drop k xs)
drop_some zero xs h = h
drop_some (suc k) [] h = absurd (omega (arith, h))
drop_some (suc k) (x ∷ xs) h = drop_some k xs (omega (arith, h))

left_fit : (k : ℕ) (calls : List Stamped) → AllByRecursion FitsStamped calls → AllByRecursion FitsStamped (drop k calls)
left_fit zero calls fits = fits
left_fit (suc k) [] fits = fits
left_fit (suc k) (r ∷ calls) fits = left_fit k calls fits.1

next_at : (version : ℕ) (records : List ℕ) (count place : ℕ) (rest : List ℕ) → Stands version records count place rest → place < count
    → (calls : List Stamped) (torn : List ℕ) → records ≡ calls_text version 1 calls ++ torn → count ≤ length calls → AllByRecursion FitsStamped calls → IsNext version (place + 1) rest (drop place calls) torn
next_at version records count place rest stands within calls torn is room fits =
    next_is version (place + 1) rest (drop place calls) torn (stands calls torn is room fits) (drop_some place calls (omega (arith, within, room))) (left_fit place calls fits)

abbrev after_of : List ℕ → Frame → List ℕ
after_of other (Framed body after) = after
after_of other CutOff = other
after_of other Damaged = other

-- one record more is passed
pub one_passed : (version : ℕ) (records : List ℕ) (count place : ℕ) (rest body after : List ℕ) → Stands version records count place rest → place < count → frame_at version (place + 1) rest ≡ Framed body after
    → Stands version records count (place + 1) after
one_passed version records count place rest body after stands within passed calls torn is room fits =
    let next = next_at version records count place rest stands within calls torn is room fits in
    ap (after_of []) (sym passed ∙ next.is) ∙ ap (λ (cs : List Stamped). calls_text version (place + 1 + 1) cs ++ torn) (drop_next place calls)

-- a record stands there
pub some_stands : (version : ℕ) (records : List ℕ) (count place : ℕ) (rest : List ℕ) → Stands version records count place rest → place < count → ((body after : List ℕ) → frame_at version (place + 1) rest ≡ Framed body after → ⊥)
    → (calls : List Stamped) (torn : List ℕ) → records ≡ calls_text version 1 calls ++ torn → count ≤ length calls → AllByRecursion FitsStamped calls → ⊥
some_stands version records count place rest stands within none calls torn is room fits =
    let next = next_at version records count place rest stands within calls torn is room fits in
    none next.body (calls_text version (place + 1 + 1) (drop 1 (drop place calls)) ++ torn) next.is

-- ---- all of them

pub all_passed : (version total : ℕ) (records : List ℕ) (count place : ℕ) (rest : List ℕ) → Stands version records count place rest → place ≡ count
    → (calls : List Stamped) (torn : List ℕ) → records ≡ calls_text version 1 calls ++ torn → count ≤ length calls → AllByRecursion FitsStamped calls → length records ≤ total
    → total - length rest ≡ (total - length records) + length (calls_text version 1 (take count calls))
all_passed version total records count place rest stands over calls torn is room fits within =
    let first : List ℕ = calls_text version 1 (take count calls) in
    let others : List ℕ = calls_text version (1 + count) (drop count calls) in
    let number : place + 1 ≡ 1 + count = omega (arith, over) in
    let left : rest ≡ others ++ torn =
    stands calls torn is room fits ∙ ap (λ n. calls_text version n (drop place calls) ++ torn) number ∙ ap (λ k. calls_text version (1 + count) (drop k calls) ++ torn) over in
    let all : records ≡ (first ++ others) ++ torn = is ∙ ap (λ t. t ++ torn) (calls_text-split version 1 count calls) in
    omega (arith, within, ap length left, length-append others torn, ap length all, length-append (first ++ others) torn, length-append first others)

-- after the head
same_head : (a x : Node) (b y : List ℕ) → ◌≡◌ {A = Result (Node × List ℕ) LogFault} (Ok (a, b)) (Ok (x, y)) → b ≡ y
same_head a x b y h = let e : ◌≡◌ {A = Node × List ℕ} (a, b) (x, y) = cc in ap (λ p. p.1) e

-- no log is after bytes that have no head of one
pub no_head : (digest bytes : List ℕ) (read : KeptReading) (why : LogFault) → head_in digest bytes ≡ Err why → kept_in digest bytes ≡ Ok read → ⊥
unfolding kept_in
no_head digest bytes read why e h = by_kept (rw e at h)
  where
    by_kept : ◌≡◌ {A = Result KeptReading LogFault} (Err why) (Ok read) → ⊥
    by_kept h = absurd cc

pub place_is : (digest bytes records : List ℕ) (version : ℕ) (node : Node) (read : KeptReading) (count result : ℕ) → length digest ≡ 33 → version ≡ version_of digest → head_in digest bytes ≡ Ok (node, records) → IsLogOf digest bytes read → count ≤ length read.log.calls
    → ((calls : List Stamped) (torn : List ℕ) → records ≡ calls_text version 1 calls ++ torn → count ≤ length calls → AllByRecursion FitsStamped calls → length records ≤ length bytes → result ≡ (length bytes - length records) + length (calls_text version 1 (take count calls)))
    → result ≡ length (kept_text digest (first_calls count read.log))
unfolding kept_text
place_is digest bytes records version node read count result size known head is room found =
    let front : List ℕ = head_text digest read.log.node in
    let text : List ℕ = calls_text (version_of digest) 1 read.log.calls in
    let split : bytes ≡ front ++ (text ++ is.torn) = is.is ∙ append_assoc front text is.torn in
    let same : records ≡ text ++ is.torn =
    same_head node read.log.node records (text ++ is.torn) (sym head ∙ ap (head_in digest) split ∙ head_in-put digest read.log.node (text ++ is.torn) size is.fits.node) in
    let here : records ≡ calls_text version 1 read.log.calls ++ is.torn = same ∙ ap (λ v. calls_text v 1 read.log.calls ++ is.torn) (sym known) in
    let long : length bytes ≡ 46 + length records = omega (arith, ap length split, length-append front (text ++ is.torn), head_length digest read.log.node size, ap length same) in
    let place : result ≡ (length bytes - length records) + length (calls_text version 1 (take count read.log.calls)) = found read.log.calls is.torn here room is.fits.calls (omega (arith, long)) in
    omega (arith, place, long, ap (λ v. length (calls_text v 1 (take count read.log.calls))) known, log_length digest (first_calls count read.log) size)

-- What is read of the beginning of a log's text that a death has left.
use Rattle.std.proofs.Common.{◌≡◌, inl, inr, ℕ, zero, suc, ◌+◌, ◌-◌, ◌<◌, ◌≤◌, ◌⊎◌, Bool, true, false, cond, nat_lt, List, [], ◌∷◌, ◌++◌, length, take, drop, Option, Some, None, Result, Ok, Err, refl, sym, ap, ◌∙◌, subst, arith, append_assoc, append-nil, length-append}
use Rattle.std.proofs.lemmas.Bool.{cases_lt}
use Rattle.std.proofs.lemmas.Bool.Decides.{nat_tests}
use Rattle.std.proofs.lemmas.List.{length-take-le, take_all, take_at, take-append-drop, take-append-le, take-take}
use Rattle.std.specs.List.{AllByRecursion}
use Rattle.claim_model.specs.Node.{Node}
use Rattle.kept_logs.specs.declared.fault.LogFault.{LogFault}
use Rattle.kept_logs.specs.declared.fault.LogFault.TheVariants.{Short}
use Rattle.kept_logs.specs.Stamps.{Stamped, KeptLog, stamped_text}
use Rattle.kept_logs.specs.Digests.{version_of}
use Rattle.kept_logs.specs.Frames.{frame_text}
use Rattle.kept_logs.specs.Logs.{KeptReading, head_text, calls_text, kept_text, kept_in}
use Rattle.kept_logs.specs.Fits.{FitsNode, FitsStamped, FitsKept}
use Rattle.kept_logs.specs.Cuts.{whole_within, calls_within}
use Rattle.kept_logs.proofs.FramesBack.{take_over}
use Rattle.kept_logs.proofs.CallsBack.{all_within}
use Rattle.kept_logs.proofs.LogsBack.{log_length, reads_back, reads_short, reads_whole}
use Rattle.settings_digest.specs.Digests.{digest_in, digest_under, turned_in, turned_under}
use Rattle.node_process.specs.Safe.{IsStartOf}
use Rattle.node_process.specs.Histories.{zeros, IsWholeLog}
use Rattle.node_process.proofs.Bare.{HasKept, ReadsKept}
use Rattle.node_process.proofs.Fronts.{first_of, start_length}
use Rattle.node_process.proofs.Zeros.{zeros_length, take_zeros, more_zeros, reads_zeros}

-- ---- more bytes have no fewer whole records

not_less : (n size : ℕ) → nat_lt n size ≡ false → size ≤ n
not_less n size e = grind (arith, nat_tests)

less : (n size : ℕ) → nat_lt n size ≡ true → n < size
less n size e = grind (arith, nat_tests)

by_tests : (t u : Bool) (n m size a b : ℕ) → nat_lt n size ≡ t → nat_lt m size ≡ u → n ≤ m → a ≤ b → cond t 0 (suc a) ≤ cond u 0 (suc b)
by_tests true true n m size a b e f h le = omega arith
by_tests true false n m size a b e f h le = omega arith
by_tests false true n m size a b e f h le = absurd (let high = not_less n size e in let low = less m size f in omega (arith, high, low, h))
by_tests false false n m size a b e f h le = omega (arith, le)

within_more : (version number n m : ℕ) (calls : List Stamped) → n ≤ m → whole_within version number n calls ≤ whole_within version number m calls
within_more version number n m [] h = omega arith
within_more version number n m (r ∷ calls) h =
    let size = length (frame_text version number (stamped_text r)) in
    by_tests (nat_lt n size) (nat_lt m size) n m size (whole_within version (number + 1) (n - size) calls) (whole_within version (number + 1) (m - size) calls) refl refl h (within_more version (number + 1) (n - size) (m - size) calls (omega (arith, h)))

-- ---- what begins what

pub taken_length : {A : Type 0} (n : ℕ) (xs : List A) → length (take n xs) ≤ n
taken_length zero xs = omega arith
taken_length (suc n) [] = omega arith
taken_length (suc n) (x ∷ xs) = let inner = taken_length n xs in omega (arith, inner)

-- a list that is the first elements of another is its first by its own length
own_first : {A : Type 0} (xs ys : List A) (m : ℕ) → xs ≡ take m ys → xs ≡ take (length xs) ys
own_first {A} xs ys m e =
    let all : xs ++ drop m ys ≡ ys = ap (λ (x : List A). x ++ drop m ys) e ∙ take-append-drop m ys in
    sym (ap (take (length xs)) (sym all) ∙ take_at xs (drop m ys) (length xs) refl)

pub front_fits : (xs ys : List Stamped) → AllByRecursion FitsStamped (xs ++ ys) → AllByRecursion FitsStamped xs
front_fits [] ys f = tt
front_fits (x ∷ xs) ys f = (f.0, front_fits xs ys f.1)

pub same_reading : (a b : KeptReading) → ◌≡◌ {A = Result KeptReading LogFault} (Ok a) (Ok b) → a ≡ b
same_reading a b h = cc

pub not_short : (a : KeptReading) → ◌≡◌ {A = Result KeptReading LogFault} (Ok a) (Err Short) → ⊥
not_short a h = cc

-- ---- bytes that begin the text of a log

-- bytes are the first of a log's text, in which the records of these calls stand whole, and no more
pub record IsCutOf (digest : List ℕ) (node : Node) (bytes : List ℕ) (calls : List Stamped) : Type 0 where
  pub all : List Stamped
  pub more : List Stamped
  pub are : all ≡ calls ++ more
  pub fits : FitsKept (record { node = node; calls = all })
  pub size : ℕ
  pub is : bytes ≡ take size (kept_text digest (record { node = node; calls = all }))
  pub whole : 46 ≤ size → calls_within digest size (record { node = node; calls = all }) ≡ length calls
  pub none : size < 46 → calls ≡ []

pub calls_fit : (digest : List ℕ) (node : Node) (bytes : List ℕ) (calls : List Stamped) → IsCutOf digest node bytes calls → FitsKept (record { node = node; calls = calls })
calls_fit digest node bytes calls c = record { node = c.fits.node; calls = front_fits calls c.more (subst (AllByRecursion FitsStamped) c.are c.fits.calls) }

pub cut_reads : (digest : List ℕ) (node : Node) (bytes : List ℕ) (calls : List Stamped) → length digest ≡ 33 → IsCutOf digest node bytes calls → ReadsKept digest node bytes calls
cut_reads digest node bytes calls d c =
    let log : KeptLog = record { node = node; calls = c.all } in
    elim (cases_lt c.size 46) [
      | inl small ↦ inr (ap (kept_in digest) c.is ∙ reads_short digest log c.size d small, c.none small)
      | inr large ↦
          let back = reads_back digest log c.size d c.fits large in
          let k = calls_within digest c.size log in
          let count : ℕ = length (kept_text digest (record { node = node; calls = take k c.all })) in
          let first : take k c.all ≡ calls = ap (λ n. take n c.all) (c.whole large) ∙ (ap (take (length calls)) c.are ∙ take_at calls c.more (length calls) refl) in
          inl (count, ap (kept_in digest) c.is ∙ (back.read ∙ ap (λ (cs : List Stamped). let r : KeptReading = record { log = record { node = node; calls = cs }; whole = count } in Ok r) first))
    ]

pub text_cut : (digest : List ℕ) (node : Node) (calls : List Stamped) → length digest ≡ 33 → FitsKept (record { node = node; calls = calls }) → IsCutOf digest node (kept_text digest (record { node = node; calls = calls })) calls
text_cut digest node calls d fits =
    let log : KeptLog = record { node = node; calls = calls } in
    let text = kept_text digest log in
    let size : length text ≡ 46 + length (calls_text (version_of digest) 1 calls) = log_length digest log d in
    record {
      all = calls;
      more = [];
      are = sym (append-nil calls);
      fits = fits;
      size = length text;
      is = sym (take_all (length text) text (omega arith));
      whole = λ large. all_within (version_of digest) 1 (length text - 46) calls (omega (arith, size));
      none = λ small. absurd (omega (arith, size, small));
    }

pub nothing_cut : (digest : List ℕ) (node : Node) → FitsNode node → IsCutOf digest node [] []
nothing_cut digest node fits =
    record {
      all = [];
      more = [];
      are = refl;
      fits = record { node = fits; calls = tt };
      size = 0;
      is = refl;
      whole = λ large. absurd (omega (arith, large));
      none = λ small. refl;
    }

-- a log whose text begins that of another has its first calls
pub begins_with : (digest : List ℕ) (node : Node) (xs ys : List Stamped) (n : ℕ) → length digest ≡ 33 → FitsKept (record { node = node; calls = xs }) → FitsKept (record { node = node; calls = ys })
    → n ≡ length (kept_text digest (record { node = node; calls = xs })) → kept_text digest (record { node = node; calls = xs }) ≡ take n (kept_text digest (record { node = node; calls = ys }))
    → xs ≡ take (calls_within digest n (record { node = node; calls = ys })) ys
begins_with digest node xs ys n d first fits is e =
    let a : KeptLog = record { node = node; calls = xs } in
    let b : KeptLog = record { node = node; calls = ys } in
    let back = reads_back digest b n d fits (omega (arith, is, log_length digest a d)) in
    let k = calls_within digest n b in
    let r = same_reading (record { log = a; whole = length (kept_text digest a) }) (record { log = record { node = node; calls = take k ys }; whole = length (kept_text digest (record { node = node; calls = take k ys })) })
    (sym (reads_whole digest a d first) ∙ (ap (kept_in digest) e ∙ back.read)) in
    ap (λ (x : KeptReading). x.log.calls) r

-- a text that is read as calls is the text of these
pub same_calls : (digest : List ℕ) (node : Node) (xs ys : List Stamped) (bytes : List ℕ) → length digest ≡ 33 → FitsKept (record { node = node; calls = xs }) → bytes ≡ kept_text digest (record { node = node; calls = xs })
    → ReadsKept digest node bytes ys → xs ≡ ys
same_calls digest node xs ys bytes d fits is (inl read) =
    let a : KeptLog = record { node = node; calls = xs } in
    ap (λ (x : KeptReading). x.log.calls)
    (same_reading (record { log = a; whole = length (kept_text digest a) }) (record { log = record { node = node; calls = ys }; whole = read.0 }) (sym (ap (kept_in digest) is ∙ reads_whole digest a d fits) ∙ read.1))
same_calls digest node xs ys bytes d fits is (inr none) =
    let a : KeptLog = record { node = node; calls = xs } in
    absurd (not_short (record { log = a; whole = length (kept_text digest a) }) (sym (ap (kept_in digest) is ∙ reads_whole digest a d fits) ∙ none.0))

-- bytes that begin the text of a log and end with a record of it are the text of its first calls
whole_front : (digest : List ℕ) (node : Node) (front : List ℕ) (calls : List Stamped) → length digest ≡ 33 → IsCutOf digest node front calls → IsWholeLog digest front → front ≡ kept_text digest (record { node = node; calls = calls })
whole_front digest node front calls d c (log, reads) =
    let all : KeptLog = record { node = node; calls = c.all } in
    let text = kept_text digest all in
    elim (cases_lt c.size 46) [
      | inl small ↦ absurd (not_short (record { log = log; whole = length front }) (sym reads ∙ (ap (kept_in digest) c.is ∙ reads_short digest all c.size d small)))
      | inr large ↦
          let back = reads_back digest all c.size d c.fits large in
          let k = calls_within digest c.size all in
          let within : KeptLog = record { node = node; calls = take k c.all } in
          let own = kept_text digest within in
          let r = same_reading (record { log = log; whole = length front }) (record { log = within; whole = length own }) (sym reads ∙ (ap (kept_in digest) c.is ∙ back.read)) in
          let long : length front ≡ length own = ap (λ (x : KeptReading). x.whole) r in
          let first : take k c.all ≡ calls = ap (λ n. take n c.all) (c.whole large) ∙ (ap (take (length calls)) c.are ∙ take_at calls c.more (length calls) refl) in
          let short : length own ≤ c.size = back.stand in
          sym (take_all (length own) front (omega (arith, long)))
          ∙ (ap (take (length own)) c.is
          ∙ (take-take (length own) c.size text short
          ∙ (back.text ∙ ap (λ (cs : List Stamped). kept_text digest (record { node = node; calls = cs })) first)))
    ]

-- ---- zeros after them

-- bytes are such first bytes of a log's text, and after them nothing; or they end with a record, and zeros stand after it
pub record IsTornOf (digest : List ℕ) (node : Node) (bytes : List ℕ) (calls : List Stamped) : Type 0 where
  pub front : List ℕ
  pub lost : ℕ
  pub is : bytes ≡ front ++ zeros lost
  pub cut : IsCutOf digest node front calls
  pub ends : (lost ≡ 0) ⊎ (front ≡ kept_text digest (record { node = node; calls = calls }))

pub untorn : (digest : List ℕ) (node : Node) (bytes : List ℕ) (calls : List Stamped) → IsCutOf digest node bytes calls → IsTornOf digest node bytes calls
untorn digest node bytes calls c = record { front = bytes; lost = 0; is = sym (append-nil bytes); cut = c; ends = inl refl }

pub torn_fits : (digest : List ℕ) (node : Node) (bytes : List ℕ) (calls : List Stamped) → IsTornOf digest node bytes calls → FitsKept (record { node = node; calls = calls })
torn_fits digest node bytes calls t = calls_fit digest node t.front calls t.cut

no_zeros : (front bytes : List ℕ) (n : ℕ) → bytes ≡ front ++ zeros n → n ≡ 0 → bytes ≡ front
no_zeros front bytes n is none = is ∙ (ap (λ m. front ++ zeros m) none ∙ append-nil front)

-- zeros after the text of a log
pub zeros_read : (digest : List ℕ) (node : Node) (front bytes : List ℕ) (calls : List Stamped) (n : ℕ) → length digest ≡ 33 → FitsKept (record { node = node; calls = calls })
    → bytes ≡ front ++ zeros n → front ≡ kept_text digest (record { node = node; calls = calls })
    → kept_in digest bytes ≡ Ok (record { log = record { node = node; calls = calls }; whole = length front })
zeros_read digest node front bytes calls n d fits is text =
    let log : KeptLog = record { node = node; calls = calls } in
    ap (kept_in digest) (is ∙ ap (λ (x : List ℕ). x ++ zeros n) text)
    ∙ (reads_zeros digest log n d fits ∙ ap (λ (x : List ℕ). let r : KeptReading = record { log = log; whole = length x } in Ok r) (sym text))

pub torn_reads : (digest : List ℕ) (node : Node) (bytes : List ℕ) (calls : List Stamped) → length digest ≡ 33 → IsTornOf digest node bytes calls → ReadsKept digest node bytes calls
torn_reads digest node bytes calls d t = by_end t.ends
  where
    by_end : (t.lost ≡ 0) ⊎ (t.front ≡ kept_text digest (record { node = node; calls = calls })) → ReadsKept digest node bytes calls
    by_end (inl none) = subst (λ (b : List ℕ). ReadsKept digest node b calls) (sym (no_zeros t.front bytes t.lost t.is none)) (cut_reads digest node t.front calls d t.cut)
    by_end (inr text) = inl (length t.front, zeros_read digest node t.front bytes calls t.lost d (torn_fits digest node bytes calls t) t.is text)

-- ---- their version

-- such bytes are of version 2, where the log is
second_cut : (file : List ℕ) (log : KeptLog) (n lost : ℕ) → digest_under file (take n (kept_text (digest_in file) log) ++ zeros lost) ≡ digest_in file
unfolding digest_under digest_in kept_text head_text
second_cut file log zero zero = refl
second_cut file log zero (suc zero) = refl
second_cut file log zero (suc (suc zero)) = refl
second_cut file log zero (suc (suc (suc lost))) = refl
second_cut file log (suc zero) zero = refl
second_cut file log (suc zero) (suc zero) = refl
second_cut file log (suc zero) (suc (suc lost)) = refl
second_cut file log (suc (suc zero)) zero = refl
second_cut file log (suc (suc zero)) (suc lost) = refl
second_cut file log (suc (suc (suc n))) lost = refl

pub torn_second : (file : List ℕ) (rest : Option (List ℕ)) (node : Node) (bytes : List ℕ) (calls : List Stamped) → IsTornOf (turned_in file rest) node bytes calls → turned_under file rest bytes ≡ turned_in file rest
torn_second file (Some rest) node bytes calls t = refl
torn_second file None node bytes calls t =
    let c = t.cut in
    ap (digest_under file) (t.is ∙ ap (λ (x : List ℕ). x ++ zeros t.lost) c.is) ∙ second_cut file (record { node = node; calls = c.all }) c.size t.lost

-- ---- what a death leaves

-- bytes that were left have the first of these calls, and no fewer than were synced
pub record HasLeft (digest : List ℕ) (node : Node) (left : List ℕ) (calls synced : List Stamped) : Type 0 where
  pub count : ℕ
  pub torn : IsTornOf digest node left (take count calls)
  pub enough : length synced ≤ count
  pub most : count ≤ length calls
  pub begins : synced ≡ take (length synced) calls

synced_within : (digest : List ℕ) (node : Node) (disk bytes : List ℕ) (calls synced : List Stamped) (n : ℕ) → length digest ≡ 33 → (c : IsCutOf digest node bytes calls) → FitsKept (record { node = node; calls = synced })
    → HasKept digest node disk synced → IsStartOf disk (take n (kept_text digest (record { node = node; calls = c.all }))) → 46 ≤ n → calls_within digest n (record { node = node; calls = c.all }) ≤ length calls
    → (length synced ≤ calls_within digest n (record { node = node; calls = c.all })) × (synced ≡ take (length synced) calls)
synced_within digest node disk bytes calls synced n d c fits (inr none) start large most =
    let e : length synced ≡ 0 = ap length none.1 in
    (omega (arith, e), none.1 ∙ sym (ap (λ m. take m calls) e))
synced_within digest node disk bytes calls synced n d c fits (inl is) start large most =
    let log : KeptLog = record { node = node; calls = c.all } in
    let text = kept_text digest log in
    let own : KeptLog = record { node = node; calls = synced } in
    let size = length (kept_text digest own) in
    let long : length disk ≡ size = ap length is in
    let short : size ≤ n = let a = start_length disk (take n text) start in let b = taken_length n text in omega (arith, long, a, b) in
    let first : kept_text digest own ≡ take size text = sym is ∙ (first_of disk (take n text) start ∙ (ap (λ m. take m (take n text)) long ∙ take-take size n text short)) in
    let are = begins_with digest node synced c.all size d fits c.fits refl first in
    let count : length synced ≤ calls_within digest size log = let b = taken_length (calls_within digest size log) c.all in let a = ap length are in omega (arith, a, b) in
    let more : calls_within digest size log ≤ calls_within digest n log = within_more (version_of digest) 1 (size - 46) (n - 46) c.all (omega (arith, short)) in
    let within : length synced ≤ length calls = omega (arith, count, more, most) in (
      omega (arith, count, more),
      own_first synced c.all (calls_within digest size log) are ∙ (ap (take (length synced)) c.are ∙ take-append-le (length synced) calls c.more within),
    )

-- the same of bytes without zeros
record HasFront (digest : List ℕ) (node : Node) (left : List ℕ) (calls synced : List Stamped) : Type 0 where
  count : ℕ
  cut : IsCutOf digest node left (take count calls)
  enough : length synced ≤ count
  most : count ≤ length calls
  begins : synced ≡ take (length synced) calls

front_reads : (digest : List ℕ) (node : Node) (disk left bytes : List ℕ) (calls synced : List Stamped) → length digest ≡ 33 → FitsKept (record { node = node; calls = synced }) → HasKept digest node disk synced
    → IsStartOf disk left → IsStartOf left bytes → IsCutOf digest node bytes calls → HasFront digest node left calls synced
front_reads digest node disk left bytes calls synced d fits has under start c =
    let log : KeptLog = record { node = node; calls = c.all } in
    let text = kept_text digest log in
    let n = length left in
    let within : n ≤ c.size = let a = start_length left bytes start in let b = taken_length c.size text in let e = ap length c.is in omega (arith, a, b, e) in
    let is : left ≡ take n text = first_of left bytes start ∙ (ap (take n) c.is ∙ take-take n c.size text within) in
    elim (cases_lt n 46) [
      | inl small ↦ by_disk has small is
      | inr large ↦
          let k = calls_within digest n log in
          let more : k ≤ calls_within digest c.size log = within_more (version_of digest) 1 (n - 46) (c.size - 46) c.all (omega (arith, within)) in
          let most : k ≤ length calls = let e = c.whole (omega (arith, large, within)) in omega (arith, more, e) in
          let found = synced_within digest node disk bytes calls synced n d c fits has (subst (IsStartOf disk) is under) large most in
          record {
            count = k;
            cut = record {
              all = c.all;
              more = drop k calls ++ c.more;
              are = c.are ∙ (ap (λ (x : List Stamped). x ++ c.more) (sym (take-append-drop k calls)) ∙ append_assoc (take k calls) (drop k calls) c.more);
              fits = c.fits;
              size = n;
              is = is;
              whole = λ h. sym (length-take-le k calls most);
              none = λ h. absurd (omega (arith, h, large));
            };
            enough = found.0;
            most = most;
            begins = found.1;
          }
    ]
  where
    by_disk : HasKept digest node disk synced → length left < 46 → left ≡ take (length left) (kept_text digest (record { node = node; calls = c.all })) → HasFront digest node left calls synced
    by_disk (inl e) small is =
        let size = log_length digest (record { node = node; calls = synced }) d in
        let long = ap length e in
        let a = start_length disk left under in
        absurd (omega (arith, size, long, a, small))
    by_disk (inr none) small is =
        let e : length synced ≡ 0 = ap length none.1 in
        record {
          count = 0;
          cut = record { all = c.all; more = c.all; are = refl; fits = c.fits; size = length left; is = is; whole = λ h. absurd (omega (arith, h, small)); none = λ h. refl };
          enough = omega (arith, e);
          most = omega arith;
          begins = none.1 ∙ sym (ap (λ m. take m calls) e);
        }

-- what is on the disk stands before the zeros
before_zeros : (digest : List ℕ) (node : Node) (disk front : List ℕ) (calls synced : List Stamped) (n : ℕ) → length digest ≡ 33 → FitsKept (record { node = node; calls = calls }) → FitsKept (record { node = node; calls = synced })
    → HasKept digest node disk synced → front ≡ kept_text digest (record { node = node; calls = calls }) → IsStartOf disk (front ++ zeros n) → IsStartOf disk front
before_zeros digest node disk front calls synced n d fits first (inr none) text start = record { rest = front; is = ap (λ (x : List ℕ). x ++ front) none.0 }
before_zeros digest node disk front calls synced n d fits first (inl is) text start =
    let lost : List ℕ = zeros n in
    let size = length disk in
    let disk_is : disk ≡ take size (front ++ lost) = first_of disk (front ++ lost) start in
    elim (cases_lt (length front) size) [
      | inl more ↦
          let m = size - length front in
          let most : m ≤ n = let a = start_length disk (front ++ lost) start in let b = length-append front lost in let e = zeros_length n in omega (arith, a, b, e) in
          let over : disk ≡ front ++ zeros m = disk_is ∙ (take_over front lost size (omega (arith, more)) ∙ ap (λ (x : List ℕ). front ++ x) (take_zeros m n most)) in
          let own : KeptLog = record { node = node; calls = synced } in
          let log : KeptLog = record { node = node; calls = calls } in
          let r = same_reading (record { log = own; whole = length (kept_text digest own) }) (record { log = log; whole = length front })
          (sym (reads_whole digest own d first) ∙ (ap (kept_in digest) (sym is) ∙ zeros_read digest node front disk calls m d fits over text)) in
          let same : length (kept_text digest own) ≡ length front = ap (λ (x : KeptReading). x.whole) r in
          let long : size ≡ length (kept_text digest own) = ap length is in
          absurd (omega (arith, more, same, long))
      | inr short ↦ record { rest = drop size front; is = ap (λ (x : List ℕ). x ++ drop size front) (disk_is ∙ take-append-le size front lost short) ∙ take-append-drop size front }
    ]

-- some of the bytes that were there, and zeros where the others were
pub left_reads : (digest : List ℕ) (node : Node) (disk front left bytes : List ℕ) (calls synced : List Stamped) (lost : ℕ) → length digest ≡ 33 → FitsKept (record { node = node; calls = synced }) → HasKept digest node disk synced
    → IsStartOf disk front → IsStartOf front bytes → left ≡ front ++ zeros lost → (lost ≡ 0) ⊎ IsWholeLog digest front → IsTornOf digest node bytes calls → HasLeft digest node left calls synced
left_reads digest node disk front left bytes calls synced lost d fits has under start is ends t = elim (cases_lt (length t.front) (length front)) [
  | inl more ↦ by_zeros more t.ends
  | inr short ↦ within short
]
  where
    starts : IsStartOf front (t.front ++ zeros t.lost)
    starts = subst (IsStartOf front) t.is start

    -- no further than the records
    within : length front ≤ length t.front → HasLeft digest node left calls synced
    within short =
        let same : front ≡ take (length front) t.front = first_of front (t.front ++ zeros t.lost) starts ∙ take-append-le (length front) t.front (zeros t.lost) short in
        let begins : IsStartOf front t.front = record { rest = drop (length front) t.front; is = ap (λ (x : List ℕ). x ++ drop (length front) t.front) same ∙ take-append-drop (length front) t.front } in
        let l = front_reads digest node disk front t.front calls synced d fits has under begins t.cut in
        record {
          count = l.count;
          torn = record { front = front; lost = lost; is = is; cut = l.cut; ends = by_end l.count l.cut ends };
          enough = l.enough;
          most = l.most;
          begins = l.begins;
        }
      where
        by_end : (count : ℕ) → IsCutOf digest node front (take count calls) → (lost ≡ 0) ⊎ IsWholeLog digest front → (lost ≡ 0) ⊎ (front ≡ kept_text digest (record { node = node; calls = take count calls }))
        by_end count c (inl none) = inl none
        by_end count c (inr whole) = inr (whole_front digest node front (take count calls) d c whole)

    -- and some of the zeros
    by_zeros : length t.front < length front → (t.lost ≡ 0) ⊎ (t.front ≡ kept_text digest (record { node = node; calls = calls })) → HasLeft digest node left calls synced
    by_zeros more (inl none) =
        let a = start_length front (t.front ++ zeros t.lost) starts in
        let b = length-append t.front (zeros t.lost) in
        let c = zeros_length t.lost in
        absurd (omega (arith, a, b, c, none, more))
    by_zeros more (inr text) =
        let more_lost : List ℕ = zeros t.lost in
        let n = length front - length t.front in
        let most : n ≤ t.lost = let a = start_length front (t.front ++ more_lost) starts in let b = length-append t.front more_lost in let c = zeros_length t.lost in omega (arith, a, b, c) in
        let over : front ≡ t.front ++ zeros n =
        first_of front (t.front ++ more_lost) starts ∙ (take_over t.front more_lost (length front) (omega (arith, more)) ∙ ap (λ (x : List ℕ). t.front ++ x) (take_zeros n t.lost most)) in
        let all : left ≡ t.front ++ zeros (n + lost) =
        is ∙ (ap (λ (x : List ℕ). x ++ zeros lost) over ∙ (append_assoc t.front (zeros n) (zeros lost) ∙ ap (λ (x : List ℕ). t.front ++ x) (more_zeros n lost))) in
        let fits_all = torn_fits digest node bytes calls t in
        let disk_under : IsStartOf disk t.front = before_zeros digest node disk t.front calls synced n d fits_all fits has text (subst (IsStartOf disk) over under) in
        let l = front_reads digest node disk t.front t.front calls synced d fits has disk_under (record { rest = []; is = append-nil t.front }) t.cut in
        let whole : take (length calls) calls ≡ calls = take_all (length calls) calls (omega arith) in
        record {
          count = length calls;
          torn = subst (IsTornOf digest node left) (sym whole) (record { front = t.front; lost = n + lost; is = all; cut = t.cut; ends = inr text });
          enough = let a = l.enough in let b = l.most in omega (arith, a, b);
          most = omega arith;
          begins = l.begins;
        }

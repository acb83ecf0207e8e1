-- What is read as a log is its text, and what stands after it is how a record begins.
use Rattle.std.proofs.Common.{◌≡◌, ℕ, zero, suc, ◌+◌, ◌-◌, ◌<◌, ◌≤◌, ◌==◌, ◌&&◌, Bool, true, false, cond, List, [], ◌∷◌, ◌++◌, length, take, drop, nat_lt, Option, Some, None, Result, Ok, Err, refl, ap, ◌∙◌, sym, subst, arith, append_assoc, append-nil, length-append, codes}
use Rattle.std.proofs.lemmas.Bool.Decides.{nat_tests}
use Rattle.std.proofs.lemmas.List.{take_at, take-append-drop, length-take-le}
use Rattle.std.specs.Int.{w64, to_be_bytes}
use Rattle.claim_model.specs.Node.{Node}
use Rattle.codec.specs.Fields.{bytes_at, u64_at}
use Rattle.codec.specs.Laws.{AreBytes, IsTaken}
use Rattle.codec.proofs.FieldsOnly.{drop_bytes, take_bytes, u64_at_taken}
use Rattle.codec.proofs.CodecLaws.{both_taken, exactly_is}
use Rattle.kept_logs.specs.Stamps.{Stamped, stamped_text, stamped_in}
use Rattle.kept_logs.specs.declared.fault.LogFault.{LogFault}
use Rattle.kept_logs.specs.declared.fault.LogFault.TheVariants as fault
use Rattle.kept_logs.specs.Faults.{◌>>=◌, some_or}
use Rattle.kept_logs.specs.Fields.{node_codec}
use Rattle.kept_logs.specs.Digests.{version_of}
use Rattle.kept_logs.specs.Frames.{largest, is_size, is_zeros, no_record, check_of, frame_text, Met, Whole, Torn, Differs, met, Frame, Framed, CutOff, Damaged, checked, behind_length, sized_frame, body_at, frame_at}
use Rattle.kept_logs.specs.Logs.{owner_text, head_text, calls_text, kept_text, expected, head_in, read_record, framed_record, record_in, behind, and_more, calls_in, KeptReading, kept_in, Reading, alone, calls_alone, log_in}
use Rattle.std.specs.List.{AllByRecursion}
use Rattle.kept_logs.specs.Fits.{FitsNode, FitsStamped}
use Rattle.kept_logs.specs.Cuts.{IsLogOf, IsOfLog}
use Rattle.kept_logs.proofs.Formats.{node_is, fits_node}
use Rattle.kept_logs.proofs.Meeting.{met-whole}
use Rattle.kept_logs.proofs.StampsOnly.{stamped_in_taken, stamped_fits}
use Rattle.kept_logs.proofs.LogsBack.{node_length}

-- ---- frames

-- what follows bytes is bytes
rest_are : (front rest : List ℕ) → AreBytes (front ++ rest) → AreBytes rest
rest_are [] rest are = are
rest_are (x ∷ front) rest are = rest_are front rest (drop_bytes 1 (x ∷ (front ++ rest)) are)

whole_taken : (wanted bytes rest : List ℕ) → AreBytes bytes → met wanted bytes ≡ Whole rest → IsTaken bytes wanted rest
whole_taken wanted bytes rest are h =
    let all = met-whole wanted bytes rest h in
    record { all = all; rest_bytes = rest_are wanted rest (subst AreBytes all are) }

-- what a frame at the front is
pub record IsFramed (version number : ℕ) (bytes body after : List ℕ) : Type 0 where
  pub taken : IsTaken bytes (frame_text version number body) after
  pub body_bytes : AreBytes body
  pub size : is_size (length body) ≡ true

framed_is : (a x b y : List ℕ) → Framed a b ≡ Framed x y → (a ≡ x) × (b ≡ y)
framed_is a x b y h = (ap body_of h, ap after_of h)
  where
    body_of : Frame → List ℕ
    body_of (Framed body after) = body
    body_of CutOff = a
    body_of Damaged = a

    after_of : Frame → List ℕ
    after_of (Framed body after) = after
    after_of CutOff = b
    after_of Damaged = b

body_taken : (version number size : ℕ) (bytes body after : List ℕ) → AreBytes bytes → body_at version number size bytes ≡ Framed body after → IsTaken bytes (body ++ check_of version number body) after × (length body ≡ size) × AreBytes body
unfolding body_at
body_taken version number size bytes body after are h = by_test (nat_lt (length bytes) size) refl h
  where
    front : List ℕ
    front = take size bytes

    long_from : (m : ℕ) → nat_lt m size ≡ false → size ≤ m
    long_from m t = grind (arith, nat_tests)

    by_met : size ≤ length bytes → (m : Met) → met (check_of version number front) (drop size bytes) ≡ m → checked front m ≡ Framed body after → IsTaken bytes (body ++ check_of version number body) after × (length body ≡ size) × AreBytes body
    by_met long Torn e h = cc
    by_met long Differs e h = cc
    by_met long (Whole rest) e h =
        let parts = framed_is front body rest after h in
        let inner = whole_taken (check_of version number front) (drop size bytes) rest (drop_bytes size bytes are) e in
        let first : IsTaken bytes front (drop size bytes) = record { all = sym (take-append-drop size bytes); rest_bytes = drop_bytes size bytes are } in
        let both : IsTaken bytes (front ++ check_of version number front) rest = both_taken bytes front (drop size bytes) (check_of version number front) rest first inner in
        let named : IsTaken bytes (body ++ check_of version number body) rest = subst (λ b. IsTaken bytes (b ++ check_of version number b) rest) parts.0 both in
        (subst (λ r. IsTaken bytes (body ++ check_of version number body) r) parts.1 named, ap length (sym parts.0) ∙ length-take-le size bytes long, subst AreBytes parts.0 (take_bytes size bytes are long))

    by_test : (short : Bool) → nat_lt (length bytes) size ≡ short → cond short CutOff (checked front (met (check_of version number front) (drop size bytes))) ≡ Framed body after → IsTaken bytes (body ++ check_of version number body) after × (length body ≡ size) × AreBytes body
    by_test true t h = cc
    by_test false t h = by_met (long_from (length bytes) t) (met (check_of version number front) (drop size bytes)) refl h

pub frame_at_taken : (version number : ℕ) (bytes body after : List ℕ) → AreBytes bytes → frame_at version number bytes ≡ Framed body after → IsFramed version number bytes body after
unfolding frame_at frame_text
frame_at_taken version number bytes body after are h = by_count (u64_at bytes) refl h
  where
    by_met : (size : ℕ) (rest : List ℕ) → IsTaken bytes (to_be_bytes w64 size) rest → (m : Met) → met (to_be_bytes w64 (largest - size)) rest ≡ m → behind_length version number size m ≡ Framed body after → is_size size ≡ true → IsFramed version number bytes body after
    by_met size rest first Torn e h fits = cc
    by_met size rest first Differs e h fits = cc
    by_met size rest first (Whole tail) e h fits =
        let second = whole_taken (to_be_bytes w64 (largest - size)) rest tail first.rest_bytes e in
        let third = body_taken version number size tail body after second.rest_bytes h in
        let inner = both_taken rest (to_be_bytes w64 (largest - size)) tail (body ++ check_of version number body) after second third.0 in
        let all = both_taken bytes (to_be_bytes w64 size) rest (to_be_bytes w64 (largest - size) ++ (body ++ check_of version number body)) after first inner in
        record {
          taken = subst (λ n. IsTaken bytes (to_be_bytes w64 n ++ (to_be_bytes w64 (largest - n) ++ (body ++ check_of version number body))) after) (sym third.1) all;
          body_bytes = third.2;
          size = ap is_size third.1 ∙ fits;
        }

    by_blank : (b : Bool) → cond b CutOff Damaged ≡ Framed body after → IsFramed version number bytes body after
    by_blank true h = cc
    by_blank false h = cc

    by_size : (size : ℕ) (rest : List ℕ) → IsTaken bytes (to_be_bytes w64 size) rest → (b : Bool) → is_size size ≡ b → cond b (behind_length version number size (met (to_be_bytes w64 (largest - size)) rest)) (no_record size rest) ≡ Framed body after → IsFramed version number bytes body after
    by_size size rest first true fits h = by_met size rest first (met (to_be_bytes w64 (largest - size)) rest) refl h fits
    by_size size rest first false fits h = by_blank ((size == 0) && is_zeros rest) h

    by_count : (o : Option (ℕ × List ℕ)) → u64_at bytes ≡ o → sized_frame version number o ≡ Framed body after → IsFramed version number bytes body after
    by_count None e h = cc
    by_count (Some (size, rest)) e h = by_size size rest (u64_at_taken bytes size rest are e).0 (is_size size) refl h

-- ---- records

abbrev Step : Type 0
Step = Result (Option (Stamped × List ℕ)) LogFault

abbrev IsRecord : ℕ → ℕ → List ℕ → Stamped → List ℕ → Type 0
IsRecord version number bytes r after = IsTaken bytes (frame_text version number (stamped_text r)) after × FitsStamped r

record_taken : (version number place : ℕ) (bytes : List ℕ) (r : Stamped) (after : List ℕ) → AreBytes bytes → record_in version number place bytes ≡ Ok (Some (r, after)) → IsRecord version number bytes r after
unfolding record_in
record_taken version number place bytes r after are h = by_frame (frame_at version number bytes) refl h
  where
    same : (a x : Stamped) (b y : List ℕ) → ◌≡◌ {A = Step} (Ok (Some (a, b))) (Ok (Some (x, y))) → (a ≡ x) × (b ≡ y)
    same a x b y h = let e : ◌≡◌ {A = Stamped × List ℕ} (a, b) (x, y) = cc in (ap (λ p. p.0) e, ap (λ p. p.1) e)

    by_body : (body rest : List ℕ) → IsFramed version number bytes body rest → (o : Option Stamped) → stamped_in body ≡ o → read_record place rest o ≡ Ok (Some (r, after)) → IsRecord version number bytes r after
    by_body body rest framed None e h = cc
    by_body body rest framed (Some one) e h =
        let parts = same one r rest after h in
        let text : body ≡ stamped_text r = stamped_in_taken body one framed.body_bytes e ∙ ap stamped_text parts.0 in
        (subst (λ t. IsTaken bytes (frame_text version number (stamped_text r)) t) parts.1 (subst (λ b. IsTaken bytes (frame_text version number b) rest) text framed.taken), subst FitsStamped parts.0 (stamped_fits body one framed.body_bytes framed.size e))

    by_frame : (f : Frame) → frame_at version number bytes ≡ f → framed_record place f ≡ Ok (Some (r, after)) → IsRecord version number bytes r after
    by_frame CutOff e h = cc
    by_frame Damaged e h = cc
    by_frame (Framed body rest) e h = by_body body rest (frame_at_taken version number bytes body rest are e) (stamped_in body) refl h

record_cut : (version number place : ℕ) (bytes : List ℕ) → record_in version number place bytes ≡ Ok None → frame_at version number bytes ≡ CutOff
unfolding record_in
record_cut version number place bytes h = by_frame (frame_at version number bytes) refl h
  where
    by_body : (after : List ℕ) (o : Option Stamped) → read_record place after o ≡ Ok None → frame_at version number bytes ≡ CutOff
    by_body after None h = cc
    by_body after (Some one) h = cc

    by_frame : (f : Frame) → frame_at version number bytes ≡ f → framed_record place f ≡ Ok None → frame_at version number bytes ≡ CutOff
    by_frame CutOff e h = e
    by_frame Damaged e h = cc
    by_frame (Framed body after) e h = by_body after (stamped_in body) h

-- nothing is left, where no byte is
nothing_cut : (version number : ℕ) (bytes : List ℕ) → length bytes ≤ 0 → frame_at version number bytes ≡ CutOff
unfolding frame_at u64_at
nothing_cut version number [] h = refl
nothing_cut version number (x ∷ xs) h = absurd (omega arith)

-- calls that were read, and what is left
pub record AreCalls (version number : ℕ) (bytes : List ℕ) (calls : List Stamped) (rest : List ℕ) : Type 0 where
  pub text : bytes ≡ calls_text version number calls ++ rest
  pub cut : frame_at version (number + length calls) rest ≡ CutOff
  pub fits : AllByRecursion FitsStamped calls

no_more : (version number : ℕ) (bytes : List ℕ) (calls : List Stamped) (rest : List ℕ) → frame_at version number bytes ≡ CutOff → ([] ≡ calls) → (bytes ≡ rest) → AreCalls version number bytes calls rest
unfolding calls_text
no_more version number bytes calls rest cut none same =
    let e : number ≡ number + 0 = omega arith in
    let found : AreCalls version number bytes [] bytes = record { text = refl; cut = ap (λ n. frame_at version n bytes) (sym e) ∙ cut; fits = tt } in
    subst (λ r. AreCalls version number bytes calls r) same (subst (λ cs. AreCalls version number bytes cs bytes) none found)

one_more : (version number : ℕ) (bytes after : List ℕ) (r : Stamped) (calls : List Stamped) (rest : List ℕ) → IsRecord version number bytes r after → AreCalls version (number + 1) after calls rest → AreCalls version number bytes (r ∷ calls) rest
unfolding calls_text
one_more version number bytes after r calls rest first others =
    let e : number + 1 + length calls ≡ number + suc (length calls) = omega arith in
    record {
      text = first.0.all ∙ ap (λ t. frame_text version number (stamped_text r) ++ t) others.text ∙ sym (append_assoc (frame_text version number (stamped_text r)) (calls_text version (number + 1) calls) rest);
      cut = ap (λ n. frame_at version n rest) (sym e) ∙ others.cut;
      fits = (first.1, others.fits);
    }

abbrev Reads : Type 0
Reads = Result (List Stamped × List ℕ) LogFault

same_reads : (a x : List Stamped) (b y : List ℕ) → ◌≡◌ {A = Reads} (Ok (a, b)) (Ok (x, y)) → (a ≡ x) × (b ≡ y)
same_reads a x b y h = let e : ◌≡◌ {A = List Stamped × List ℕ} (a, b) (x, y) = cc in (ap (λ p. p.0) e, ap (λ p. p.1) e)

frame_some : (version number : ℕ) (body : List ℕ) → 0 < length (frame_text version number body)
unfolding frame_text
frame_some version number body = omega arith

pub calls_in_taken : (version total number most : ℕ) (bytes : List ℕ) (calls : List Stamped) (rest : List ℕ) → AreBytes bytes → length bytes ≤ most → calls_in version total number most bytes ≡ Ok (calls, rest) → AreCalls version number bytes calls rest
unfolding calls_in
calls_in_taken version total number zero bytes calls rest are room h = let same = same_reads [] calls bytes rest h in no_more version number bytes calls rest (nothing_cut version number bytes room) same.0 same.1
calls_in_taken version total number (suc most) bytes calls rest are room h =
    by_step (record_in version number (total - length bytes) bytes) refl (λ after cs bs l e. calls_in_taken version total (number + 1) most after cs rest bs l e) h
  where
    more : List ℕ → Reads
    more after = calls_in version total (number + 1) most after

    by_rest : (after : List ℕ) (r : Stamped) → IsRecord version number bytes r after → ((cs : List Stamped) → more after ≡ Ok (cs, rest) → AreCalls version (number + 1) after cs rest)
        → (reading : Reads) → more after ≡ reading → behind (r ∷ []) reading ≡ Ok (calls, rest) → AreCalls version number bytes calls rest
    by_rest after r first inner (Err why) e h = cc
    by_rest after r first inner (Ok (cs, left)) e h =
        let same = same_reads (r ∷ cs) calls left rest h in
        let others : AreCalls version (number + 1) after cs rest = inner cs (e ∙ ap (λ t. Ok (cs, t)) same.1) in
        subst (λ (x : List Stamped). AreCalls version number bytes x rest) same.0 (one_more version number bytes after r cs rest first others)

    by_step : (step : Step) → record_in version number (total - length bytes) bytes ≡ step → ((after : List ℕ) (cs : List Stamped) → AreBytes after → length after ≤ most → more after ≡ Ok (cs, rest) → AreCalls version (number + 1) after cs rest)
        → and_more bytes more step ≡ Ok (calls, rest) → AreCalls version number bytes calls rest
    by_step (Err why) e inner h = cc
    by_step (Ok None) e inner h = let same = same_reads [] calls bytes rest h in no_more version number bytes calls rest (record_cut version number (total - length bytes) bytes e) same.0 same.1
    by_step (Ok (Some (r, after))) e inner h =
        let first : IsRecord version number bytes r after = record_taken version number (total - length bytes) bytes r after are e in
        let fewer : length after ≤ most = omega (arith, room, ap length first.0.all, length-append (frame_text version number (stamped_text r)) after, frame_some version number (stamped_text r)) in
        by_rest after r first (λ cs e. inner after cs first.0.rest_bytes fewer e) (more after) refl h

-- ---- the head

result_then : {A B : Type 0} (r : Result A LogFault) (f : A → Result B LogFault) (y : B) → (r >>= f) ≡ Ok y → (x : A) × (r ≡ Ok x) × (f x ≡ Ok y)
result_then (Ok x) f y h = (x, refl, h)
result_then (Err why) f y h = cc

expected_whole : (why : LogFault) (m : Met) (rest : List ℕ) → expected why m ≡ Ok rest → m ≡ Whole rest
expected_whole why (Whole left) rest h = let e : left ≡ rest = cc in ap Whole e
expected_whole why Torn rest h = cc
expected_whole why Differs rest h = cc

some_of : {A : Type 0} (why : LogFault) (o : Option A) (x : A) → some_or why o ≡ Ok x → o ≡ Some x
some_of why None x h = cc
some_of why (Some y) x h = let e : y ≡ x = cc in ap Some e

abbrev Head : Type 0
Head = Result (Node × List ℕ) LogFault

abbrev after_node : List ℕ → List ℕ → Node × List ℕ → Head
after_node digest rest node = expected fault.OtherSettings (met digest node.1) >>= λ own. Ok (node.0, rest)

abbrev after_sum : List ℕ → List ℕ → List ℕ → Head
after_sum digest owner rest = some_or fault.NoNode (node_codec.at owner) >>= after_node digest rest

abbrev after_owner : ℕ → List ℕ → List ℕ × List ℕ → Head
after_owner version digest owner = expected fault.DamagedHead (met (check_of version 0 owner.0) owner.1) >>= after_sum digest owner.0

abbrev after_version : ℕ → List ℕ → List ℕ → Head
after_version version digest known = some_or fault.Short (bytes_at 35 known) >>= after_owner version digest

abbrev after_name : ℕ → List ℕ → List ℕ → Head
after_name version digest named = expected fault.Version (met (version ∷ []) named) >>= after_version version digest

nothing : (xs : List ℕ) → length xs ≤ 0 → xs ≡ []
nothing [] h = refl
nothing (x ∷ xs) h = absurd (omega arith)

-- an owner of this many bytes has the digest and nothing after it
owner_is : (digest owner : List ℕ) (node : Node) (left own : List ℕ) → length digest ≡ 32 → length owner ≡ 35 → owner ≡ node_codec.text node ++ left → left ≡ digest ++ own → owner ≡ owner_text digest node
unfolding owner_text
owner_is digest owner node left own d o first second =
    let none : own ≡ [] = nothing own (omega (arith, d, o, ap length first, length-append (node_codec.text node) left, ap length second, length-append digest own, node_length node)) in
    first ∙ ap (λ t. node_codec.text node ++ t) (second ∙ ap (λ t. digest ++ t) none ∙ append-nil digest)

head_text_is : (version : ℕ) (digest bytes named known owner sum rest : List ℕ) (node : Node) → bytes ≡ codes "PL" ++ named → named ≡ version ∷ known → known ≡ owner ++ sum → sum ≡ check_of version 0 owner ++ rest → owner ≡ owner_text digest node
    → bytes ≡ head_text (version ∷ digest) node ++ rest
unfolding head_text
head_text_is version digest bytes named known owner sum rest node e1 e2 e3 e4 e5 =
    let full : List ℕ = owner_text digest node in
    let tail : known ≡ (full ++ check_of version 0 full) ++ rest =
    e3 ∙ ap (λ t. owner ++ t) e4 ∙ ap (λ o. o ++ (check_of version 0 o ++ rest)) e5 ∙ sym (append_assoc full (check_of version 0 full) rest) in
    e1 ∙ ap (λ t. codes "PL" ++ t) (e2 ∙ ap (λ t. version ∷ t) tail)

same_head : (a x : Node) (b y : List ℕ) → ◌≡◌ {A = Head} (Ok (a, b)) (Ok (x, y)) → (a ≡ x) × (b ≡ y)
same_head a x b y h = let e : ◌≡◌ {A = Node × List ℕ} (a, b) (x, y) = cc in (ap (λ p. p.0) e, ap (λ p. p.1) e)

front_are : (front rest : List ℕ) → AreBytes (front ++ rest) → AreBytes front
front_are front rest are = subst AreBytes (take_at front rest (length front) refl) (take_bytes (length front) (front ++ rest) are (omega (arith, length-append front rest)))

pub head_in_taken : (digest bytes : List ℕ) (node : Node) (rest : List ℕ) → length digest ≡ 33 → AreBytes bytes → head_in digest bytes ≡ Ok (node, rest) → IsTaken bytes (head_text digest node) rest × FitsNode node
unfolding head_in
head_in_taken [] bytes node rest d are h = absurd (omega (arith, d))
head_in_taken (version ∷ digest) bytes node rest d are h =
    let end : Node × List ℕ = (node, rest) in
    let named = result_then (expected fault.NotALog (met (codes "PL") bytes)) (after_name version digest) end h in
    let known = result_then (expected fault.Version (met (version ∷ []) named.0)) (after_version version digest) end named.2 in
    let owner = result_then (some_or fault.Short (bytes_at 35 known.0)) (after_owner version digest) end known.2 in
    let sum = result_then (expected fault.DamagedHead (met (check_of version 0 owner.0.0) owner.0.1)) (after_sum digest owner.0.0) end owner.2 in
    let found = result_then (some_or fault.NoNode (node_codec.at owner.0.0)) (after_node digest sum.0) end sum.2 in
    let own = result_then (expected fault.OtherSettings (met digest found.0.1)) (λ (o : List ℕ). Ok (found.0.0, sum.0)) end found.2 in
    let first : IsTaken bytes (codes "PL") named.0 = whole_taken (codes "PL") bytes named.0 are (expected_whole fault.NotALog (met (codes "PL") bytes) named.0 named.1) in
    let second : IsTaken named.0 (version ∷ []) known.0 = whole_taken (version ∷ []) named.0 known.0 first.rest_bytes (expected_whole fault.Version (met (version ∷ []) named.0) known.0 known.1) in
    let third = (exactly_is 35).only known.0 owner.0.0 owner.0.1 second.rest_bytes (some_of fault.Short (bytes_at 35 known.0) owner.0 owner.1) in
    let fourth : IsTaken owner.0.1 (check_of version 0 owner.0.0) sum.0 = whole_taken (check_of version 0 owner.0.0) owner.0.1 sum.0 third.0.rest_bytes (expected_whole fault.DamagedHead (met (check_of version 0 owner.0.0) owner.0.1) sum.0 sum.1) in
    let owner_bytes : AreBytes owner.0.0 = front_are owner.0.0 owner.0.1 (subst AreBytes third.0.all second.rest_bytes) in
    let fifth = node_is.only owner.0.0 found.0.0 found.0.1 owner_bytes (some_of fault.NoNode (node_codec.at owner.0.0) found.0 found.1) in
    let sixth : found.0.1 ≡ digest ++ own.0 = met-whole digest found.0.1 own.0 (expected_whole fault.OtherSettings (met digest found.0.1) own.0 own.1) in
    let parts = same_head found.0.0 node sum.0 rest own.2 in
    let text : bytes ≡ head_text (version ∷ digest) found.0.0 ++ sum.0 = head_text_is version digest bytes named.0 known.0 owner.0.0 owner.0.1 sum.0 found.0.0 first.all second.all third.0.all fourth.all (owner_is digest owner.0.0 found.0.0 found.0.1 own.0 (omega (arith, d)) third.1 fifth.0.all sixth) in
    let made : IsTaken bytes (head_text (version ∷ digest) found.0.0) sum.0 = record { all = text; rest_bytes = fourth.rest_bytes } in
    (subst (λ r. IsTaken bytes (head_text (version ∷ digest) node) r) parts.1 (subst (λ (n : Node). IsTaken bytes (head_text (version ∷ digest) n) sum.0) parts.0 made), subst FitsNode parts.0 (fits_node found.0.0 fifth.1))

-- ---- the log

same_ok : (a b : KeptReading) → ◌≡◌ {A = Result KeptReading LogFault} (Ok a) (Ok b) → a ≡ b
same_ok a b h = cc

log_is : (digest bytes : List ℕ) (node : Node) (text : List ℕ) (calls : List Stamped) (rest : List ℕ) → bytes ≡ head_text digest node ++ text → FitsNode node → AreCalls (version_of digest) 1 text calls rest
    → IsLogOf digest bytes (record { log = record { node = node; calls = calls }; whole = length bytes - length rest })
unfolding kept_text
log_is digest bytes node text calls rest front small found =
    let log : List ℕ = head_text digest node ++ calls_text (version_of digest) 1 calls in
    let all : bytes ≡ log ++ rest = front ∙ ap (λ t. head_text digest node ++ t) found.text ∙ sym (append_assoc (head_text digest node) (calls_text (version_of digest) 1 calls) rest) in
    let e : 1 + length calls ≡ suc (length calls) = omega arith in
    record {
      torn = rest;
      is = all;
      whole = omega (arith, ap length all, length-append log rest);
      cut = ap (λ n. frame_at (version_of digest) n rest) (sym e) ∙ found.cut;
      fits = record { node = small; calls = found.fits };
    }

pub kept_in_taken : (digest bytes : List ℕ) (read : KeptReading) → length digest ≡ 33 → AreBytes bytes → kept_in digest bytes ≡ Ok read → IsLogOf digest bytes read
unfolding kept_in
kept_in_taken digest bytes read d are h =
    let head = result_then (head_in digest bytes) (λ (n : Node × List ℕ). calls_in (version_of digest) (length bytes) 1 (length n.1) n.1 >>= λ (c : List Stamped × List ℕ). Ok (record { log = record { node = n.0; calls = c.0 }; whole = length bytes - length c.1 })) read h in
    let calls = result_then (calls_in (version_of digest) (length bytes) 1 (length head.0.1) head.0.1) (λ (c : List Stamped × List ℕ). Ok (record { log = record { node = head.0.0; calls = c.0 }; whole = length bytes - length c.1 })) read head.2 in
    let front = head_in_taken digest bytes head.0.0 head.0.1 d are head.1 in
    let found : AreCalls (version_of digest) 1 head.0.1 calls.0.0 calls.0.1 = calls_in_taken (version_of digest) (length bytes) 1 (length head.0.1) head.0.1 calls.0.0 calls.0.1 front.0.rest_bytes (omega arith) calls.1 in
    let made : KeptReading = record { log = record { node = head.0.0; calls = calls.0.0 }; whole = length bytes - length calls.0.1 } in
    let is : made ≡ read = same_ok made read calls.2 in
    subst (λ (r : KeptReading). IsLogOf digest bytes r) is (log_is digest bytes head.0.0 head.0.1 calls.0.0 calls.0.1 front.0.all front.1 found)

-- the same of its calls alone
pub log_in_taken : (digest bytes : List ℕ) (read : Reading) → length digest ≡ 33 → AreBytes bytes → log_in digest bytes ≡ Ok read → IsOfLog digest bytes read
unfolding log_in
log_in_taken digest bytes read d are h = by_kept (kept_in digest bytes) refl h
  where
    same : (a b : Reading) → ◌≡◌ {A = Result Reading LogFault} (Ok a) (Ok b) → a ≡ b
    same a b h = cc

    by_kept : (r : Result KeptReading LogFault) → kept_in digest bytes ≡ r → calls_alone r ≡ Ok read → IsOfLog digest bytes read
    by_kept (Ok kept) e h = record { kept = kept; of = same (alone kept) read h; is = kept_in_taken digest bytes kept d are e }
    by_kept (Err why) e h = cc

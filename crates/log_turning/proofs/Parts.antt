-- Parts that were read, and the first that is none.
use Rattle.std.proofs.Common.{◌≡◌, ℕ, suc, ◌+◌, ◌<◌, ◌≤◌, ◌-◌, drop, get_or, map, take, List, [], ◌∷◌, ◌++◌, length, Option, Some, None, Ok, refl, sym, ap, ◌∙◌, subst, append_assoc, append-nil, add-zero, add_assoc, length-append, arith}
use Rattle.std.specs.Prelude.{◌≢◌, ◌⊎◌, false, Err}
use Rattle.std.proofs.Common.{inl, inr}
use Rattle.std.proofs.lemmas.List.{drop_more, length-map, length-take-le, map-append, take-append-drop}
use Rattle.std.proofs.lemmas.Bool.{false≢true}
use Rattle.claim_model.proofs.Names.{same_self}
use Rattle.claim_model.specs.Node.{Node}
use Rattle.claim_model.specs.Nodes.{same_node}
use Rattle.kept_logs.specs.declared.fault.LogFault.{LogFault}
use Rattle.kept_logs.specs.declared.fault.LogFault.TheVariants as fault
use Rattle.kept_logs.specs.Stamps.{Stamped, KeptLog, stamped_text}
use Rattle.kept_logs.specs.Logs.{KeptReading, calls_text, head_text, kept_in, kept_text, log_in}
use Rattle.kept_logs.specs.Digests.{version_of}
use Rattle.kept_logs.specs.Frames.{frame_text}
use Rattle.kept_logs.specs.Rests.{behind, calls_before}
use Rattle.settings_digest.specs.Digests.{digest_in, turned_in, turned_under}
use Rattle.log_turning.specs.Joined.{AreParts, GoesOn, IsEnd, IsEndOf, IsPart, IsPartBehind, Part, last_part}
use Rattle.log_turning.specs.Unjoined.{IsNoPart, IsOthers, IsUnjoined, SpellsNone, StopsAt, last_log}
use Rattle.log_turning.specs.declared.fault.JoinFault.{JoinFault}
use Rattle.log_turning.specs.declared.fault.JoinFault.TheVariants.{OutOfMemory, Settings, Log, OtherNode, NotNext}

-- one part more after some
pub parts_more : (text : List ℕ) (node : Node) (begins : Option (List ℕ)) (before : ℕ) (last : Option (List ℕ)) (ps : List Part) (calls : List Stamped) (p : Part) (own : List Stamped)
    → AreParts text node begins before last ps calls → GoesOn node begins (before + length calls) (last_log last ps) p → IsPart text node p own → AreParts text node begins before last (ps ++ p ∷ []) (calls ++ own)
parts_more text node begins before last [] calls p own none goes part =
    let here = subst (λ (cs : List Stamped). GoesOn node begins (before + length cs) last p) none goes in
    (subst (λ (n : ℕ). GoesOn node begins n last p) (add-zero before) here, (own, [], (part, (refl, ap (λ (cs : List Stamped). cs ++ own) none ∙ sym (append-nil own)))))
parts_more text node begins before last (q ∷ ps) calls p own (first, (mine, behind, (is, (rest, all)))) goes part =
    let counted : before + length calls ≡ before + length mine + length behind = ap (λ (cs : List Stamped). before + length cs) all ∙ ap (λ n. before + n) (length-append mine behind) ∙ sym (add_assoc before (length mine) (length behind)) in
    let further = parts_more text node begins (before + length mine) (Some q.log) ps behind p own rest (subst (λ (n : ℕ). GoesOn node begins n (last_log (Some q.log) ps) p) counted goes) part in
    (first, (mine, behind ++ own, (is, (further, ap (λ (cs : List Stamped). cs ++ own) all ∙ append_assoc mine behind own))))

pub last_more : (last : Option (List ℕ)) (ps : List Part) (p : Part) → last_log last (ps ++ p ∷ []) ≡ Some p.log
last_more last [] p = refl
last_more last (q ∷ ps) p = last_more (Some q.log) ps p

pub last_part_more : (last : Option Part) (ps : List Part) (p : Part) → last_part last (ps ++ p ∷ []) ≡ Some p
last_part_more last [] p = refl
last_part_more last (q ∷ ps) p = last_part_more (Some q) ps p

-- the bytes after the last part are those after one part more
pub ends_more : (text : List ℕ) (done longer : List Part) (p : Part) (left : ℕ) → longer ≡ done ++ p ∷ [] → IsEndOf text p left → IsEnd text (last_part None longer) left
ends_more text done longer p left is end = subst (λ (last : Option Part). IsEnd text last left) (sym (ap (last_part None) is ∙ last_part_more None done p)) end

-- ---- a part that was read

pub end_is : (text : List ℕ) (p : Part) (digest : List ℕ) (log : KeptLog) (whole left : ℕ) → digest ≡ turned_under text p.rest p.log → kept_in digest p.log ≡ Ok (record { log = log; whole = whole }) → left ≡ length p.log - whole → IsEndOf text p left
end_is text p digest log whole left under reads is = record { log = log; whole = whole; reads = ap (λ (d : List ℕ). kept_in d p.log) (sym under) ∙ reads; is = is }

pub part_is : (text : List ℕ) (node : Node) (p : Part) (digest : List ℕ) (log : KeptLog) (whole : ℕ) → digest ≡ turned_under text p.rest p.log → kept_in digest p.log ≡ Ok (record { log = log; whole = whole }) → log.node ≡ node → IsPart text node p log.calls
part_is text node p digest log whole under reads own = record {
  whole = whole;
  reads = ap (λ (d : List ℕ). kept_in d p.log) (sym under) ∙ (reads ∙ ap (λ (n : Node). let r : KeptReading = record { log = record { node = n; calls = log.calls }; whole = whole } in Ok r) own);
}

-- a part that was read as a log of another node
apart : (a b : Node) → same_node a b ≡ false → a ≡ b → ⊥
apart a b e same = false≢true (sym e ∙ (ap (same_node a) (sym same) ∙ same_self a))

pub others_are : (text : List ℕ) (node : Node) (p : Part) (digest : List ℕ) (log : KeptLog) (own : Node) (whole : ℕ) → digest ≡ turned_under text p.rest p.log → kept_in digest p.log ≡ Ok (record { log = log; whole = whole })
    → log.node ≡ own → same_node own node ≡ false → IsOthers text node p
others_are text node p digest log own whole under reads named other = record {
  own = log.node;
  other = λ same. apart own node other (sym named ∙ same);
  calls = log.calls;
  whole = whole;
  reads = ap (λ (d : List ℕ). kept_in d p.log) (sym under) ∙ reads;
}

-- a part that was read as no log
pub no_part_by : (text : List ℕ) (node : Node) (p : Part) (place : ℕ) (digest : List ℕ) (by : LogFault) (why : JoinFault) → digest ≡ turned_under text p.rest p.log → (by ≢ fault.OutOfMemory → log_in digest p.log ≡ Err by)
    → (why ≡ OutOfMemory) ⊎ ((by ≢ fault.OutOfMemory) × (why ≡ Log place by)) → IsNoPart text node p place why
no_part_by text node p place digest by why under fails (inl none) = subst (IsNoPart text node p place) (sym none) tt
no_part_by text node p place digest by why under fails (inr (known, is)) =
    subst (IsNoPart text node p place) (sym is) (refl, ap (λ (d : List ℕ). log_in d p.log) (sym under) ∙ fails known)

-- ---- the text

-- the text so far is that of a log with the records of the parts so far
pub record Joins (text : List ℕ) (node : Node) (begins : Option (List ℕ)) (done : List Part) (last : Option (List ℕ)) (count : ℕ) (joined : List ℕ) : Type 0 where
  pub calls : List Stamped
  pub counted : count ≡ length calls
  pub parted : AreParts text node begins (calls_before begins) None done calls
  pub last_is : last ≡ last_log None done
  pub is : joined ≡ kept_text (turned_in text begins) (record { node = node; calls = calls })

-- the records of calls and of further ones
calls_split : (number : ℕ) (calls more : List Stamped) → calls_text 2 number (calls ++ more) ≡ calls_text 2 number calls ++ calls_text 2 (number + length calls) more
unfolding calls_text
calls_split number [] more = let e : number ≡ number + 0 = omega arith in ap (λ n. calls_text 2 n more) e
calls_split number (r ∷ calls) more =
    let front = frame_text 2 number (stamped_text r) in
    let e : number + 1 + length calls ≡ number + suc (length calls) = omega arith in
    ap (λ t. front ++ t) (calls_split (number + 1) calls more ∙ ap (λ n. calls_text 2 (number + 1) calls ++ calls_text 2 n more) e)
    ∙ sym (append_assoc front (calls_text 2 (number + 1) calls) (calls_text 2 (number + suc (length calls)) more))

-- a log with more records
two_more : (head : List ℕ) (calls more : List Stamped) → head ++ calls_text 2 1 (calls ++ more) ≡ (head ++ calls_text 2 1 calls) ++ calls_text 2 (length calls + 1) more
two_more head calls more =
    let first : calls_text 2 1 (calls ++ more) ≡ calls_text 2 1 calls ++ calls_text 2 (length calls + 1) more =
    calls_split 1 calls more ∙ ap (λ n. calls_text 2 1 calls ++ calls_text 2 n more) (let e : 1 + length calls ≡ length calls + 1 = omega arith in e) in
    ap (λ t. head ++ t) first ∙ sym (append_assoc head (calls_text 2 1 calls) (calls_text 2 (length calls + 1) more))

-- a log that is written is of version 2
second : (text : List ℕ) (begins : Option (List ℕ)) → version_of (turned_in text begins) ≡ 2
unfolding digest_in behind
second text None = refl
second text (Some rest) = refl

text_more : (digest : List ℕ) (node : Node) (calls more : List Stamped) → version_of digest ≡ 2
    → kept_text digest (record { node = node; calls = calls ++ more }) ≡ kept_text digest (record { node = node; calls = calls }) ++ calls_text 2 (length calls + 1) more
unfolding kept_text
text_more digest node calls more is =
    let head = head_text digest node in
    subst (λ (v : ℕ). head ++ calls_text v 1 (calls ++ more) ≡ (head ++ calls_text v 1 calls) ++ calls_text 2 (length calls + 1) more) (sym is) (two_more head calls more)

pub joins_more : (text : List ℕ) (node : Node) (begins : Option (List ℕ)) (done longer : List Part) (last : Option (List ℕ)) (p : Part) (count next : ℕ) (joined further : List ℕ)
    → longer ≡ done ++ p ∷ [] → GoesOn node begins (calls_before begins + count) last p → IsPartBehind text node p count joined further next → Joins text node begins done last count joined
    → Joins text node begins longer (Some p.log) next further
joins_more text node begins done longer last p count next joined further is goes part j =
    let digest = turned_in text begins in
    let here = subst (λ (n : ℕ). GoesOn node begins (calls_before begins + n) (last_log None done) p) j.counted (subst (λ (l : Option (List ℕ)). GoesOn node begins (calls_before begins + count) l p) j.last_is goes) in
    record {
      calls = j.calls ++ part.calls;
      counted = part.counted ∙ (ap (λ n. n + length part.calls) j.counted ∙ sym (length-append j.calls part.calls));
      parted = subst (λ (ps : List Part). AreParts text node begins (calls_before begins) None ps (j.calls ++ part.calls)) (sym is) (parts_more text node begins (calls_before begins) None done j.calls p part.calls j.parted here part.part);
      last_is = sym (ap (last_log None) is ∙ last_more None done p);
      is = part.is ∙ (ap (λ (t : List ℕ). t ++ calls_text 2 (count + 1) part.calls) j.is
          ∙ (ap (λ n. kept_text digest (record { node = node; calls = j.calls }) ++ calls_text 2 (n + 1) part.calls) j.counted ∙ sym (text_more digest node j.calls part.calls (second text begins))));
    }

-- ---- why there is no text

-- a list before a place, what stands there, and what is after
pub parts_at : {A : Type 0} (see : A → Part) (xs : List A) (i : ℕ) (d : A) → i < length xs → map see (take i xs) ++ see (get_or xs i d) ∷ map see (drop (i + 1) xs) ≡ map see xs
parts_at {A} see xs i d lt =
    ap (λ (rest : List Part). map see (take i xs) ++ rest) (sym (ap (map see) (drop_more xs i d lt)))
    ∙ (sym (map-append see (take i xs) (drop i xs)) ∙ ap (map see) (take-append-drop i xs))

pub count_at : {A : Type 0} (see : A → Part) (xs : List A) (i : ℕ) → i ≤ length xs → length (map see (take i xs)) ≡ i
count_at {A} see xs i le = length-map (take i xs) see ∙ length-take-le i xs le

-- the parts so far go on one after another, and something is so of the next
pub stops_here : (text : List ℕ) (node : Node) (begins : Option (List ℕ)) (parts done : List Part) (last : Option (List ℕ)) (p : Part) (behind : List Part) (place count : ℕ) (joined : List ℕ)
    (Why : ℕ → Option (List ℕ) → Part → Type 0) → done ++ p ∷ behind ≡ parts → length done ≡ place → Joins text node begins done last count joined → Why (calls_before begins + count) last p
    → StopsAt text node begins parts place Why
stops_here text node begins parts done last p behind place count joined Why is at j why = record {
  before = done;
  one = p;
  behind = behind;
  is = is;
  count = at;
  calls = j.calls;
  parted = j.parted;
  why = subst (λ (n : ℕ). Why (calls_before begins + n) (last_log None done) p) j.counted (subst (λ (l : Option (List ℕ)). Why (calls_before begins + count) l p) j.last_is why);
}

-- a part that is none is the first that is none
pub no_part_here : (text : List ℕ) (node : Node) (begins : Option (List ℕ)) (parts done : List Part) (last : Option (List ℕ)) (p : Part) (behind : List Part) (place count : ℕ) (joined : List ℕ) (why : JoinFault)
    → done ++ p ∷ behind ≡ parts → length done ≡ place → Joins text node begins done last count joined → GoesOn node begins (calls_before begins + count) last p → IsNoPart text node p place why
    → IsUnjoined text node begins parts why
no_part_here text node begins parts done last p behind place count joined OutOfMemory is at j goes none = tt
no_part_here text node begins parts done last p behind place count joined Settings is at j goes none = absurd none
no_part_here text node begins parts done last p behind place count joined (Log here why) is at j goes (same, fails) =
    stops_here text node begins parts done last p behind here count joined (λ calls last p. GoesOn node begins calls last p × (log_in (turned_under text p.rest p.log) p.log ≡ Err why)) is (at ∙ sym same) j (goes, fails)
no_part_here text node begins parts done last p behind place count joined (OtherNode here) is at j goes (same, others) =
    stops_here text node begins parts done last p behind here count joined (λ calls last p. GoesOn node begins calls last p × IsOthers text node p) is (at ∙ sym same) j (goes, others)
no_part_here text node begins parts done last p behind place count joined (NotNext here) is at j goes none = absurd none

-- no settings, no log
pub none_spelled : (text : List ℕ) (node : Node) (begins : Option (List ℕ)) (parts : List Part) (why : JoinFault) → SpellsNone text why → IsUnjoined text node begins parts why
none_spelled text node begins parts OutOfMemory none = tt
none_spelled text node begins parts Settings none = none
none_spelled text node begins parts (Log place why) none = absurd none
none_spelled text node begins parts (OtherNode place) none = absurd none
none_spelled text node begins parts (NotNext place) none = absurd none

-- Records that stand undamaged in bytes, and what follows them.
use Rattle.std.proofs.Common.{◌≡◌, inl, inr, ℕ, zero, suc, ◌+◌, ◌-◌, ◌<◌, ◌≤◌, ◌==◌, ◌&&◌, Bool, true, false, cond, List, [], ◌∷◌, ◌++◌, length, take, drop, nat_lt, Option, Some, None, refl, sym, ap, subst, ◌∙◌, arith, append_assoc, append-nil, nat_eq, length-append, length-drop}
use Rattle.std.proofs.lemmas.Bool.{cases_lt}
use Rattle.std.proofs.lemmas.Bool.Decides.{nat_tests}
use Rattle.std.proofs.lemmas.List.{take-append-drop, drop_at}
use Rattle.std.proofs.lemmas.Option.{some_pair_parts}
use Rattle.std.specs.Int.{w64, to_be_bytes, from_be_bytes}
use Rattle.codec.specs.Fields.{u64_at}
use Rattle.codec.proofs.FieldsOnly.{long_from, long_enough}
use Rattle.codec.proofs.FieldsBack.{u64_at-put}
use Rattle.kept_logs.specs.Frames.{largest, is_size, is_zeros, no_record, check_of, Met, Whole, Torn, Differs, met, Framed, CutOff, Damaged, checked, behind_length, sized_frame, body_at, frame_at, behind_frame}
use Rattle.kept_logs.proofs.Meeting.{met-whole}
use Rattle.log_folder.specs.declared.undamaged.Run.{Run}
use Rattle.log_folder.specs.Undamaged.{behind_record, and_behind, behind_records, head_size, IsCountBefore, IsNext, IsRun, NoneBetween, AreRuns}

-- bytes end so
pub record IsEnd (bytes after : List ℕ) : Type 0 where
  pub front : List ℕ
  pub all : bytes ≡ front ++ after

both_end : (bytes middle after : List ℕ) → IsEnd bytes middle → IsEnd middle after → IsEnd bytes after
both_end bytes middle after first second = record {
  front = first.front ++ second.front;
  all = first.all ∙ ap (λ t. first.front ++ t) second.all ∙ sym (append_assoc first.front second.front after);
}

pub end_length : (bytes after : List ℕ) → IsEnd bytes after → length after ≤ length bytes
end_length bytes after e = omega (arith, ap length e.all, length-append e.front after)

pub end_is : (bytes after : List ℕ) → IsEnd bytes after → after ≡ drop (length bytes - length after) bytes
end_is bytes after e =
    let long : length e.front ≡ length bytes - length after = omega (arith, ap length e.all, length-append e.front after) in
    sym (ap (λ t. drop (length bytes - length after) t) e.all ∙ drop_at e.front after (length bytes - length after) long)

pub drop_end : (n : ℕ) (bytes : List ℕ) → IsEnd bytes (drop n bytes)
drop_end n bytes = record { front = take n bytes; all = sym (take-append-drop n bytes) }

-- what follows a record is the end of the bytes that it begins, and shorter
pub record IsBehind (bytes after : List ℕ) : Type 0 where
  pub end : IsEnd bytes after
  pub shorter : length after < length bytes

framed_is : (a x b y : List ℕ) → behind_frame (Framed a b) ≡ Some y → b ≡ y
framed_is a x b y h = cc

body_ends : (version number size : ℕ) (bytes after : List ℕ) → behind_frame (body_at version number size bytes) ≡ Some after → IsEnd bytes after
unfolding body_at
body_ends version number size bytes after h = by_test (nat_lt (length bytes) size) h
  where
    front : List ℕ
    front = take size bytes

    by_met : (m : Met) → met (check_of version number front) (drop size bytes) ≡ m → behind_frame (checked front m) ≡ Some after → IsEnd bytes after
    by_met Torn e h = cc
    by_met Differs e h = cc
    by_met (Whole rest) e h =
        let same : rest ≡ after = cc in
        let stands = met-whole (check_of version number front) (drop size bytes) rest e in
        both_end bytes (drop size bytes) after (drop_end size bytes) (record { front = check_of version number front; all = stands ∙ ap (λ t. check_of version number front ++ t) same })

    by_test : (short : Bool) → behind_frame (cond short CutOff (checked front (met (check_of version number front) (drop size bytes)))) ≡ Some after → IsEnd bytes after
    by_test true h = cc
    by_test false h = by_met (met (check_of version number front) (drop size bytes)) refl h

u64_ends : (bytes : List ℕ) (n : ℕ) (rest : List ℕ) → u64_at bytes ≡ Some (n, rest) → IsBehind bytes rest
unfolding u64_at
u64_ends bytes n rest h =
    let passed = long_enough (nat_lt (length bytes) 8) (from_be_bytes w64 (take 8 bytes), drop 8 bytes) (n, rest) h in
    let long : 8 ≤ length bytes = long_from (length bytes) 8 passed.0 in
    let end : IsEnd bytes rest = subst (λ r. IsEnd bytes r) passed.2 (drop_end 8 bytes) in
    record { end = end; shorter = shorter long (ap length passed.2) }
  where
    shorter : 8 ≤ length bytes → length (drop 8 bytes) ≡ length rest → length rest < length bytes
    shorter long e = omega (arith, long, e, length-drop {A = ℕ})

-- how a record begins: its length, and that taken from the largest number, where a body may have it
pub record IsBegun (bytes : List ℕ) : Type 0 where
  pub size : ℕ
  pub rest : List ℕ
  pub tail : List ℕ
  pub read : u64_at bytes ≡ Some (size, rest)
  pub complement : u64_at rest ≡ Some (largest - size, tail)

pub record IsRecord (bytes after : List ℕ) : Type 0 where
  pub begun : IsBegun bytes
  pub behind : IsBehind bytes after

pub record_is : (version number : ℕ) (bytes after : List ℕ) → behind_record version number bytes ≡ Some after → IsRecord bytes after
unfolding frame_at
record_is version number bytes after h = by_count (u64_at bytes) refl h
  where
    by_met : (size : ℕ) (rest : List ℕ) → u64_at bytes ≡ Some (size, rest) → (m : Met) → met (to_be_bytes w64 (largest - size)) rest ≡ m → behind_frame (behind_length version number size m) ≡ Some after → IsRecord bytes after
    by_met size rest read Torn e h = cc
    by_met size rest read Differs e h = cc
    by_met size rest read (Whole tail) e h =
        let first = u64_ends bytes size rest read in
        let stands = met-whole (to_be_bytes w64 (largest - size)) rest tail e in
        let body = body_ends version number size tail after h in
        let second : IsEnd rest tail = record { front = to_be_bytes w64 (largest - size); all = stands } in
        let inner : IsEnd rest after = both_end rest tail after second body in
        record {
          begun = record { size = size; rest = rest; tail = tail; read = read; complement = ap u64_at stands ∙ u64_at-put (largest - size) tail (omega arith) };
          behind = record { end = both_end bytes rest after first.end inner; shorter = omega (arith, first.shorter, end_length rest after inner) };
        }

    by_blank : (b : Bool) → behind_frame (cond b CutOff Damaged) ≡ Some after → IsRecord bytes after
    by_blank true h = cc
    by_blank false h = cc

    by_size : (size : ℕ) (rest : List ℕ) → u64_at bytes ≡ Some (size, rest) → (b : Bool) → behind_frame (cond b (behind_length version number size (met (to_be_bytes w64 (largest - size)) rest)) (no_record size rest)) ≡ Some after → IsRecord bytes after
    by_size size rest read true h = by_met size rest read (met (to_be_bytes w64 (largest - size)) rest) refl h
    by_size size rest read false h = by_blank ((size == 0) && is_zeros rest) h

    by_count : (o : Option (ℕ × List ℕ)) → u64_at bytes ≡ o → behind_frame (sized_frame version number o) ≡ Some after → IsRecord bytes after
    by_count None e h = cc
    by_count (Some (size, rest)) e h = by_size size rest e (is_size size) h

-- bytes that do not begin so have no record in front
pub none_begun : (version number : ℕ) (bytes : List ℕ) → (IsBegun bytes → ⊥) → behind_record version number bytes ≡ None
none_begun version number bytes not_begun = by_behind (behind_record version number bytes) refl
  where
    by_behind : (o : Option (List ℕ)) → behind_record version number bytes ≡ o → o ≡ None
    by_behind None e = refl
    by_behind (Some after) e = absurd (not_begun (record_is version number bytes after e).begun)

-- bytes whose length is cut off
pub no_size : (bytes : List ℕ) → u64_at bytes ≡ None → (version number : ℕ) → behind_record version number bytes ≡ None
no_size bytes e version number = none_begun version number bytes (λ b. unread b.size b.rest (sym e ∙ b.read))
  where
    unread : (size : ℕ) (rest : List ℕ) → ◌≡◌ {A = Option (ℕ × List ℕ)} None (Some (size, rest)) → ⊥
    unread size rest h = cc

-- a length after which nothing of the kind stands
same_number : (size other : ℕ) (rest tail : List ℕ) → ◌≡◌ {A = Option (ℕ × List ℕ)} (Some (size, rest)) (Some (other, tail)) → (size ≡ other) × (rest ≡ tail)
same_number size other rest tail h = some_pair_parts size other rest tail h

pub no_complement : (bytes : List ℕ) (size : ℕ) (rest : List ℕ) → u64_at bytes ≡ Some (size, rest) → u64_at rest ≡ None → (version number : ℕ) → behind_record version number bytes ≡ None
no_complement bytes size rest first e version number = none_begun version number bytes (λ b. unread b (same_number size b.size rest b.rest (sym first ∙ b.read)).1)
  where
    unread : (b : IsBegun bytes) → rest ≡ b.rest → ⊥
    unread b same = none_some (largest - b.size) b.tail (sym e ∙ ap u64_at same ∙ b.complement)
      where
        none_some : (n : ℕ) (tail : List ℕ) → ◌≡◌ {A = Option (ℕ × List ℕ)} None (Some (n, tail)) → ⊥
        none_some n tail h = cc

pub other_complement : (bytes : List ℕ) (size : ℕ) (rest : List ℕ) (complement : ℕ) (tail : List ℕ) → u64_at bytes ≡ Some (size, rest) → u64_at rest ≡ Some (complement, tail) → nat_eq complement (largest - size) ≡ false → (version number : ℕ) → behind_record version number bytes ≡ None
other_complement bytes size rest complement tail first second other version number = none_begun version number bytes (λ b. differs b (same_number size b.size rest b.rest (sym first ∙ b.read)))
  where
    unequal : (m n : ℕ) → m ≡ n → nat_eq m n ≡ false → ⊥
    unequal m n e t = grind (arith, nat_tests)

    differs : (b : IsBegun bytes) → (size ≡ b.size) × (rest ≡ b.rest) → ⊥
    differs b same =
        let read = same_number complement (largest - b.size) tail b.tail (sym second ∙ ap u64_at same.1 ∙ b.complement) in
        unequal complement (largest - size) (read.0 ∙ ap (λ n. largest - n) (sym same.0)) other

-- ---- several records

-- one more stands behind those that do
pub one_more : (version number count : ℕ) (bytes left after : List ℕ) → behind_records version number count bytes ≡ Some left → behind_record version (number + count) left ≡ Some after → behind_records version number (suc count) bytes ≡ Some after
one_more version number zero bytes left after stand more =
    let here : bytes ≡ left = cc in
    let same : number + 0 ≡ number = omega arith in
    let next : behind_record version number bytes ≡ Some after = ap (λ n. behind_record version n bytes) (sym same) ∙ ap (λ b. behind_record version (number + 0) b) here ∙ more in
    ap (λ o. and_behind o (λ a. Some a)) next
one_more version number (suc count) bytes left after stand more =
    let moved : number + suc count ≡ (number + 1) + count = omega arith in
    by_first (behind_record version number bytes) (λ behind h. one_more version (number + 1) count behind left after h (ap (λ n. behind_record version n left) (sym moved) ∙ more)) stand
  where
    by_first : (o : Option (List ℕ)) → ((behind : List ℕ) → behind_records version (number + 1) count behind ≡ Some left → behind_records version (number + 1) (suc count) behind ≡ Some after)
        → and_behind o (λ a. behind_records version (number + 1) count a) ≡ Some left → and_behind o (λ a. behind_records version (number + 1) (suc count) a) ≡ Some after
    by_first None goes h = cc
    by_first (Some behind) goes h = goes behind h

-- records of consecutive numbers from the first on stand from here on, and this is left behind them, where this number would be the next
pub record Passed (version : ℕ) (bytes : List ℕ) (first from next : ℕ) (left : List ℕ) : Type 0 where
  pub order : first < next
  pub stand : behind_records version first (next - first) (drop from bytes) ≡ Some left
  pub some : from + length left < length bytes
  pub end : IsEnd bytes left

pub first_passed : (version : ℕ) (bytes : List ℕ) (first from : ℕ) (after : List ℕ) → behind_record version first (drop from bytes) ≡ Some after → from < length bytes → Passed version bytes first from (first + 1) after
first_passed version bytes first from after stands within =
    let is = (record_is version first (drop from bytes) after stands).behind in
    let one : suc 0 ≡ (first + 1) - first = omega arith in
    let begun : behind_records version first (suc 0) (drop from bytes) ≡ Some after = ap (λ o. and_behind o (λ a. Some a)) stands in
    record {
      order = omega arith;
      stand = subst (λ (n : ℕ). behind_records version first n (drop from bytes) ≡ Some after) one begun;
      some = omega (arith, is.shorter, within, length-drop from bytes);
      end = both_end bytes (drop from bytes) after (drop_end from bytes) is.end;
    }

pub more_passed : (version : ℕ) (bytes : List ℕ) (first from next : ℕ) (left after : List ℕ) → Passed version bytes first from next left → behind_record version next left ≡ Some after → Passed version bytes first from (next + 1) after
more_passed version bytes first from next left after p stands =
    let is = (record_is version next left after stands).behind in
    let number : first + (next - first) ≡ next = omega (arith, p.order) in
    let count : suc (next - first) ≡ (next + 1) - first = omega (arith, p.order) in
    let longer = one_more version first (next - first) (drop from bytes) left after p.stand (ap (λ n. behind_record version n left) number ∙ stands) in
    record {
      order = omega (arith, p.order);
      stand = subst (λ (n : ℕ). behind_records version first n (drop from bytes) ≡ Some after) count longer;
      some = omega (arith, is.shorter, p.some);
      end = both_end bytes left after p.end is.end;
    }

pub passed_run : (version : ℕ) (bytes : List ℕ) (first from next : ℕ) (left : List ℕ) (run : Run) → Passed version bytes first from next left → next ≤ largest → (next < largest → behind_record version next left ≡ None)
    → run ≡ record { first = first; last = next - 1; from = from; to = length bytes - length left } → IsRun version bytes run
passed_run version bytes first from next left run p fits none e = subst (λ (r : Run). IsRun version bytes r) (sym e) (record {
  order = omega (arith, p.order);
  number = omega (arith, p.order, fits);
  some = omega (arith, p.some);
  within = omega arith;
  stand = subst (λ (n : ℕ). behind_records version first n (drop from bytes) ≡ Some (drop (length bytes - length left) bytes)) count (p.stand ∙ ap Some (end_is bytes left p.end));
  all = λ below. ap (λ n. behind_record version n (drop (length bytes - length left) bytes)) again ∙ ap (λ b. behind_record version next b) (sym (end_is bytes left p.end)) ∙ none (omega (arith, below, p.order));
})
  where
    count : next - first ≡ suc ((next - 1) - first)
    count = omega (arith, p.order)

    again : (next - 1) + 1 ≡ next
    again = omega (arith, p.order)

-- ---- the records before a place

-- this many records behind the head were passed, each of which begins before the place, and this is left
pub record CountSoFar (version : ℕ) (bytes : List ℕ) (place count : ℕ) (left : List ℕ) : Type 0 where
  pub stand : behind_records version 1 count (drop head_size bytes) ≡ Some left
  pub before : (fewer : ℕ) (rest : List ℕ) → fewer < count → behind_records version 1 fewer (drop head_size bytes) ≡ Some rest → length bytes - length rest < place
  pub end : IsEnd bytes left
  pub room : count + length left ≤ length bytes - head_size

pub none_counted : (version : ℕ) (bytes : List ℕ) (place : ℕ) (left : List ℕ) → left ≡ drop head_size bytes → CountSoFar version bytes place 0 left
none_counted version bytes place left e = record {
  stand = ap Some (sym e);
  before = λ fewer rest below. absurd (omega (arith, below));
  end = subst (λ l. IsEnd bytes l) (sym e) (drop_end head_size bytes);
  room = omega (arith, ap length e, length-drop head_size bytes);
}

pub more_counted : (version : ℕ) (bytes : List ℕ) (place count : ℕ) (left after : List ℕ) → CountSoFar version bytes place count left → length bytes - length left < place → behind_record version (count + 1) left ≡ Some after → CountSoFar version bytes place (count + 1) after
more_counted version bytes place count left after so here stands =
    let is = (record_is version (count + 1) left after stands).behind in
    let number : count + 1 ≡ 1 + count = omega arith in
    let suc_is : suc count ≡ count + 1 = omega arith in
    let longer = one_more version 1 count (drop head_size bytes) left after so.stand (ap (λ n. behind_record version n left) (sym number) ∙ stands) in
    record {
      stand = subst (λ (n : ℕ). behind_records version 1 n (drop head_size bytes) ≡ Some after) suc_is longer;
      before = λ fewer rest below stand. elim (cases_lt fewer count) [
        | inl less ↦ so.before fewer rest less stand
        | inr over ↦ last fewer rest (omega (arith, below, over)) stand
      ];
      end = both_end bytes left after so.end is.end;
      room = omega (arith, so.room, is.shorter);
    }
  where
    last : (fewer : ℕ) (rest : List ℕ) → fewer ≡ count → behind_records version 1 fewer (drop head_size bytes) ≡ Some rest → length bytes - length rest < place
    last fewer rest same stand =
        let again : ◌≡◌ {A = Option (List ℕ)} (Some rest) (Some left) = sym stand ∙ ap (λ n. behind_records version 1 n (drop head_size bytes)) same ∙ so.stand in
        let is : rest ≡ left = cc in
        subst (λ l. length bytes - length l < place) (sym is) here

pub counted_to_here : (version : ℕ) (bytes : List ℕ) (place count : ℕ) (left : List ℕ) → CountSoFar version bytes place count left → place ≤ length bytes - length left → IsCountBefore version bytes place count
counted_to_here version bytes place count left so here = record { left = left; stand = so.stand; before = so.before; ends = inl here }

pub counted_all : (version : ℕ) (bytes : List ℕ) (place count : ℕ) (left : List ℕ) → CountSoFar version bytes place count left → behind_record version (count + 1) left ≡ None → IsCountBefore version bytes place count
counted_all version bytes place count left so none = record { left = left; stand = so.stand; before = so.before; ends = inr none }

-- as many were passed as the bytes are, so nothing is left
pub counted_out : (version : ℕ) (bytes : List ℕ) (place count : ℕ) (left : List ℕ) → CountSoFar version bytes place count left → length bytes ≤ count → IsCountBefore version bytes place (length bytes)
counted_out version bytes place count left so over =
    let all : count ≡ length bytes = omega (arith, so.room, over) in
    subst (λ (n : ℕ). IsCountBefore version bytes place n) all (counted_all version bytes place count left so (by_behind (behind_record version (count + 1) left) refl))
  where
    by_behind : (o : Option (List ℕ)) → behind_record version (count + 1) left ≡ o → o ≡ None
    by_behind None e = refl
    by_behind (Some after) e = let is = (record_is version (count + 1) left after e).behind in absurd (omega (arith, is.shorter, so.room, over))

-- ---- runs

-- the runs so far, and then what runs there are from here on, are all
pub record RunsSoFar (version : ℕ) (bytes : List ℕ) (number place wanted behind : ℕ) (runs : List Run) : Type 0 where
  pub goes : (more : List Run) → AreRuns version bytes wanted behind more → AreRuns version bytes number place (runs ++ more)

pub none_found : (version : ℕ) (bytes : List ℕ) (number place : ℕ) → RunsSoFar version bytes number place number place []
none_found version bytes number place = record { goes = λ more are. are }

pub one_found : (version : ℕ) (bytes : List ℕ) (number place wanted behind : ℕ) (runs now : List Run) (run : Run) → RunsSoFar version bytes number place wanted behind runs → IsNext version bytes wanted behind run → now ≡ runs ++ run ∷ [] → RunsSoFar version bytes number place (run.last + 1) run.to now
one_found version bytes number place wanted behind runs now run so next e = record {
  goes = λ more are. subst (λ (all : List Run). AreRuns version bytes number place all) (sym (append_assoc runs (run ∷ []) more) ∙ ap (λ (r : List Run). r ++ more) (sym e)) (so.goes (run ∷ more) (next, are));
}

pub all_found : (version : ℕ) (bytes : List ℕ) (number place wanted behind : ℕ) (runs : List Run) → RunsSoFar version bytes number place wanted behind runs → NoneBetween version bytes wanted behind (length bytes) → AreRuns version bytes number place runs
all_found version bytes number place wanted behind runs so none = subst (λ (all : List Run). AreRuns version bytes number place all) (append-nil runs) (so.goes [] none)

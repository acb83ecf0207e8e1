-- Records that are read one after the other, a step at a time.
use Rattle.std.proofs.Common.{◌≡◌, ℕ, ◌+◌, ◌-◌, ◌<◌, ◌≤◌, ◌==◌, List, [], length, Result, Ok, Err, refl, ap, ◌∙◌}
use Rattle.std.proofs.lemmas.Bool.{eqb-true}
use Rattle.std.proofs.lemmas.List.{nil_from_length}
use Rattle.codec.proofs.Loops.{one_less, none_left}
use Rattle.kept_records.specs.declared.fault.RecordFault.{RecordFault}
use Rattle.kept_records.specs.declared.fault.RecordFault.TheVariants.{BadRecord}
use Rattle.kept_records.specs.Faults.{◌>>=◌, each_in, ended}
use Rattle.kept_records.proofs.Chains.{result_then, when_or_ok}

module _ {S : Type 0} (one : ℕ → S → List ℕ → Result (S × List ℕ) RecordFault) (total count i : ℕ) (s : S) (bytes : List ℕ) where
  pub each_goes_on : (new : S) (rest : List ℕ) → i < count → one (total - length bytes) s bytes ≡ Ok (new, rest) → each_in one total (count - i) s bytes ≡ each_in one total (count - (i + 1)) new rest
  unfolding each_in
  each_goes_on new rest h e = rw (one_less count i h, e) refl

  pub each_stops : (fault : RecordFault) → i < count → one (total - length bytes) s bytes ≡ Err fault → each_in one total (count - i) s bytes ≡ Err fault
  unfolding each_in
  each_stops fault h e = rw (one_less count i h, e) refl

  pub each_ends : count ≤ i → each_in one total (count - i) s bytes ≡ Ok (s, bytes)
  unfolding each_in
  each_ends h = rw (none_left count i h) refl

-- where all bytes are read, none is left
pub all_read : {S : Type 0} (total : ℕ) (r : Result (S × List ℕ) RecordFault) (s : S) → (r >>= ended total) ≡ Ok s → r ≡ Ok (s, [])
unfolding ended
all_read {S} total r s h =
    let o = result_then r (ended total) s h in
    let end = when_or_ok (BadRecord (total - length o.0.1)) (length o.0.1 == 0) o.0.0 s o.2 in
    let none : o.0.1 ≡ [] = nil_from_length o.0.1 (eqb-true (length o.0.1) 0 end.0) in
    o.1 ∙ ap (λ (x : S). Ok (x, o.0.1)) end.1 ∙ ap (λ (t : List ℕ). Ok (s, t)) none

pub none_more : {S : Type 0} (total : ℕ) (r : Result (S × List ℕ) RecordFault) (s : S) → r ≡ Ok (s, []) → (r >>= ended total) ≡ Ok s
unfolding ended
none_more total r s e = ap (λ r. r >>= ended total) e

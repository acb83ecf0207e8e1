-- What a ring is after an entry was put into it, or an answer.
use Rattle.std.proofs.Common.{◌≡◌, ℕ, ◌+◌, ◌<◌, true, false, cond, nat_lt, List, [], ◌∷◌, ◌++◌, map, length, drop, slice_get, slice_set, Option, Some, None, IfSome, sym, ap, subst, ◌∙◌, arith, length-append, lt-ltb, le-ltb}
use Rattle.std.specs.List.{swap_remove, IsDistinct}
use Rattle.std.specs.Map.{keys_of}
use Rattle.std.proofs.lemmas.List.{length-map}
use Rattle.std.proofs.lemmas.Option.{slice_get-get_or}
use Rattle.claim_model.specs.Words.{TxnId}
use Rattle.claim_model.specs.Readable.{same_id}
use Rattle.claim_model.specs.Table.{Slot, Table, entered, filled}
use Rattle.switch_node.specs.Ring.{turned, next, answered_at, IsRing}
use Rattle.switch_node.proofs.Turning.{turned-zero, length-turned, turned-map, turned-entered, after_swap}
use Rattle.switch_node.proofs.Filling.{keys-changed}

none_is_some : {X : Type 0} {x : X} → None ≡ Some x → ⊥
none_is_some e = cc

-- the last entry took the place of the one that left
pub replaced : {X : Type 0} (old new : List X) (head : ℕ) (gone : Option X) → gone ≡ slice_get old head → IfSome gone (λ p. new ≡ swap_remove old head p) → head + 1 < length old → (rest : List X) (last : X) → old ≡ rest ++ last ∷ [] → new ≡ slice_set rest head last
replaced old new head None at swapped within rest last is = absurd (none_is_some (at ∙ slice_get-get_or old head last (omega arith)))
replaced old new head (Some p) at swapped within rest last is =
    swapped ∙ ap (λ l. swap_remove l head p) is ∙ after_swap rest last head p (omega (arith, ap length is, length-append rest (last ∷ [])))

module _ (cap head : ℕ) (es fs : List (TxnId × Slot)) (id : TxnId) (slot : Slot) where
  -- a table with these entries
  abbrev seen : ℕ → List (TxnId × Slot) → Table
  seen h xs = record { cap = cap; entries = turned h xs }

  pub entered-full : length es ≡ cap → head < cap → fs ≡ slice_set es head (id, slot) → seen (next head cap) fs ≡ entered (seen head es) id slot
  entered-full full within is =
      let long : nat_lt (length (turned head es)) cap ≡ false = le-ltb _ _ (omega (arith, length-turned head es)) in
      λ j. record { cap = cap; entries = ((ap (turned (next head cap)) is ∙ turned-entered es (id, slot) head cap full within) ∙ ap (λ b. cond b (turned head es) (drop 1 (turned head es)) ++ (id, slot) ∷ []) (sym long)) j }

  pub entered-room : length es < cap → head ≡ 0 → fs ≡ es ++ (id, slot) ∷ [] → seen head fs ≡ entered (seen head es) id slot
  entered-room room first is =
      let short : nat_lt (length (turned head es)) cap ≡ true = lt-ltb _ _ (omega (arith, length-turned head es)) in
      let straight : (xs : List (TxnId × Slot)) → turned head xs ≡ xs = λ (xs : List (TxnId × Slot)). ap (λ n. turned n xs) first ∙ turned-zero xs in
      λ j. record { cap = cap; entries = (straight fs ∙ is ∙ ap (λ l. l ++ (id, slot) ∷ []) (sym (straight es)) ∙ ap (λ b. cond b (turned head es) (drop 1 (turned head es)) ++ (id, slot) ∷ []) (sym short)) j }

module _ (cap head : ℕ) (es fs : List (TxnId × Slot)) (id : TxnId) (answer : List ℕ) (is : fs ≡ map (answered_at id answer) es) where
  pub filled-turned : (let t : Table = record { cap = cap; entries = turned head fs } in t) ≡ filled (record { cap = cap; entries = turned head es }) id answer
  filled-turned = λ j. record { cap = cap; entries = (ap (turned head) is ∙ turned-map (answered_at id answer) head es) j }

  pub ring-filled : IsRing cap head es → IsRing cap head fs
  ring-filled r =
      let long : length fs ≡ length es = ap length is ∙ length-map es (answered_at id answer) in
      record {
        few = omega (arith, r.few);
        within = r.within;
        straight = λ room. r.straight (omega arith);
        distinct = subst (IsDistinct same_id) (sym (ap keys_of is ∙ keys-changed (same_id id) (λ (s : Slot). record { request = s.request; answer = Some answer }) es)) r.distinct;
      }

-- What a closed log leaves, and the rest after it.
use Rattle.std.proofs.Common.{◌≡◌, ◌⊎◌, inl, inr, ℕ, Bool, IsTrue, IfOk, List, [], ◌∷◌, ◌++◌, Option, Some, Result, Ok, Err, refl, sym, ap, ◌∙◌, subst}
use Rattle.claim_model.specs.Node.{Node}
use Rattle.world_setup.specs.Seen.{settings_seen}
use Rattle.node_state.specs.Resting.{resumed}
use Rattle.kept_logs.specs.References.{Reference}
use Rattle.kept_logs.specs.Rests.{FitsRest, begins, calls_before, references_of, rest_in, rest_text}
use Rattle.kept_logs.proofs.RestsBack.{rest_back, begins_back}
use Rattle.log_turning.specs.declared.turning.Closed.{Closed}
use Rattle.log_turning.specs.Joined.{Part, last_part}
use Rattle.log_turning.specs.Left.{AreLeft, IsLeft, IsLeftBy, rest_of}
use Rattle.log_turning.specs.Turned.{IsClosed}

-- one log more after some
pub left_more : (text : List ℕ) (node : Node) (last : Option Part) (ps : List Part) (p : Part) → AreLeft text node last ps → IsLeft text node (last_part last ps) p → AreLeft text node last (ps ++ p ∷ [])
left_more text node last [] p are one = (one, tt)
left_more text node last (q ∷ ps) p (first, more) one = (first, left_more text node (Some q) ps p more one)

-- a rest with the bytes of what was left begins a log with the node that left it
pub is_left : (text : List ℕ) (node : Node) (p : Part) (rest : List ℕ) (left : Closed) → IsClosed text node p.rest p.log left
    → rest ≡ rest_text (rest_of node (calls_before (Some rest)) p.log left.references.items left.record.items) → FitsRest (rest_of node (calls_before (Some rest)) p.log left.references.items left.record.items) → IsLeftBy text node p rest
is_left text node p rest left is same fits =
    let calls = calls_before (Some rest) in
    let names = rest_of node calls p.log left.references.items left.record.items in
    let stands : resumed (settings_seen is.last.settings) node left.record.items ≡ Some is.last.state = ap (λ (n : Node). resumed (settings_seen is.last.settings) n left.record.items) (sym is.serves.named) ∙ is.started in
    record {
      kept = left.kept;
      last = is.last;
      serves = is.serves;
      left = left.record.items;
      started = is.started;
      is = same ∙ ap (λ (references : List Reference). rest_text (rest_of node calls p.log references left.record.items)) is.referred;
      goes_on = ap (λ (bytes : List ℕ). begins is.last.settings node (Some bytes)) same ∙ begins_back is.last.settings names is.last.state fits stands;
      referred = ap references_of (ap rest_in same ∙ rest_back names fits) ∙ is.referred;
    }

-- ---- what was compared

pub by_same : {E : Type 0} (A B C U : Type 0) (r : Result Bool E) → IfOk r (λ same. IsTrue same → A) → IfOk r (λ same. B) → (A → B → C) → IfOk r (λ same. IsTrue same → (U ⊎ C))
by_same A B C U (Ok same) holds fits goes = λ is. inr (goes (holds is) fits)
by_same A B C U (Err why) holds fits goes = tt

pub by_other : {E : Type 0} (A C : Type 0) (r : Result Bool E) → IfOk r (λ same. IsTrue same ⊎ A) → (A → C) → IfOk r (λ same. IsTrue same ⊎ C)
by_other A C (Ok same) (inl is) goes = inl is
by_other A C (Ok same) (inr other) goes = inr (goes other)
by_other A C (Err why) fails goes = tt
